-- An order falls by how long ago its ways were used, so that the oldest way is the one used the longest ago.
use Rattle.std.proofs.Common.{◌≡◌, ℕ, ◌+◌, ◌<◌, ◌≤◌, true, false, cond, ◌&&◌, eqb, List, [], ◌∷◌, ◌++◌, length, set, replicate, sym, refl, ap, ◌∙◌, subst, arith, rules}
use Rattle.std.proofs.ByRecursion.{All-push, All-weaker}
use Rattle.std.proofs.lemmas.List.{get_or-replicate, get_or-set_other, get_or-set_same, length-set}
use Rattle.std.proofs.lemmas.Bool.{cond_both, cond-false, cond-true, eq-eqb, eqb-false, eqb-true, ne_eqb}
use Rattle.std.specs.List.{AllByRecursion}
use Rattle.victim.specs.Ages.{newest, times}
use Rattle.victim.specs.Aging.{aging, order_of}
use Rattle.victim.specs.Limits.{hears}
use Rattle.victim.specs.Orders.{numbered, renewed}
use Rattle.victim.specs.Recency.{SparesRecent, ago, touched_by, used}
use Rattle.victim.specs.declared.oldest.Oldest.{Oldest}
use Rattle.victim.specs.Counting.{times_all, times_other}
use Rattle.victim.specs.Serving.{picked_oldest}

abbrev Falling : (ℕ → ℕ) → List ℕ → Type 0
Falling f [] = Unit {0}
Falling f (x ∷ xs) = AllByRecursion (λ y. f y < f x) xs × Falling f xs

-- what a use of a way does to how long ago another was used
ago_other : (H : List ℕ) (way y : ℕ) → (way ≡ y → ⊥) → ago (way ∷ H) y ≡ 1 + ago H y
ago_other H way y ne = cond-false _ _ _ (ne_eqb way y ne)

ago_same : (H : List ℕ) (way : ℕ) → ago (way ∷ H) way ≡ 0
ago_same H way = cond-true _ _ _ (eq-eqb way way refl)

ago_less : (H : List ℕ) (way x y : ℕ) → (way ≡ x → ⊥) → ago H y < ago H x → ago (way ∷ H) y < ago (way ∷ H) x
ago_less H way x y ne h = cond_both (eqb way y) 0 (1 + ago H y) (λ n. n < ago (way ∷ H) x) (λ e. rw (ago_other H way x ne) (omega arith)) (λ e. rw (ago_other H way x ne) (omega arith))

all_newest : (P : ℕ → Type 0) (xs : List ℕ) (way : ℕ) → P way → AllByRecursion P xs → AllByRecursion P (newest xs way)
all_newest P [] way p all = tt
all_newest P (x ∷ xs) way p (q, all) =
    cond_both (eqb x way) (xs ++ way ∷ []) (x ∷ newest xs way) (AllByRecursion P)
    (λ e. All-push P xs way all p)
    (λ e. (q, all_newest P xs way p all))

falling_push : (f : ℕ → ℕ) (xs : List ℕ) (y : ℕ) → AllByRecursion (λ x. f y < f x) xs → Falling f xs → Falling f (xs ++ y ∷ [])
falling_push f [] y low fall = (tt, tt)
falling_push f (x ∷ xs) y (l, low) (all, fall) = (All-push (λ z. f z < f x) xs y all l, falling_push f xs y low fall)

falling_others : (H : List ℕ) (way : ℕ) (xs : List ℕ) → AllByRecursion (λ y. way ≡ y → ⊥) xs → Falling (ago H) xs → Falling (ago (way ∷ H)) xs
falling_others H way [] others fall = tt
falling_others H way (x ∷ xs) (ne, others) (all, fall) =
    (All-weaker (λ y. ago H y < ago H x) (λ y. ago (way ∷ H) y < ago (way ∷ H) x) (λ y h. ago_less H way x y ne h) xs all, falling_others H way xs others fall)

-- a use of a way, with the way made the newest, keeps that the order falls
falling_newest : (H : List ℕ) (way : ℕ) (xs : List ℕ) → Falling (ago H) xs → Falling (ago (way ∷ H)) (newest xs way)
falling_newest H way [] fall = tt
falling_newest H way (x ∷ xs) (all, fall) =
    cond_both (eqb x way) (xs ++ way ∷ []) (x ∷ newest xs way) (Falling (ago (way ∷ H)))
    (λ e. let others : AllByRecursion (λ y. way ≡ y → ⊥) xs = All-weaker (λ y. ago H y < ago H x) (λ y. way ≡ y → ⊥) (λ y h is. omega (arith, ap (ago H) (eqb-true x way e ∙ is))) xs all in
    falling_push (ago (way ∷ H)) xs way
    (All-weaker (λ y. way ≡ y → ⊥) (λ y. ago (way ∷ H) way < ago (way ∷ H) y) (λ y ne. rw (ago_same H way, ago_other H way y ne) (omega arith)) xs others)
    (falling_others H way xs others fall))
    (λ e. let ne : way ≡ x → ⊥ = λ is. eqb-false x way e (sym is) in (
      all_newest (λ y. ago (way ∷ H) y < ago (way ∷ H) x) xs way
          (rw (ago_same H way, ago_other H way x ne) (omega arith))
          (All-weaker (λ y. ago H y < ago H x) (λ y. ago (way ∷ H) y < ago (way ∷ H) x) (λ y h. ago_less H way x y ne h) xs all),
      falling_newest H way xs fall,
    ))

-- the first way below a bound in a falling order is above all others below it
falling_first : (f : ℕ → ℕ) (older newer : List ℕ) (bound first way : ℕ) → AllByRecursion (λ x. bound ≤ x) older → way < bound → (times (older ++ first ∷ newer) way ≡ 0 → ⊥) → Falling f (older ++ first ∷ newer) → f way ≤ f first
falling_first f [] newer bound first way out h some (all, fall) =
    times_all (λ y. f y ≤ f first) (first ∷ newer) way some (omega arith, All-weaker (λ y. f y < f first) (λ y. f y ≤ f first) (λ y l. omega arith) newer all)
falling_first f (x ∷ older) newer bound first way (le, out) h some (all, fall) =
    falling_first f older newer bound first way out h (λ none. some (times_other x (older ++ first ∷ newer) way (ne_eqb x way (λ e. omega arith)) ∙ none)) fall

falling_touched : (y : Oldest) (H : List ℕ) (party who way : ℕ) → length y.orders ≡ 16 → party < 16 → Falling (ago H) (order_of y party).ways → Falling (ago (cond (hears who way && eqb who party) (way ∷ H) H)) (order_of (aging.touched y who way) party).ways
unfolding renewed
falling_touched y H party who way len h fall =
    let after : Oldest = record { orders = set y.orders who (renewed (order_of y who) way) } in
    elim (hears who way) as (λ b. Falling (ago (cond (b && eqb who party) (way ∷ H) H)) (order_of (cond b after y) party).ways) [
      | true ↦ cond_both (eqb who party) (way ∷ H) H (λ K. Falling (ago K) (order_of after party).ways)
          (λ e. let within : party < length y.orders = omega arith in
          rw (eqb-true who party e, get_or-set_same y.orders party (renewed (order_of y party) way) numbered within) (falling_newest H way (order_of y party).ways fall))
          (λ e. rw (get_or-set_other y.orders who party (renewed (order_of y who) way) numbered (λ is. eqb-false who party e (sym is))) fall)
      | false ↦ fall
    ]

length_touched : (y : Oldest) (who way : ℕ) → length (aging.touched y who way).orders ≡ length y.orders
length_touched y who way =
    cond_both (hears who way) (record { orders = set y.orders who (renewed (order_of y who) way) }) y (λ z. length z.orders ≡ length y.orders)
    (λ _. length-set y.orders who (renewed (order_of y who) way))
    (λ _. refl)

falling_numbered : Falling (ago (7 ∷ 6 ∷ 5 ∷ 4 ∷ 3 ∷ 2 ∷ 1 ∷ 0 ∷ [])) numbered.ways
unfolding numbered
falling_numbered = search rules

falling_after : (x : Oldest) (touches : List (ℕ × ℕ)) (party : ℕ) → x.orders ≡ replicate 16 numbered → party < 16 → (length (touched_by x touches).orders ≡ 16) × Falling (ago (used party touches)) (order_of (touched_by x touches) party).ways
falling_after x [] party start h = (ap length start, rw (start, get_or-replicate 16 party numbered numbered h) falling_numbered)
falling_after x ((who, way) ∷ earlier) party start h =
    let before = falling_after x earlier party start h in
    (length_touched (touched_by x earlier) who way ∙ before.0, falling_touched (touched_by x earlier) (used party earlier) party who way before.0 h before.1)

pub spares_recent : (x : Oldest) → x.orders ≡ replicate 16 numbered → SparesRecent x
spares_recent x start touches party ways way s h =
    let y = touched_by x touches in
    let (older, newer, is, below, out) = picked_oldest y party ways s in
    falling_first (ago (used party touches)) older newer ways (aging.picked y party ways) way out h
    (λ none. omega (arith, (order_of y party).whole way (omega arith), ap (λ xs. times xs way) is))
    (subst (Falling (ago (used party touches))) is (falling_after x touches party start s.0).1)
