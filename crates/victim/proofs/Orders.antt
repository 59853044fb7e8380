-- An order is its ways.
use mathlib.Core.HLevel.{is_prop→PathP, Π_prop}
use Rattle.std.proofs.Common.{◌≡◌, ℕ, ◌<◌, eqb, List, [], ◌∷◌, ◌++◌, length, get_or, set, sym, refl, ap, ◌∙◌, subst, arith}
use native.Mathlib.Nat.{ℕ_set}
use Rattle.std.proofs.lemmas.List.{get_or-set_same}
use Rattle.std.proofs.lemmas.Bool.{cond_both, eqb-true}
use Rattle.victim.specs.Ages.{Renewed, Whole, newest, times}
use Rattle.victim.specs.Keeping.{whole_newest}
use Rattle.victim.specs.Orders.{numbered, renewed}
use Rattle.victim.specs.declared.order.Order.{Order}
use Rattle.victim.specs.Counting.{times_other}

pub same_order : (a b : Order) → a.ways ≡ b.ways → a ≡ b
same_order a b e =
    λ i. record { ways = e i; whole = is_prop→PathP (λ i. Whole (e i)) (λ i. Π_prop (λ way. Π_prop (λ h. ℕ_set (times (e i) way) 1))) a.whole b.whole i }

pub whole_renewed : (xs ys : List ℕ) (way : ℕ) → ys ≡ newest xs way → Whole xs → Whole ys
whole_renewed xs ys way e whole = subst Whole (sym e) (whole_newest xs way whole)

-- the way that is made the newest leaves its place, and the others keep theirs
moved : (xs : List ℕ) (way : ℕ) → (times xs way ≡ 0 → ⊥) → Renewed xs way (newest xs way)
moved [] way some = absurd (some refl)
moved (x ∷ xs) way some =
    cond_both (eqb x way) (xs ++ way ∷ []) (x ∷ newest xs way) (Renewed (x ∷ xs) way)
    (λ e. ([], xs, ap (λ y. y ∷ xs) (eqb-true x way e), refl))
    (λ e. after (moved xs way (λ none. some (times_other x xs way e ∙ none))))
  where
    after : Renewed xs way (newest xs way) → Renewed (x ∷ xs) way (x ∷ newest xs way)
    after (older, newer, was, is) = (x ∷ older, newer, ap (λ ys. x ∷ ys) was, ap (λ ys. x ∷ ys) is)

pub touched_renewed : (orders : List Order) (party way : ℕ) (after : Order) → party < length orders → way < 8 → after ≡ renewed (get_or orders party numbered) way → Renewed (get_or orders party numbered).ways way (get_or (set orders party after) party numbered).ways
unfolding renewed
touched_renewed orders party way after h l e =
    let order = get_or orders party numbered in
    rw (get_or-set_same orders party after numbered h, e) (moved order.ways way (λ none. omega (arith, order.whole way l)))
