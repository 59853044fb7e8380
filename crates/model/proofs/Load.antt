-- How much the lines leave to do before a party is granted
-- a table with one place changed, where both the old and the new will do
use Rattle.std.proofs.Common.{◌≡◌, ℕ, zero, suc, ◌+◌, ◌*◌, ◌<◌, ◌≤◌, Bool, true, false, not, ◌||◌, List, [], ◌∷◌, length, get_or, set, Some, None, Option, sym, refl, ap, ◌∙◌, ⊎_elim, arith}
use Rattle.std.proofs.lemmas.List.{get_or-set_other, get_or-set_same}
use Rattle.std.proofs.lemmas.Bool.{both_ways, cases_eq, or_from, or_parts}
use Rattle.operation.specs.Algebra.{Algebra}
use Rattle.tables.proofs.Tests.{no}
use Rattle.tables.specs.Lines.{conflicts, is_held, is_of, target}
use Rattle.tables.specs.declared.line.Line.{Line}
use Rattle.tables.specs.declared.line.Line.TheVariants.{Invalid, Modified, Shared, UpdateOnly}
use Rattle.tables.specs.declared.request.Request.{Request}
use Rattle.tables.specs.declared.request.Request.TheVariants.{Read, Update, Write}
use Rattle.model.proofs.Basics.{Owns}
use Rattle.model.proofs.Coherence.{Pair}
use Rattle.model.proofs.Kept.{conflicts_invalid}
use Rattle.model.proofs.TabledMoves.{held_hit_line}
use Rattle.model.proofs.Tally.{missing, missing_mono, missing_none, missing_some, tally, tally_less, tally_mono, tally_parties, tally_without}
use Rattle.model.specs.Bench.{hit_line}
use Rattle.party_set.proofs.Searches.{first_none}
use Rattle.party_set.specs.Searches.{first}

pub set_any : {X : Type 0} (Q : ℕ → X → Type 0) (xs : List X) (i : ℕ) (x d : X) → Q i x → ((j : ℕ) → Q j (get_or xs j d)) → (j : ℕ) → Q j (get_or (set xs i x) j d)
set_any Q [] i x d here there j = there j
set_any Q (y ∷ xs) zero x d here there zero = here
set_any Q (y ∷ xs) zero x d here there (suc j) = there (suc j)
set_any Q (y ∷ xs) (suc i) x d here there zero = there zero
set_any Q (y ∷ xs) (suc i) x d here there (suc j) = set_any (λ n. Q (suc n)) xs i x d here (λ n. there (suc n)) j

pub conflicts_of : {V P : Type 0} (r : Request V P) (l : Line V P) → conflicts r l ≡ true → is_of (target r) l ≡ true
conflicts_of (Read a) Invalid h = h
conflicts_of (Read a) (Shared b v) h = absurd (no h)
conflicts_of (Read a) (UpdateOnly b d) h = h
conflicts_of (Read a) (Modified b v) h = h
conflicts_of (Write a u) Invalid h = h
conflicts_of (Write a u) (Shared b v) h = h
conflicts_of (Write a u) (UpdateOnly b d) h = h
conflicts_of (Write a u) (Modified b v) h = h
conflicts_of (Update a e) Invalid h = h
conflicts_of (Update a e) (Shared b v) h = h
conflicts_of (Update a e) (UpdateOnly b d) h = absurd (no h)
conflicts_of (Update a e) (Modified b v) h = h

pub hit_line_conflicts : {V P : Type 0} (o : Algebra V P) (q : Request V P) (l : Line V P) (r : Request V P) → conflicts r (hit_line o q l) ≡ conflicts r l
hit_line_conflicts o (Read b) l r = refl
hit_line_conflicts o (Write b u) Invalid (Read a) = refl
hit_line_conflicts o (Write b u) Invalid (Write a y) = refl
hit_line_conflicts o (Write b u) Invalid (Update a z) = refl
hit_line_conflicts o (Write b u) (Shared c v) (Read a) = refl
hit_line_conflicts o (Write b u) (Shared c v) (Write a y) = refl
hit_line_conflicts o (Write b u) (Shared c v) (Update a z) = refl
hit_line_conflicts o (Write b u) (UpdateOnly c d) (Read a) = refl
hit_line_conflicts o (Write b u) (UpdateOnly c d) (Write a y) = refl
hit_line_conflicts o (Write b u) (UpdateOnly c d) (Update a z) = refl
hit_line_conflicts o (Write b u) (Modified c v) (Read a) = refl
hit_line_conflicts o (Write b u) (Modified c v) (Write a y) = refl
hit_line_conflicts o (Write b u) (Modified c v) (Update a z) = refl
hit_line_conflicts o (Update b e) Invalid (Read a) = refl
hit_line_conflicts o (Update b e) Invalid (Write a y) = refl
hit_line_conflicts o (Update b e) Invalid (Update a z) = refl
hit_line_conflicts o (Update b e) (Shared c v) (Read a) = refl
hit_line_conflicts o (Update b e) (Shared c v) (Write a y) = refl
hit_line_conflicts o (Update b e) (Shared c v) (Update a z) = refl
hit_line_conflicts o (Update b e) (UpdateOnly c d) (Read a) = refl
hit_line_conflicts o (Update b e) (UpdateOnly c d) (Write a y) = refl
hit_line_conflicts o (Update b e) (UpdateOnly c d) (Update a z) = refl
hit_line_conflicts o (Update b e) (Modified c v) (Read a) = refl
hit_line_conflicts o (Update b e) (Modified c v) (Write a y) = refl
hit_line_conflicts o (Update b e) (Modified c v) (Update a z) = refl

-- a line that is Invalid or will be recalled
abbrev pub loose : {V P : Type 0} → Request V P → Line V P → Bool
loose r l = not (is_held l) || conflicts r l

abbrev pub load : {V P : Type 0} → ℕ → ℕ → List (Line V P) → ℕ → Request V P → ℕ
load n w ls q r = tally (λ i. conflicts r (get_or ls i Invalid)) (n * w) + missing (first (λ i. loose r (get_or ls i Invalid)) (q * w) w) + 1

module _ {V P : Type 0} (n w : ℕ) (ls : List (Line V P)) (q : ℕ) (r : Request V P) where
  pub load_low : 1 ≤ load n w ls q r
  load_low = omega arith

  pub load_high : q < n → ((i j : ℕ) → (i ≡ j → ⊥) → Pair w i j (get_or ls i Invalid) (get_or ls j Invalid)) → load n w ls q r ≤ n + 1
  load_high low apart = go (first (λ i. loose r (get_or ls i Invalid)) (q * w) w) refl
    where
      t : ℕ → Bool
      t i = conflicts r (get_or ls i Invalid)

      single : (p i j : ℕ) → Owns w p i → Owns w p j → t i ≡ true → t j ≡ true → i ≡ j
      single p i j a b x y = ⊎_elim (λ e. e) (λ (m : i ≡ j → ⊥). absurd ((apart i j m (target r) (conflicts_of r (get_or ls i Invalid) x) (conflicts_of r (get_or ls j Invalid) y)).2 p a b)) (cases_eq i j)

      go : (x : Option ℕ) → first (λ i. loose r (get_or ls i Invalid)) (q * w) w ≡ x → tally t (n * w) + missing x + 1 ≤ n + 1
      go (Some i) e = omega (arith, tally_parties t w single n)
      go None e = omega (arith, tally_without t w single q (λ i o. (or_parts (not (is_held (get_or ls i Invalid))) (t i) (first_none (λ i. loose r (get_or ls i Invalid)) (q * w) w e i o.0 o.1)).1) n low)

  -- a change after which no line conflicts anew and none of the party's stops being loose
  pub load_mono : (ms : List (Line V P)) → ((j : ℕ) → conflicts r (get_or ms j Invalid) ≡ true → conflicts r (get_or ls j Invalid) ≡ true)
      → ((j : ℕ) → Owns w q j → loose r (get_or ls j Invalid) ≡ true → loose r (get_or ms j Invalid) ≡ true) → load n w ms q r ≤ load n w ls q r
  load_mono ms a b =
      omega (
        arith,
        tally_mono (λ i. conflicts r (get_or ls i Invalid)) (λ i. conflicts r (get_or ms i Invalid)) (n * w) a,
        missing_mono (λ i. loose r (get_or ls i Invalid)) (λ i. loose r (get_or ms i Invalid)) (q * w) w (λ j lo hi h. b j (lo, hi) h),
      )

  pub load_send : (i : ℕ) → load n w (set ls i Invalid) q r ≤ load n w ls q r
  load_send i = load_mono (set ls i Invalid)
      (set_any (λ j l. conflicts r l ≡ true → conflicts r (get_or ls j Invalid) ≡ true) ls i Invalid Invalid (λ h. absurd (both_ways _ (conflicts_invalid r) h)) (λ j h. h))
      (λ j _ h. set_any (λ j l. loose r (get_or ls j Invalid) ≡ true → loose r l ≡ true) ls i Invalid Invalid (λ _. refl) (λ j h. h) j h)

  pub load_served : (o : Algebra V P) (i : ℕ) (p : Request V P) → load n w (set ls i (hit_line o p (get_or ls i Invalid))) q r ≤ load n w ls q r
  load_served o i p = load_mono (set ls i (hit_line o p (get_or ls i Invalid)))
      (set_any (λ j l. conflicts r l ≡ true → conflicts r (get_or ls j Invalid) ≡ true) ls i new Invalid (λ h. sym (hit_line_conflicts o p (get_or ls i Invalid) r) ∙ h) (λ j h. h))
      (λ j _ h. set_any (λ j l. loose r (get_or ls j Invalid) ≡ true → loose r l ≡ true) ls i new Invalid (λ h. same ∙ h) (λ j h. h) j h)
    where
      new : Line V P
      new = hit_line o p (get_or ls i Invalid)

      same : loose r new ≡ loose r (get_or ls i Invalid)
      same = ap (λ z. not z || conflicts r new) (held_hit_line o p (get_or ls i Invalid)) ∙ ap (λ z. not (is_held (get_or ls i Invalid)) || z) (hit_line_conflicts o p (get_or ls i Invalid) r)

  pub load_other : (i : ℕ) (x : Line V P) → (Owns w q i → ⊥) → is_of (target r) x ≡ false → load n w (set ls i x) q r ≤ load n w ls q r
  load_other i x foreign off = load_mono (set ls i x)
      (set_any (λ j l. conflicts r l ≡ true → conflicts r (get_or ls j Invalid) ≡ true) ls i x Invalid (λ h. absurd (both_ways _ off (conflicts_of r x h))) (λ j h. h))
      (set_any (λ j l. Owns w q j → loose r (get_or ls j Invalid) ≡ true → loose r l ≡ true) ls i x Invalid (λ o _. absurd (foreign o)) (λ j _ h. h))

  pub load_recall : (i : ℕ) → i < length ls → i < n * w → conflicts r (get_or ls i Invalid) ≡ true → load n w (set ls i Invalid) q r + 1 ≤ load n w ls q r
  load_recall i short low h =
      omega (
        arith,
        tally_less (λ j. conflicts r (get_or ls j Invalid)) (λ j. conflicts r (get_or (set ls i Invalid) j Invalid)) (n * w) i low h
            (ap (conflicts r) (get_or-set_same ls i Invalid Invalid short) ∙ conflicts_invalid r) (λ j m. ap (conflicts r) (get_or-set_other ls i j Invalid Invalid m)),
        missing_mono (λ j. loose r (get_or ls j Invalid)) (λ j. loose r (get_or (set ls i Invalid) j Invalid)) (q * w) w
            (λ j _ _ h. set_any (λ j l. loose r (get_or ls j Invalid) ≡ true → loose r l ≡ true) ls i Invalid Invalid (λ _. refl) (λ j h. h) j h),
      )

  pub load_evict : (i : ℕ) → i < length ls → Owns w q i → ((j : ℕ) → Owns w q j → is_held (get_or ls j Invalid) ≡ true) → ((j : ℕ) → conflicts r (get_or ls j Invalid) ≡ false) → load n w (set ls i Invalid) q r + 1 ≤ load n w ls q r
  load_evict i short mine full calm =
      omega (
        arith,
        tally_mono (λ j. conflicts r (get_or ls j Invalid)) (λ j. conflicts r (get_or (set ls i Invalid) j Invalid)) (n * w)
            (set_any (λ j l. conflicts r l ≡ true → conflicts r (get_or ls j Invalid) ≡ true) ls i Invalid Invalid (λ h. absurd (both_ways _ (conflicts_invalid r) h)) (λ j h. h)),
        missing_none (λ j. loose r (get_or ls j Invalid)) (q * w) w (λ j lo hi. or_from (not (is_held (get_or ls j Invalid))) (conflicts r (get_or ls j Invalid)) (ap not (full j (lo, hi))) (calm j)),
        missing_some (λ j. loose r (get_or (set ls i Invalid) j Invalid)) (q * w) w i mine.0 mine.1 (ap (loose r) (get_or-set_same ls i Invalid Invalid short)),
      )
