-- The partials pending in the lines, and the number of lines held
-- what a line holds back of a cell
use Rattle.std.proofs.Common.{◌≡◌, ℕ, zero, suc, ◌+◌, ◌<◌, false, cond, eqb, List, [], ◌∷◌, length, get_or, set, sym, refl, ap, ◌∙◌, le_of_suc-le-suc, not-suc-le-zero, arith}
use Rattle.std.proofs.lemmas.List.{set-get_or}
use Rattle.operation.specs.Algebra.{Algebra, Lawful}
use Rattle.tables.specs.Lines.{is_held}
use Rattle.tables.specs.declared.line.Line.{Line}
use Rattle.tables.specs.declared.line.Line.TheVariants.{Invalid, Modified, Shared, UpdateOnly}
use Rattle.model.specs.Bench.{held_count}

abbrev pub part : {V P : Type 0} → Algebra V P → ℕ → Line V P → P
part o a Invalid = o.neutral
part o a (Shared b v) = o.neutral
part o a (UpdateOnly b d) = cond (eqb b a) d o.neutral
part o a (Modified b v) = o.neutral

abbrev pub pend : {V P : Type 0} → Algebra V P → ℕ → List (Line V P) → P
pend o a [] = o.neutral
pend o a (l ∷ ls) = o.join (part o a l) (pend o a ls)

module _ {V P : Type 0} (o : Algebra V P) (law : Lawful o) where
  pub swap : (a b c : P) → o.join a (o.join b c) ≡ o.join b (o.join a c)
  swap a b c = law.assoc a b c ∙ ap (λ x. o.join x c) (law.comm a b) ∙ sym (law.assoc b a c)

  pub unit_right : (a : P) → o.join a o.neutral ≡ a
  unit_right a = law.comm a o.neutral ∙ law.unit a

  -- line i out, the rest stays
  pub pend_set : (a : ℕ) (ls : List (Line V P)) (i : ℕ) (x : Line V P) → i < length ls → pend o a (set ls i x) ≡ o.join (part o a x) (pend o a (set ls i Invalid))
  pend_set a [] i x h = absurd (not-suc-le-zero h)
  pend_set a (l ∷ ls) zero x h = ap (o.join (part o a x)) (sym (law.unit (pend o a ls)))
  pend_set a (l ∷ ls) (suc i) x h = ap (o.join (part o a l)) (pend_set a ls i x (le_of_suc-le-suc h)) ∙ swap (part o a l) (part o a x) (pend o a (set ls i Invalid))

  pub pend_split : (a : ℕ) (ls : List (Line V P)) (i : ℕ) → i < length ls → pend o a ls ≡ o.join (part o a (get_or ls i Invalid)) (pend o a (set ls i Invalid))
  pend_split a ls i h = ap (pend o a) (sym (set-get_or ls i Invalid)) ∙ pend_set a ls i (get_or ls i Invalid) h

  -- a change of nothing to nothing
  pub pend_same : (a : ℕ) (ls : List (Line V P)) (i : ℕ) (x : Line V P) → i < length ls → part o a (get_or ls i Invalid) ≡ part o a x → pend o a (set ls i x) ≡ pend o a ls
  pend_same a ls i x h e = pend_set a ls i x h ∙ ap (λ y. o.join y (pend o a (set ls i Invalid))) (sym e) ∙ sym (pend_split a ls i h)

  pub pend_none : (a : ℕ) (ls : List (Line V P)) → ((i : ℕ) → part o a (get_or ls i Invalid) ≡ o.neutral) → pend o a ls ≡ o.neutral
  pend_none a [] h = refl
  pend_none a (l ∷ ls) h = ap (λ x. o.join x (pend o a ls)) (h 0) ∙ law.unit (pend o a ls) ∙ pend_none a ls (λ i. h (suc i))

pub held_set : {V P : Type 0} (ls : List (Line V P)) (i : ℕ) (x : Line V P) → i < length ls → held_count (set ls i x) + cond (is_held (get_or ls i Invalid)) 1 0 ≡ held_count ls + cond (is_held x) 1 0
held_set [] i x h = absurd (not-suc-le-zero h)
held_set (l ∷ ls) zero x h = omega arith
held_set (l ∷ ls) (suc i) x h = omega (arith, held_set ls i x (le_of_suc-le-suc h))

pub held_none : {V P : Type 0} (ls : List (Line V P)) → ((i : ℕ) → is_held (get_or ls i Invalid) ≡ false) → held_count ls ≡ 0
held_none [] h = refl
held_none (l ∷ ls) h = rw (h 0) (omega (arith, held_none ls (λ i. h (suc i))))
