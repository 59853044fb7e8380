-- How often a way stands in an order, and what that says of it.
use Rattle.std.specs.Prelude.{◌≡◌, ℕ, ◌<◌, ◌≤◌, false, cond, List, [], ◌∷◌, ◌==◌, ◌≢◌, refl}
use Rattle.std.proofs.Common.{subst, ◌∙◌, inl, inr, arith}
use Rattle.std.proofs.lemmas.List.Sums.{sum_by-cons}
use Rattle.std.proofs.lemmas.Bool.{cases_Bool, eqb-true, ne_eqb}
use Rattle.std.specs.List.{AllByRecursion}
use Rattle.victim.specs.Ages.{times}

pub times_other : (x : ℕ) (xs : List ℕ) (way : ℕ) → (x == way) ≡ false → times (x ∷ xs) way ≡ times xs way
times_other x xs way e = sum_by-cons (λ y. cond (y == way) 1 0) x xs ∙ rw e (omega arith)

-- a way below all that stand in an order does not
pub times_below : (xs : List ℕ) (bound way : ℕ) → way < bound → AllByRecursion (λ x. bound ≤ x) xs → times xs way ≡ 0
times_below [] bound way h all = refl
times_below (x ∷ xs) bound way h (le, all) = times_other x xs way (ne_eqb x way (λ e. omega arith)) ∙ times_below xs bound way h all

-- what holds of all that stand in an order holds of a way that does
pub times_all : (P : ℕ → Type 0) (xs : List ℕ) (way : ℕ) → (times xs way ≢ 0) → AllByRecursion P xs → P way
times_all P [] way some all = absurd (some refl)
times_all P (x ∷ xs) way some (p, all) =
    elim (cases_Bool (x == way)) [
      | inl e ↦ subst P (eqb-true x way e) p
      | inr e ↦ times_all P xs way (λ none. some (times_other x xs way e ∙ none)) all
    ]
