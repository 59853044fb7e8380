-- Why every order is whole: the first one is, and making a way the newest keeps each way as often as it was.
use Rattle.std.specs.Prelude.{◌≡◌, ℕ, zero, suc, ◌+◌, cond, List, [], ◌∷◌, ◌++◌, ◌==◌, refl}
use Rattle.std.proofs.Common.{sym, ap, ◌∙◌, add_comm, arith}
use Rattle.std.proofs.lemmas.List.Sums.{sum_by-cons, sum_by_push}
use Rattle.std.proofs.lemmas.Bool.{cond_both, eqb-true}
use Rattle.victim.specs.Ages.{Whole, newest, times}

pub times_newest : (xs : List ℕ) (way other : ℕ) → times (newest xs way) other ≡ times xs other
times_newest [] way other = refl
times_newest (x ∷ xs) way other =
    let n : ℕ → ℕ = λ y. cond (y == other) 1 0 in
    cond_both (x == way) (xs ++ way ∷ []) (x ∷ newest xs way) (λ ys. times ys other ≡ times (x ∷ xs) other)
    (λ e. sum_by_push n xs way ∙ add_comm (times xs other) (n way) ∙ ap (λ y. n y + times xs other) (sym (eqb-true x way e)) ∙ sym (sum_by-cons n x xs))
    (λ e. sum_by-cons n x (newest xs way) ∙ ap (λ k. n x + k) (times_newest xs way other) ∙ sym (sum_by-cons n x xs))

pub whole_newest : (xs : List ℕ) (way : ℕ) → Whole xs → Whole (newest xs way)
whole_newest xs way whole other h = times_newest xs way other ∙ whole other h

pub whole_first : Whole (0 ∷ 1 ∷ 2 ∷ 3 ∷ 4 ∷ 5 ∷ 6 ∷ 7 ∷ [])
whole_first zero h = refl
whole_first (suc zero) h = refl
whole_first (suc (suc zero)) h = refl
whole_first (suc (suc (suc zero))) h = refl
whole_first (suc (suc (suc (suc zero)))) h = refl
whole_first (suc (suc (suc (suc (suc zero))))) h = refl
whole_first (suc (suc (suc (suc (suc (suc zero)))))) h = refl
whole_first (suc (suc (suc (suc (suc (suc (suc zero))))))) h = refl
whole_first (suc (suc (suc (suc (suc (suc (suc (suc way)))))))) h = absurd (omega arith)
