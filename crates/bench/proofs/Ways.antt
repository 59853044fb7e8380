-- The first place of a part of a list that passes a test, as a place of the whole list
use Rattle.std.proofs.Common.{◌≡◌, ℕ, zero, suc, ◌+◌, ◌≤◌, Bool, true, false, cond, List, length, get_or, take, drop, Some, Option, refl, ap, ◌∙◌, subst, arith, drop-cons}
use Rattle.std.specs.List.{position, position_from}
use Rattle.std.specs.Option.{option_map}
use Rattle.std.proofs.lemmas.Iterator.Adapters.{position_from-zero}
use Rattle.party_set.specs.Searches.{first}

shift : (b : Bool) (k i : ℕ) (u v : Option ℕ) → option_map (λ w. k + w) u ≡ v → option_map (λ w. k + w) (cond b (Some i) u) ≡ cond b (Some (k + i)) v
shift true k i u v e = refl
shift false k i u v e = e

module _ {X : Type 0} (t : X → Bool) (d : X) (xs : List X) where
  from_place : (k n i : ℕ) → k + i + n ≤ length xs → option_map (λ w. k + w) (position_from t i (take n (drop (k + i) xs))) ≡ first (λ j. t (get_or xs j d)) (k + i) n
  from_place k zero i h = refl
  from_place k (suc n) i h =
      let next : k + (i + 1) ≡ suc (k + i) = omega arith in
      let later : option_map (λ w. k + w) (position_from t (i + 1) (take n (drop (k + (i + 1)) xs))) ≡ first (λ j. t (get_or xs j d)) (k + (i + 1)) n = from_place k n (i + 1) (omega arith) in
      ap (λ ys. option_map (λ w. k + w) (position_from t i (take (suc n) ys))) (drop-cons xs (k + i) d (omega arith))
      ∙ shift (t (get_or xs (k + i) d)) k i _ _ (subst (λ m. option_map (λ w. k + w) (position_from t (i + 1) (take n (drop m xs))) ≡ first (λ j. t (get_or xs j d)) m n) next later)

  pub first_place : (k n : ℕ) → k + n ≤ length xs → option_map (λ w. k + w) (position t (take n (drop k xs))) ≡ first (λ j. t (get_or xs j d)) k n
  first_place k n h =
      let at_k : k + 0 ≡ k = omega arith in
      ap (option_map (λ w. k + w)) (position_from-zero t (take n (drop k xs)))
      ∙ subst (λ m. option_map (λ w. k + w) (position_from t 0 (take n (drop m xs))) ≡ first (λ j. t (get_or xs j d)) m n) at_k (from_place k n 0 (omega arith))
