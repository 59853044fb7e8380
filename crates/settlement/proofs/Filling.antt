-- Filling a table from its first place on
use Rattle.std.proofs.Common.{◌≡◌, ℕ, zero, suc, ◌+◌, ◌<◌, ◌≤◌, List, [], ◌∷◌, ◌++◌, length, drop, set, replicate, refl, ap, add-one, arith}

module _ {X : Type 0} (x : X) where
  -- one place more
  fill_next : (ys : List X) (i : ℕ) → i < length ys → set (replicate i x ++ drop i ys) i x ≡ replicate (suc i) x ++ drop (suc i) ys
  fill_next [] i l = absurd (omega arith)
  fill_next (y ∷ ys) zero l = refl
  fill_next (y ∷ ys) (suc i) l = ap (λ t. x ∷ t) (fill_next ys i (omega arith))

  pub fill_more : (ys : List X) (i : ℕ) → i < length ys → set (replicate i x ++ drop i ys) i x ≡ replicate (i + 1) x ++ drop (i + 1) ys
  fill_more ys i l = rw add-one (fill_next ys i l)

  -- all places
  pub fill_all : (ys : List X) (i : ℕ) → length ys ≤ i → i ≤ length ys → replicate i x ++ drop i ys ≡ replicate (length ys) x
  fill_all [] zero l m = refl
  fill_all [] (suc i) l m = absurd (omega arith)
  fill_all (y ∷ ys) zero l m = absurd (omega arith)
  fill_all (y ∷ ys) (suc i) l m = ap (λ t. x ∷ t) (fill_all ys i (omega arith) (omega arith))
