-- What a partial that acts at one place leaves
use Rattle.std.proofs.Common.{◌≡◌, ℕ, zero, suc, ◌<◌, ◌≤◌, ◌≢◌, List, [], ◌∷◌, length, get_or, set, refl, ap, arith}
use Rattle.operation.specs.Algebra.{Algebra, applied}

module _ {V P : Type 0} (o : Algebra V P) where
  pub length_applied : (cs : List V) (i : ℕ) (p : P) → length (applied o cs i p) ≡ length cs
  length_applied [] i p = refl
  length_applied (c ∷ cs) zero p = refl
  length_applied (c ∷ cs) (suc i) p = ap suc (length_applied cs i p)

  pub applied_past : (cs : List V) (i : ℕ) (p : P) → length cs ≤ i → applied o cs i p ≡ cs
  applied_past [] i p past = refl
  applied_past (c ∷ cs) zero p past = absurd (omega arith)
  applied_past (c ∷ cs) (suc i) p past = ap (λ t. c ∷ t) (applied_past cs i p (omega arith))

  -- the partial that changes nothing
  pub applied_neutral : ((v : V) → o.act v o.neutral ≡ v) → (cs : List V) (i : ℕ) → applied o cs i o.neutral ≡ cs
  applied_neutral still [] i = refl
  applied_neutral still (c ∷ cs) zero = ap (λ t. t ∷ cs) (still c)
  applied_neutral still (c ∷ cs) (suc i) = ap (λ t. c ∷ t) (applied_neutral still cs i)

  -- two partials at one place are their join
  pub applied_twice : ((v : V) (a b : P) → o.act (o.act v a) b ≡ o.act v (o.join a b)) → (cs : List V) (i : ℕ) (p q : P) → applied o (applied o cs i p) i q ≡ applied o cs i (o.join p q)
  applied_twice twice [] i p q = refl
  applied_twice twice (c ∷ cs) zero p q = ap (λ t. t ∷ cs) (twice c p q)
  applied_twice twice (c ∷ cs) (suc i) p q = ap (λ t. c ∷ t) (applied_twice twice cs i p q)

  -- partials at two places act in either order
  pub applied_apart : (cs : List V) (i : ℕ) (p : P) (j : ℕ) (q : P) → i ≢ j → applied o (applied o cs i p) j q ≡ applied o (applied o cs j q) i p
  applied_apart [] i p j q ne = refl
  applied_apart (c ∷ cs) zero p zero q ne = absurd (ne refl)
  applied_apart (c ∷ cs) zero p (suc j) q ne = refl
  applied_apart (c ∷ cs) (suc i) p zero q ne = refl
  applied_apart (c ∷ cs) (suc i) p (suc j) q ne = ap (λ t. c ∷ t) (applied_apart cs i p j q (λ e. ne (ap suc e)))

  -- what is put in place of a value forgets what acted on it
  pub set_applied : (cs : List V) (i : ℕ) (p : P) (v : V) → set (applied o cs i p) i v ≡ set cs i v
  set_applied [] i p v = refl
  set_applied (c ∷ cs) zero p v = refl
  set_applied (c ∷ cs) (suc i) p v = ap (λ t. c ∷ t) (set_applied cs i p v)

  pub set_applied_apart : (cs : List V) (i : ℕ) (p : P) (j : ℕ) (v : V) → i ≢ j → set (applied o cs i p) j v ≡ applied o (set cs j v) i p
  set_applied_apart [] i p j v ne = refl
  set_applied_apart (c ∷ cs) zero p zero v ne = absurd (ne refl)
  set_applied_apart (c ∷ cs) zero p (suc j) v ne = refl
  set_applied_apart (c ∷ cs) (suc i) p zero v ne = refl
  set_applied_apart (c ∷ cs) (suc i) p (suc j) v ne = ap (λ t. c ∷ t) (set_applied_apart cs i p j v (λ e. ne (ap suc e)))

  -- a partial acts on the value that was put there last
  pub applied_set : (cs : List V) (i : ℕ) (v : V) (p : P) → applied o (set cs i v) i p ≡ set cs i (o.act v p)
  applied_set [] i v p = refl
  applied_set (c ∷ cs) zero v p = refl
  applied_set (c ∷ cs) (suc i) v p = ap (λ t. c ∷ t) (applied_set cs i v p)

  pub get_d_applied : (cs : List V) (i : ℕ) (p : P) (d : V) → i < length cs → get_or (applied o cs i p) i d ≡ o.act (get_or cs i d) p
  get_d_applied [] i p d within = absurd (omega arith)
  get_d_applied (c ∷ cs) zero p d within = refl
  get_d_applied (c ∷ cs) (suc i) p d within = get_d_applied cs i p d (omega arith)

  pub get_d_applied_apart : (cs : List V) (i : ℕ) (p : P) (j : ℕ) (d : V) → i ≢ j → get_or (applied o cs i p) j d ≡ get_or cs j d
  get_d_applied_apart [] i p j d ne = refl
  get_d_applied_apart (c ∷ cs) zero p zero d ne = absurd (ne refl)
  get_d_applied_apart (c ∷ cs) zero p (suc j) d ne = refl
  get_d_applied_apart (c ∷ cs) (suc i) p zero d ne = refl
  get_d_applied_apart (c ∷ cs) (suc i) p (suc j) d ne = get_d_applied_apart cs i p j d (λ e. ne (ap suc e))
