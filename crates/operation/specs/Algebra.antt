-- The words of an update operation
--   Algebra  what an operation computes: its neutral partial, the join of partials, a partial's action on a value
--   Lawful   the five laws between them
--   applied  a list of values once a partial has acted on the one at a place
use Rattle.std.specs.Prelude.{◌≡◌, ℕ, zero, suc, List, [], ◌∷◌}

pub record Algebra (V P : Type 0) : Type 0 where
  pub neutral : P
  pub join : P → P → P
  pub act : V → P → V

pub record Lawful {V P : Type 0} (o : Algebra V P) : Type 0 where
  pub assoc : (a b c : P) → o.join a (o.join b c) ≡ o.join (o.join a b) c
  pub comm : (a b : P) → o.join a b ≡ o.join b a
  pub unit : (a : P) → o.join o.neutral a ≡ a
  pub still : (v : V) → o.act v o.neutral ≡ v
  pub twice : (v : V) (a b : P) → o.act (o.act v a) b ≡ o.act v (o.join a b)

-- a place past the end changes nothing
abbrev pub applied : {V P : Type 0} → Algebra V P → List V → ℕ → P → List V
applied o [] i p = []
applied o (v ∷ vs) zero p = o.act v p ∷ vs
applied o (v ∷ vs) (suc i) p = v ∷ applied o vs i p
