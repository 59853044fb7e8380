-- The words of a victim rule
--   Rule       what a rule of kind R holds fixes: what a touch leaves, the way that a pick answers, what a pick leaves
--   Servable   a party and a number of ways that a pick serves
--   Touchable  a party and a way that a touch serves
use Rattle.std.specs.Prelude.{ℕ, ◌<◌, ◌≤◌}

pub record Rule (R : Type 0) : Type 0 where
  pub touched : R → ℕ → ℕ → R
  pub picked : R → ℕ → ℕ → ℕ
  pub after : R → ℕ → ℕ → R

abbrev pub Servable : ℕ → ℕ → Type 0
Servable party ways = (party < 16) × (1 ≤ ways) × (ways ≤ 8)

abbrev pub Touchable : ℕ → ℕ → Type 0
Touchable party way = (party < 16) × (way < 8)
