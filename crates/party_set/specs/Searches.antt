-- The search that the tables' rules speak of
--   first  the least number from k to k + n - 1 that passes a test
use Rattle.std.specs.Prelude.{ℕ, zero, suc, Bool, cond, Some, None, Option}

abbrev pub first : (ℕ → Bool) → ℕ → ℕ → Option ℕ
first t k zero = None
first t k (suc n) = cond (t k) (Some k) (first t (suc k) n)
