-- The words of numbers of 32 bits
--   residue   the number below 2^32 that differs from an integer by a multiple of 2^32
--   int_wrap  (the library's) the number from -2^31 up, below 2^31, that differs from it by such a multiple
use Rattle.std.specs.Prelude.{ℕ, ◌^◌, ◌<◌, ℤ, pos, negsuc, neg_ℤ, ◌≤ℤ◌, ◌<ℤ◌, unsigned_abs}
use Rattle.std.proofs.Common.{arith}
use Rattle.std.specs.Int.{int_rem_euclid, int_wrap, w32}
use Rattle.std.proofs.lemmas.Int.{SFits-int_wrap, ints}

abbrev pub residue : ℤ → ℕ
residue z = unsigned_abs (int_rem_euclid z (pos (2 ^ 32)))

pub residue_small : (z : ℤ) → residue z < 2 ^ 32
residue_small (pos n) = omega arith
residue_small (negsuc n) = omega arith

pub wrapped_least : (z : ℤ) → neg_ℤ (pos (2 ^ 31)) ≤ℤ int_wrap w32 z
wrapped_least z = let fits = SFits-int_wrap w32 z in omega (arith, ints)

pub wrapped_below : (z : ℤ) → int_wrap w32 z <ℤ pos (2 ^ 31)
wrapped_below z = let fits = SFits-int_wrap w32 z in omega (arith, ints)
