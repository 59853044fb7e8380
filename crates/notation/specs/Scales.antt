-- The words of a notation
--   Scale    values that are written as numbers: the number of each, and the range that has them
--   natural  the numbers up to a greatest
--   counts   what a total is: 0 to 2^32 - 1
--   deltas   what is added to a total: -2^31 to 2^31 - 1
--   Writes   that a field writes a number of a scale's range
--   Reads    that a field was read on a scale: as the value with its number, and refused if it writes none
use Rattle.std.specs.Prelude.{◌≡◌, ℕ, ◌-◌, ◌^◌, List, ℤ, pos, negsuc, ◌≤ℤ◌, Result, MatchResult}
use Rattle.std.specs.Str.Parse.{IsNumeral, without_leading_sign, signed_digits_value}
use Rattle.operation.specs.declared.Count.{Count}
use Rattle.operation.specs.declared.Delta.{Delta}
use Rattle.notation.specs.declared.number.Misread.{Misread}

pub record Scale (V : Type 0) : Type 0 where
  pub number : V → ℤ
  pub least : ℤ
  pub most : ℤ

abbrev pub natural : ℕ → Scale ℕ
natural most = record { number = pos; least = pos 0; most = pos most }

abbrev pub counts : Scale Count
counts = record { number = λ c. pos c.bits; least = pos 0; most = pos (2 ^ 32 - 1) }

abbrev pub deltas : Scale Delta
deltas = record { number = λ d. d.by; least = negsuc (2 ^ 31 - 1); most = pos (2 ^ 31 - 1) }

abbrev pub Writes : {V : Type 0} → Scale V → List ℕ → Type 0
Writes s bs = IsNumeral 10 (without_leading_sign bs) × (s.least ≤ℤ signed_digits_value 10 bs) × (signed_digits_value 10 bs ≤ℤ s.most)

abbrev pub Reads : {V : Type 0} → Scale V → List ℕ → Result V Misread → Type 0
Reads s bs r = MatchResult r (λ v. Writes s bs × (s.number v ≡ signed_digits_value 10 bs)) (λ _. Writes s bs → ⊥)
