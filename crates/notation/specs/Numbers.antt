-- The words of a number that is read from a field
--   misread_of  why a text is not read, by the library's reason
--   IsNumber    that a field writes a number of 128 bits with a sign
--   Converts    that a field was read as what its number is converted to, and refused if it writes none or none is converted
use Rattle.std.specs.Prelude.{ℕ, List, ℤ, Ok, Err, Result, MatchResult, FitsSigned}
use Rattle.std.specs.Int.{w128}
use Rattle.std.specs.Str.Parse.{IsNumeral, without_leading_sign, signed_digits_value}
use Rattle.std.specs.declared.num.IntErrorKind.{IntErrorKind}
use Rattle.std.specs.declared.num.IntErrorKind.TheVariants.{Empty, InvalidDigit, PosOverflow, NegOverflow, Zero}
use Rattle.notation.specs.declared.number.Misread.{Misread}
use Rattle.notation.specs.declared.number.Misread.TheVariants.{Number, Range}

abbrev pub misread_of : IntErrorKind → Misread
misread_of Empty = Number
misread_of InvalidDigit = Number
misread_of PosOverflow = Range
misread_of NegOverflow = Range
misread_of Zero = Number

abbrev pub IsNumber : List ℕ → Type 0
IsNumber bs = IsNumeral 10 (without_leading_sign bs) × FitsSigned w128 (signed_digits_value 10 bs)

abbrev pub Converts : {T E : Type 0} → (ℤ → Result T E → Type 0) → List ℕ → Result T Misread → Type 0
Converts gives bs r = MatchResult r (λ v. IsNumber bs × gives (signed_digits_value 10 bs) (Ok v)) (λ _. IsNumber bs → (e : _) × gives (signed_digits_value 10 bs) (Err e))
