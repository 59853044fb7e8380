-- The words of numbers
--   leads_with_zero  that a zero leads a text and is not all of it: no number is written so
--   natural_of       the number of at most 64 bits that a text writes: a text writes a number if it is that number's own decimal
--   above            a number without a sign
--   below            a number after a minus sign, which 0 does not take
--   whole_of         the number that a text writes with a sign or without
--   Natural          `natural_of` as a relation
use Rattle.std.specs.Prelude.{◌≡◌, ℕ, ◌-◌, ◌^◌, ◌≤◌, Bool, cond, ◌&&◌, List, length, drop, ℤ, pos, neg_ℤ, Some, None, decimal, Option, ◌==◌, ◌≢◌, nat_le, nat_lt, slice_index}
use Rattle.std.specs.Str.Parse.{digits_value}
use Rattle.std.specs.Str.{bytes_eq}

abbrev pub leads_with_zero : List ℕ → Bool
leads_with_zero bs = nat_lt 1 (length bs) && slice_index bs 0 == 48

abbrev pub natural_of : List ℕ → Option ℕ
natural_of bs = cond (bytes_eq (decimal (digits_value 10 bs)) bs && nat_le (digits_value 10 bs) (2 ^ 64 - 1)) (Some (digits_value 10 bs)) None

abbrev pub above : Option ℕ → Option ℤ
above None = None
above (Some n) = Some (pos n)

abbrev pub below : Option ℕ → Option ℤ
below None = None
below (Some n) = cond (n == 0) None (Some (neg_ℤ (pos n)))

abbrev pub whole_of : List ℕ → Option ℤ
whole_of bs = cond (slice_index bs 0 == 45) (below (natural_of (drop 1 bs))) (above (natural_of bs))

abbrev pub Natural : List ℕ → Option ℕ → Type 0
Natural bs None = (n : ℕ) → n ≤ 2 ^ 64 - 1 → decimal n ≢ bs
Natural bs (Some n) = (n ≤ 2 ^ 64 - 1) × (decimal n ≡ bs)
