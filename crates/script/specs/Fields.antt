-- The words of fields
--   Seen     a field as mathematics: a word, a number or a missing one, with its place
--   seen     a field of the code, so
--   classed  what a field of these bytes at a place is
--   first    the first of the fields to come; where there is none, one is missing at the line's end
--   from_end  the fields of the last part of a line, by the line's end
--   left     the fields that a reader of them has still to give
--   end      its line's length
use Rattle.std.specs.Prelude.{ℕ, ◌-◌, List, [], ◌∷◌, length, ℤ, Some, None, Option, unwrap_or}
use Rattle.std.specs.Option.{option_copied}
use Rattle.script.specs.Cuts.{placed, tail_parts}
use Rattle.script.specs.Numbers.{whole_of}
use Rattle.script.specs.declared.fields.Field.{Field}
use Rattle.script.specs.declared.fields.Field.TheVariants.{Word, Number, Missing}
use Rattle.script.specs.declared.fields.Fields.{Fields}

pub data Seen : Type 0 where
  word : List ℕ → ℕ → Seen
  number : ℤ → ℕ → Seen
  missing : ℕ → Seen

abbrev pub seen : Field → Seen
seen (Word text place) = word text.now place
seen (Number value place) = number value place
seen (Missing place) = missing place

abbrev pub number_or : ℕ → List ℕ → Option ℤ → Seen
number_or p bs (Some z) = number z p
number_or p bs None = word bs p

abbrev pub classed : ℕ → List ℕ → Seen
classed p bs = number_or p bs (whole_of bs)

abbrev pub first : ℕ → List (ℕ × List ℕ) → Seen
first e [] = missing e
first e (f ∷ fs) = classed f.0 f.1

abbrev pub from_end : ℕ → Option (List ℕ) → List (ℕ × List ℕ)
from_end e rest = placed (e - length (unwrap_or rest [])) (tail_parts 32 rest)

abbrev pub left : Fields → List (ℕ × List ℕ)
left r = from_end r.end (option_copied r.rest)

abbrev pub end : Fields → ℕ
end r = r.end
