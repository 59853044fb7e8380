-- What a home offers to a grant
--   offered  the line, or the refusal of a place outside the home's cells
use Rattle.std.specs.Prelude.{Some, None, Ok, Err, Option, Result}
use Rattle.tables.specs.declared.refusal.Refusal.{Refusal}
use Rattle.tables.specs.declared.refusal.Refusal.TheVariants.{Place}

abbrev pub offered : {X : Type 0} → Option X → Result X Refusal
offered None = Err Place
offered (Some x) = Ok x
