-- A chain of checks as a result
use Rattle.std.specs.Prelude.{Some, None, Ok, Err, Option, Result}
use Rattle.tables.specs.declared.refusal.Refusal.{Refusal}

abbrev pub passes : Option Refusal → Result (Unit {0}) Refusal
passes None = Ok tt
passes (Some n) = Err n
