-- How a bench ends
--   ending  a settle that nothing speaks against, or else an abandon: why, and how many lines were left that owe something
use Rattle.std.specs.Prelude.{Some, None, Option}
use Rattle.tables.specs.declared.refusal.Refusal.{Refusal}
use Rattle.model.specs.Bench.{State}
use Rattle.settlement.specs.Left.{owed}
use Rattle.host.specs.declared.ending.Ending.{Ending}
use Rattle.host.specs.declared.ending.Ending.TheVariants.{Settled, Abandoned}

abbrev pub ending : {V P R : Type 0} → Option Refusal → State V P R → Ending
ending None s = Settled
ending (Some n) s = Abandoned n (owed s.lines)
