-- The words of a combining register
--   acting  the values of the home below once the held partial has acted at its place
use Rattle.std.specs.Prelude.{List, Some, None, Option}
use Rattle.operation.specs.Algebra.{Algebra, applied}
use Rattle.memory.specs.declared.combining.Pending.{Pending}

abbrev pub acting : {V P : Type 0} → Algebra V P → List V → Option (Pending P) → List V
acting o below None = below
acting o below (Some h) = applied o below h.place h.partial
