-- The bench of the cases, as the steps see it
--   asked     a call of a case
--   cells_of  what its plain cells mean
use Rattle.std.specs.Prelude.{List, vec_items}
use Rattle.operation.specs.declared.count.Count.{Count}
use Rattle.operation.specs.declared.delta.Delta.{Delta}
use Rattle.memory.specs.Row.{counted}
use Rattle.memory.specs.declared.plain.PlainCells.{PlainCells}
use Rattle.model.specs.declared.call.Call as model
use Rattle.model.specs.declared.call.Call.TheVariants as model-call
use Rattle.cases.specs.declared.calls.Call.{Call}
use Rattle.cases.specs.declared.calls.Call.TheVariants.{Post, Advance, Collect, Yield}

abbrev pub asked : Call → model.Call Count Delta
asked (Post p r) = model-call.Post p r
asked (Advance a) = model-call.Advance a
asked (Collect p) = model-call.Collect p
asked (Yield p a) = model-call.Yield p a

abbrev pub cells_of : {O V P : Type 0} → PlainCells O V P → List V
cells_of h = counted (vec_items h.row)
