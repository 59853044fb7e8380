use Rattle.std.proofs.Common.{rules}
use Rattle.memory.proofs.Places.{loaded_outside}
use Rattle.memory.proofs.Rows.{length_counted, loaded_counted}
use Rattle.memory.proofs.plain.PlainCellsHome.load.Goals as goal

pub index-requires : goal.index-requires
index-requires g c = search (rules, length_counted)

pub returns-then-place-cells : goal.returns-then-place-cells
returns-then-place-cells g c = search (rules, loaded_counted)

pub returns-else-place-cells : goal.returns-else-place-cells
returns-else-place-cells g c = search (rules, loaded_outside)
