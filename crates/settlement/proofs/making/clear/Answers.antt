use Rattle.std.proofs.Common.{set, ap, ◌∙◌, arith}
use Rattle.settlement.proofs.Filling.{fill_more, fill_all}
use Rattle.settlement.proofs.making.clear.Goals as goal

pub loop-i-preserved : goal.loop-i-preserved
loop-i-preserved g c = ap (λ t. set t c.loop-i.i c.args.value) c.loop-i.invariant ∙ fill_more c.args.value c.args.table.now c.loop-i.i (omega arith)

pub returns : goal.returns
returns g c = c.loop-i.invariant ∙ fill_all c.args.value c.args.table.now c.loop-i.i (omega arith) (omega arith)
