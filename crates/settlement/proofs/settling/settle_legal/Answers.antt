use Rattle.std.proofs.Common.{refl}
use Rattle.operation.proofs.Lawful.{lawful}
use Rattle.model.specs.declared.call.Call.TheVariants.{Settle}
use Rattle.bench.proofs.Orders.{sound, stays}
use Rattle.settlement.proofs.settling.settle_legal.Goals as goal

pub returns-clause-in_order : goal.returns-clause-in_order
returns-clause-in_order g c =
    let op = g.O.Operation.algebra in
    let rule = g.R.Victim.rule in
    let meaning = g.H.Home.meaning in
    stays op rule meaning c.args.bench.now (sound op rule meaning c.args.bench.now (lawful g.met.O.Operation) g.met.R.Victim.within) c.requires Settle _ refl c.settle_lent.ensures.state
