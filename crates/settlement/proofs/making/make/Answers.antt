use Rattle.std.proofs.Common.{refl, sym, subst}
use Rattle.operation.proofs.Lawful.{lawful}
use Rattle.model.proofs.Runs.{made_inv}
use Rattle.model.proofs.Tabled.{Tabled}
use Rattle.bench.specs.Lent.{seen, terms}
use Rattle.bench.proofs.Orders.{ordered, sound}
use Rattle.settlement.proofs.Makes.{accepted}
use Rattle.settlement.proofs.making.make.Goals as goal

pub returns-clause-in_order : goal.returns-clause-in_order
returns-clause-in_order g c = λ said.
    let op = g.O.Operation.algebra in
    let rule = g.R.Victim.rule in
    let meaning = g.H.Home.meaning in
    let k = terms op rule meaning c.args.bench.now in
    let s = seen meaning c.args.bench.now in
    let made = accepted k s c.make_over.result said c.make_over.ensures.answer c.make_over.ensures.state in
    ordered op rule meaning c.args.bench.now _ refl (subst (Tabled k) (sym made.1) (made_inv k (sound op rule meaning c.args.bench.now (lawful g.met.O.Operation) g.met.R.Victim.within) s made.0).tabled)
