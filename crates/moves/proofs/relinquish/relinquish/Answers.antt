use Rattle.std.proofs.Common.{rules, Some, None, sym, ap, ◌∙◌, arith}
use Rattle.std.proofs.lemmas.Result.{err_from_is_err_and}
use Rattle.operation.proofs.Lawful.{lawful}
use Rattle.model.specs.declared.call.Call.TheVariants.{Yield}
use Rattle.model.specs.declared.answer.Answer.TheVariants.{Refused}
use Rattle.bench.proofs.Orders.{own_ways, sound, stays}
use Rattle.answers.specs.Answers.{yielded}
use Rattle.moves.proofs.Aptness.{low, own_sendable}
use Rattle.moves.proofs.Calls.{yield_refused, yield_passed, yield_facts}
use Rattle.moves.proofs.relinquish.relinquish.Goals as goal

pub returns-in_err-yield_checks : goal.returns-in_err-yield_checks
returns-in_err-yield_checks g c =
    let p = err_from_is_err_and c.from_residual.result c.from_residual.ensures.1 in
    let st = yield_refused g.O.Operation.algebra g.R.Victim.rule g.H.Home.meaning c.args.bench.now c.requires c.args.party c.args.cell c.in_err-yield_checks.field-0.0 c.in_err-yield_checks.ensures in
    record { answer = ap yielded p.1 ∙ ap Refused p.2 ∙ sym (ap (λ z. z.1) st); state = sym (ap (λ z. z.0) st); in_order = c.requires; lent = Prim.search rules }

pub own_line-requires : goal.own_line-requires
own_line-requires g c = (own_ways g.O.Operation.algebra c.args.bench.now c.requires c.args.party (yield_facts g.O.Operation.algebra g.R.Victim.rule g.H.Home.meaning c.args.bench.now c.requires c.args.party c.args.cell c.in_ok-yield_checks.ensures).1).0

pub yield_line-requires : goal.yield_line-requires
yield_line-requires g c =
    let f = (yield_facts g.O.Operation.algebra g.R.Victim.rule g.H.Home.meaning c.args.bench.now c.requires c.args.party c.args.cell c.in_ok-yield_checks.ensures) in
    let y = own_sendable g.O.Operation.algebra c.args.bench.now c.requires c.args.party c.args.cell c.in-Some.i (yield_facts g.O.Operation.algebra g.R.Victim.rule g.H.Home.meaning c.args.bench.now c.requires c.args.party c.args.cell c.in_ok-yield_checks.ensures).1 (sym c.in-Some.ensures) in
    record { sendable = y; counts = omega (arith, (low c.args.bench.now.ledger.now f.0).yields) }

pub returns-in-Some : goal.returns-in-Some
returns-in-Some g c =
    let st = yield_passed g.O.Operation.algebra g.R.Victim.rule g.H.Home.meaning c.args.bench.now c.requires c.args.party c.args.cell c.in_ok-yield_checks.ensures (Some c.in-Some.i) c.in-Some.ensures in
    let e = c.yield_line.ensures.state ∙ sym (ap (λ z. z.0) st) in
    record { answer = sym (ap (λ z. z.1) st); state = e; in_order = stays g.O.Operation.algebra g.R.Victim.rule g.H.Home.meaning c.args.bench.now (sound g.O.Operation.algebra g.R.Victim.rule g.H.Home.meaning c.args.bench.now (lawful g.met.O.Operation) g.met.R.Victim.within) c.requires (Yield c.args.party c.args.cell) _ c.yield_line.ensures.lent.ways e; lent = c.yield_line.ensures.lent }

pub returns-in-None-clause-answer : goal.returns-in-None-clause-answer
returns-in-None-clause-answer g c = sym (ap (λ z. z.1) (yield_passed g.O.Operation.algebra g.R.Victim.rule g.H.Home.meaning c.args.bench.now c.requires c.args.party c.args.cell c.in_ok-yield_checks.ensures None c.in-None.ensures))
