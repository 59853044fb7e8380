use Rattle.std.proofs.Common.{rules, sym, ap, ◌∙◌}
use Rattle.std.proofs.lemmas.Result.{err_from_is_err_and}
use Rattle.operation.proofs.Lawful.{lawful}
use Rattle.model.specs.declared.call.Call.TheVariants.{Advance}
use Rattle.model.specs.declared.answer.Answer.TheVariants.{Refused}
use Rattle.model.specs.Decisions.{performed}
use Rattle.bench.specs.Lent.{seen, terms}
use Rattle.bench.proofs.Orders.{sound, stays}
use Rattle.answers.specs.Answers.{advanced}
use Rattle.moves.proofs.Calls.{advance_refused, advance_passed, advance_facts}
use Rattle.advancing.proofs.advance.advance.Goals as goal

pub returns-in_err-advance_checks : goal.returns-in_err-advance_checks
returns-in_err-advance_checks g c =
    let p = err_from_is_err_and c.from_residual.result c.from_residual.ensures.1 in
    let st = advance_refused g.O.Operation.algebra g.R.Victim.rule g.H.Home.meaning c.args.bench.now c.requires c.args.cell c.in_err-advance_checks.field-0.0 c.in_err-advance_checks.ensures in
    record { answer = ap advanced p.1 ∙ ap Refused p.2 ∙ sym (ap (λ z. z.1) st); state = sym (ap (λ z. z.0) st); in_order = c.requires; lent = Prim.search rules }

pub next_action-next-requires : goal.next_action-next-requires
next_action-next-requires g c = record { in_order = c.requires; within = (advance_facts g.O.Operation.algebra g.R.Victim.rule g.H.Home.meaning c.args.bench.now c.requires c.args.cell c.in_ok-advance_checks.ensures).1 }

pub perform-requires : goal.perform-requires
perform-requires g c =
    let f = advance_facts g.O.Operation.algebra g.R.Victim.rule g.H.Home.meaning c.args.bench.now c.requires c.args.cell c.in_ok-advance_checks.ensures in
    record { in_order = c.requires; within = f.1; counts = f.0; decided = c.next_action-next.ensures }

pub returns : goal.returns
returns g c =
    let k = terms g.O.Operation.algebra g.R.Victim.rule g.H.Home.meaning c.args.bench.now in
    let s = seen g.H.Home.meaning c.args.bench.now in
    let done = ap (performed k s c.args.cell) c.next_action-next.ensures ∙ sym (advance_passed g.O.Operation.algebra g.R.Victim.rule g.H.Home.meaning c.args.bench.now c.requires c.args.cell c.in_ok-advance_checks.ensures) in
    let e = c.perform.ensures.state ∙ ap (λ z. z.0) done in
    record { answer = c.perform.ensures.answer ∙ ap (λ z. z.1) done; state = e; in_order = stays g.O.Operation.algebra g.R.Victim.rule g.H.Home.meaning c.args.bench.now (sound g.O.Operation.algebra g.R.Victim.rule g.H.Home.meaning c.args.bench.now (lawful g.met.O.Operation) g.met.R.Victim.within) c.requires (Advance c.args.cell) _ c.perform.ensures.lent.ways e; lent = c.perform.ensures.lent }
