use Rattle.std.proofs.Common.{sym, ap, ◌∙◌}
use Rattle.model.specs.Bench.{State, bench, state}
use Rattle.model.specs.Steps.{close, settle_if, settle_refusal}
use Rattle.settlement.specs.Left.{owed}
use Rattle.host.specs.declared.ending.Ending.TheVariants.{Abandoned}
use Rattle.host.specs.Endings.{ending}
use Rattle.host.proofs.Endings.{settled_none, settled_closed, refused_some, refused_still}
use Rattle.host.proofs.ending.end_over.Goals as goal

pub returns-in-Ok : goal.returns-in-Ok
returns-in-Ok g c =
    let s = state c.args.lines.now c.args.directory.now c.args.registers.now c.args.ledger.now c.args.rule.now (g.H.Home.meaning c.args.home.now) in
    let k = bench g.O.Operation.algebra g.R.Victim.rule c.args.ways s in
    let after = state c.settle_over.new.lines c.settle_over.new.directory c.args.registers.now c.settle_over.new.ledger c.args.rule.now (g.H.Home.meaning c.settle_over.new.home) in
    let e = c.in-Ok.ensures.step in
    record { answer = sym (ap (λ x. ending x s) (settled_none k s after (settle_refusal k s) e)); state = settled_closed k s after (settle_refusal k s) e }

pub returns-in-Err : goal.returns-in-Err
returns-in-Err g c =
    let s = state c.args.lines.now c.args.directory.now c.args.registers.now c.args.ledger.now c.args.rule.now (g.H.Home.meaning c.args.home.now) in
    let k = bench g.O.Operation.algebra g.R.Victim.rule c.args.ways s in
    let after = state c.settle_over.new.lines c.settle_over.new.directory c.args.registers.now c.settle_over.new.ledger c.args.rule.now (g.H.Home.meaning c.settle_over.new.home) in
    let e = c.in-Err.ensures.step in
    let n = c.in-Err.unsettled.refusal in
    let why = refused_some k s after n (settle_refusal k s) e in
    let still = refused_still k s after n (settle_refusal k s) e in
    record {
      answer = c.give_up.ensures.answer ∙ ap (λ (z : State _ _ _). Abandoned n (owed z.lines)) still ∙ sym (ap (λ x. ending x s) why);
      state = ap (λ g. state after.lines after.directory after.registers g after.rule after.home) c.give_up.ensures.ledger ∙ ap (close k) still ∙ sym (ap (λ x. close k (settle_if k x s).0) why);
    }
