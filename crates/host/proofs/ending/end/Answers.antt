use Rattle.std.proofs.Common.{rules, sym, ap, ◌∙◌}
use Rattle.model.specs.Bench.{State}
use Rattle.model.specs.Steps.{close, settle_if, settle_refusal}
use Rattle.bench.specs.Lent.{seen, terms}
use Rattle.settlement.specs.Left.{owed}
use Rattle.host.specs.declared.ending.Ending.TheVariants.{Abandoned}
use Rattle.host.specs.Endings.{ending}
use Rattle.host.proofs.Endings.{settled_none, settled_closed, refused_some, refused_still}
use Rattle.host.proofs.ending.end.Goals as goal

pub returns-in-Ok : goal.returns-in-Ok
returns-in-Ok g c =
    let k = terms g.O.Operation.algebra g.R.Victim.rule g.H.Home.meaning c.args.bench.now in
    let s = seen g.H.Home.meaning c.args.bench.now in
    let after = seen g.H.Home.meaning c.settle.new.bench in
    let e = c.in-Ok.ensures.step in
    record { answer = sym (ap (λ x. ending x s) (settled_none k s after (settle_refusal k s) e)); state = settled_closed k s after (settle_refusal k s) e; lent = Prim.search rules }

pub returns-in-Err : goal.returns-in-Err
returns-in-Err g c =
    let k = terms g.O.Operation.algebra g.R.Victim.rule g.H.Home.meaning c.args.bench.now in
    let s = seen g.H.Home.meaning c.args.bench.now in
    let after = seen g.H.Home.meaning c.settle.new.bench in
    let e = c.in-Err.ensures.step in
    let n = c.in-Err.unsettled.refusal in
    let why = refused_some k s after n (settle_refusal k s) e in
    let still = refused_still k s after n (settle_refusal k s) e in
    record {
      answer = ap (λ m. Abandoned n m) c.abandon_bench-left.ensures.left ∙ ap (λ (z : State _ _ _). Abandoned n (owed z.lines)) still ∙ sym (ap (λ x. ending x s) why);
      state = c.abandon_bench-left.ensures.state ∙ ap (close k) still ∙ sym (ap (λ x. close k (settle_if k x s).0) why);
      lent = Prim.search rules;
    }
