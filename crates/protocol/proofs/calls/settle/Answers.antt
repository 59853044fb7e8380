use Rattle.std.proofs.Common.{rules, sym, refl, ◌∙◌}
use Rattle.model.specs.declared.call.Call.TheVariants.{Settle}
use Rattle.bench.specs.Lent.{seen, terms}
use Rattle.protocol.proofs.Audited.{audit_refused}
use Rattle.protocol.proofs.Unmoved.{no, unmoved, settles}
use Rattle.protocol.proofs.calls.settle.Goals as goal

pub settle_legal-requires : goal.settle_legal-requires
settle_legal-requires g c = c.in-Ok.ensures.in_order refl

pub returns-in-Ok : goal.returns-in-Ok
returns-in-Ok g c =
    let f = c.settle_legal.ensures in
    record { step = λ i. (f.state i, f.answer i); refused = λ e. unmoved (terms g.O.Operation.algebra g.R.Victim.rule g.H.Home.meaning c.args.bench.now) (seen g.H.Home.meaning c.args.bench.now) Settle f.state f.answer (settles g.row.O-Value.Denot c.settle_legal.result ∙ e); in_order = λ e. f.in_order; lent = f.lent }

pub returns-in-Err : goal.returns-in-Err
returns-in-Err g c = record { step = sym (audit_refused g.O.Operation.algebra g.R.Victim.rule g.H.Home.meaning c.args.bench.now Settle c.in-Err.refusal c.in-Err.ensures.value); refused = λ e. refl; in_order = λ e. no (sym e); lent = Prim.search rules }
