use Rattle.std.proofs.Common.{sym, refl, ◌∙◌}
use Rattle.model.specs.declared.call.Call.TheVariants.{Settle}
use Rattle.model.specs.Bench.{bench, state}
use Rattle.settlement.proofs.Makes.{not_ok}
use Rattle.protocol.proofs.Audited.{audit_refused_over}
use Rattle.protocol.proofs.Unmoved.{unmoved, settles}
use Rattle.protocol.proofs.over.settle_over.Goals as goal

pub settle_legal_over-requires : goal.settle_legal_over-requires
settle_legal_over-requires g c =
    let f = c.in-Ok.ensures.legal.0 refl in
    record { sizes = f.0; legal = f.1 }

pub returns-in-Ok : goal.returns-in-Ok
returns-in-Ok g c =
    let s = state c.args.lines.now c.args.directory.now c.args.registers.now c.args.ledger.now c.args.rule.now (g.H.Home.meaning c.args.home.now) in
    let k = bench g.O.Operation.algebra g.R.Victim.rule c.args.ways s in
    let f = c.settle_legal_over.ensures in
    record { step = λ i. (f.state i, f.answer i); refused = λ e. unmoved k s Settle f.state f.answer (settles g.row.O-Value.Denot c.settle_legal_over.result ∙ e); legal = λ e. f.legal }

pub returns-in-Err : goal.returns-in-Err
returns-in-Err g c =
    let s = state c.args.lines.now c.args.directory.now c.args.registers.now c.args.ledger.now c.args.rule.now (g.H.Home.meaning c.args.home.now) in
    record { step = sym (audit_refused_over g.O.Operation.algebra g.R.Victim.rule c.args.ways s Settle c.in-Err.refusal c.in-Err.ensures.value); refused = λ e. refl; legal = λ e. not_ok refl e }
