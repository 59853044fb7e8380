use Rattle.std.proofs.Common.{is_ok, sym, refl, ap, ◌∙◌}
use Rattle.std.proofs.lemmas.Result.{err_from_is_err_and}
use Rattle.model.specs.declared.call.Call.TheVariants.{Post}
use Rattle.model.specs.declared.answer.Answer.TheVariants.{Refused}
use Rattle.model.specs.Bench.{bench, state}
use Rattle.answers.specs.Answers.{posted}
use Rattle.settlement.proofs.Makes.{not_ok}
use Rattle.protocol.proofs.Audited.{audit_refused_over}
use Rattle.protocol.proofs.Unmoved.{unmoved, posts}
use Rattle.protocol.proofs.over.post_over.Goals as goal

pub returns-in_err-audit : goal.returns-in_err-audit
returns-in_err-audit g c =
    let s = state c.args.lines.now c.args.directory.now c.args.registers.now c.args.ledger.now c.args.rule.now (g.H.Home.meaning c.args.home.now) in
    let p = err_from_is_err_and c.from_residual.result c.from_residual.ensures.1 in
    let n = c.in_err-audit.field-0.0 in
    let st = audit_refused_over g.O.Operation.algebra g.R.Victim.rule c.args.ways s (Post c.args.party c.args.request) n c.in_err-audit.ensures.value in
    record { step = ap (λ z. (s, posted z)) p.1 ∙ ap (λ z. (s, Refused z)) p.2 ∙ sym st; refused = λ e. refl; legal = λ e. not_ok (ap is_ok p.1) e }

pub post_over-requires : goal.post_over-requires
post_over-requires g c =
    let f = c.in_ok-audit.ensures.legal.0 refl in
    record { sizes = f.0; legal = f.1 }

pub returns : goal.returns
returns g c =
    let s = state c.args.lines.now c.args.directory.now c.args.registers.now c.args.ledger.now c.args.rule.now (g.H.Home.meaning c.args.home.now) in
    let k = bench g.O.Operation.algebra g.R.Victim.rule c.args.ways s in
    let f = c.post_over.ensures in
    record { step = λ i. (f.state i, f.answer i); refused = λ e. unmoved k s (Post c.args.party c.args.request) f.state f.answer (posts g.row.O-Value.Denot c.post_over.result ∙ e); legal = λ e. f.legal }
