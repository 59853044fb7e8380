use Rattle.std.proofs.Common.{rules, is_ok, sym, refl, ap, ◌∙◌}
use Rattle.std.proofs.lemmas.Result.{err_from_is_err_and}
use Rattle.model.specs.declared.call.Call.TheVariants.{Advance}
use Rattle.model.specs.declared.answer.Answer.TheVariants.{Refused}
use Rattle.bench.specs.Lent.{seen, terms}
use Rattle.answers.specs.Answers.{advanced}
use Rattle.protocol.proofs.Audited.{audit_refused}
use Rattle.protocol.proofs.Unmoved.{no, unmoved, advances}
use Rattle.protocol.proofs.calls.advance.Goals as goal

pub returns-in_err-audited : goal.returns-in_err-audited
returns-in_err-audited g c =
    let s = seen g.H.Home.meaning c.args.bench.now in
    let p = err_from_is_err_and c.from_residual.result c.from_residual.ensures.1 in
    let st = audit_refused g.O.Operation.algebra g.R.Victim.rule g.H.Home.meaning c.args.bench.now (Advance c.args.cell) c.in_err-audited.field-0.0 c.in_err-audited.ensures.value in
    record { step = ap (λ z. (s, advanced z)) p.1 ∙ ap (λ z. (s, Refused z)) p.2 ∙ sym st; refused = λ e. refl; in_order = λ e. no (sym e ∙ ap is_ok p.1); lent = Prim.search rules }

pub advance-requires : goal.advance-requires
advance-requires g c = c.in_ok-audited.ensures.in_order refl

pub returns : goal.returns
returns g c =
    let f = c.advance.ensures in
    record { step = λ i. (f.state i, f.answer i); refused = λ e. unmoved (terms g.O.Operation.algebra g.R.Victim.rule g.H.Home.meaning c.args.bench.now) (seen g.H.Home.meaning c.args.bench.now) (Advance c.args.cell) f.state f.answer (advances g.row.O-Value.Denot c.advance.result ∙ e); in_order = λ e. f.in_order; lent = f.lent }
