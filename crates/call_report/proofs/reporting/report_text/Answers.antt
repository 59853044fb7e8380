use Rattle.std.proofs.Common.{refl, ◌∙◌}
use Rattle.std.proofs.lemmas.Result.{IfOk-weaker}
use Rattle.call_report.proofs.Written.{layout_same}
use Rattle.call_report.proofs.reporting.report_text.Goals as goal

pub returns : goal.returns
returns c = IfOk-weaker c.format.result _ _ (λ s is. is ∙ layout_same c.args.size refl c.in_ok-reached.ensures refl c.verdict_line-verdict.ensures) c.format.ensures.ok
