use Rattle.std.proofs.Common.{sym, ◌∙◌}
use Rattle.std.proofs.lemmas.Result.{IfOk-weaker}
use Rattle.call_report.proofs.Heads.{first_line}
use Rattle.call_report.proofs.input.read_first.Goals as goal

pub returns : goal.returns
returns c =
    let line = c.in_ok-ok_or.field-0 in
    let begins = first_line _ c.args.text.now c.lines.result c.next.new.self c.next.result line c.lines.ensures.rest c.next.ensures.steps (sym c.ok_or.ensures.value ∙ c.in_ok-ok_or.was) in
    IfOk-weaker c.read_head.result _ _ (λ h says. (line.now, _, begins, says)) c.read_head.ensures
