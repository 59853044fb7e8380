use Rattle.std.proofs.Common.{string_bytes}
use Rattle.notation.specs.declared.Kind.TheVariants.{Total, Peak, Flags}
use Rattle.call_list.specs.Script.{Blamed}
use Rattle.call_report.proofs.Answering.{answers}
use Rattle.call_report.proofs.reporting.report.Goals as goal

pub returns-in-Total : goal.returns-in-Total
returns-in-Total c =
    let text = c.in_ok-text.text.now in
    answers string_bytes c.args.input.now text c.in_ok-kind.kind Total c.in_ok-kind.cells (Blamed text) c.report_on.result c.in_ok-text.ensures c.in_ok-kind.ensures.head c.in-Total.is c.report_on.ensures

pub returns-in-Peak : goal.returns-in-Peak
returns-in-Peak c =
    let text = c.in_ok-text.text.now in
    answers string_bytes c.args.input.now text c.in_ok-kind.kind Peak c.in_ok-kind.cells (Blamed text) c.report_on-in-Peak.result c.in_ok-text.ensures c.in_ok-kind.ensures.head c.in-Peak.is c.report_on-in-Peak.ensures

pub returns-in-Flags : goal.returns-in-Flags
returns-in-Flags c =
    let text = c.in_ok-text.text.now in
    answers string_bytes c.args.input.now text c.in_ok-kind.kind Flags c.in_ok-kind.cells (Blamed text) c.report_on-in-Flags.result c.in_ok-text.ensures c.in_ok-kind.ensures.head c.in-Flags.is c.report_on-in-Flags.ensures
