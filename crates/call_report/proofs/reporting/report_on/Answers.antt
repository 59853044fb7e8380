use Rattle.std.proofs.Common.{vec_items, subst}
use Rattle.call_report.specs.Reports.{Compared}
use Rattle.call_report.proofs.reporting.report_on.Goals as goal

pub returns : goal.returns
returns g c =
    let comparison = c.in_ok-comparison.comparison in
    record {
      calls = vec_items c.in_ok-calls.calls;
      listed = c.in_ok-calls.ensures;
      comparison = comparison;
      compared = subst (λ calls. Compared g.O.Operation.algebra g.O.Shown.shown c.args.cells calls comparison) c.as_slice.ensures.value c.in_ok-comparison.ensures;
      printed = c.in_ok-report_text.ensures;
    }
