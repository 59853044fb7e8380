use Rattle.std.proofs.Common.{count_by, ap, ◌∙◌, arith, eq-eqb, ne_eqb}
use Rattle.std.proofs.lemmas.List.{take_all}
use Rattle.std.proofs.lemmas.List.Sums.{count_by_more_yes, count_by_more_no}
use Rattle.call_report.specs.Inputs.{line_feed}
use Rattle.call_report.proofs.input.line_feeds.Goals as goal
use Rattle.call_report.proofs.input.line_feeds.Goals.{then-byte-eq10, else-byte-eq10}

pub loop-byte-preserved : goal.loop-byte-preserved
loop-byte-preserved c =
    let bytes = c.args.bytes.now in
    let i = c.loop-byte.byte-index in
    elim c.if-byte-eq10.branch [
      | then-byte-eq10 w ↦ (omega (arith, w.feeds-is, count_by_more_yes line_feed bytes i 0 (omega arith) (eq-eqb _ 10 w.if-byte-eq10.true), c.loop-byte.invariant), omega (arith, w.feeds-is))
      | else-byte-eq10 w ↦ (omega (arith, w.feeds-is, count_by_more_no line_feed bytes i 0 (omega arith) (ne_eqb _ 10 w.if-byte-eq10.false), c.loop-byte.invariant), omega (arith, w.feeds-is))
    ]

pub returns : goal.returns
returns c = record { value = c.loop-byte.invariant.0 ∙ ap (count_by line_feed) (take_all c.loop-byte.byte-index c.args.bytes.now (omega arith)); bound = omega arith }
