use Rattle.std.proofs.Common.{◌≡◌, ◌≤◌, take, count_by}
use Rattle.call_report.specs.Inputs.{line_feed}
use Rattle.call_report.proofs.input.line_feeds.Given as goal

abbrev pub invariant-loop-byte : goal.invariant-loop-byte
invariant-loop-byte l = (l.feeds ≡ count_by line_feed (take l.byte-index l.bytes)) × (l.feeds ≤ l.byte-index)
