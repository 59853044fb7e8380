use Rattle.std.proofs.Common.{◌≡◌, ◌+◌, ◌≤◌, drop}
use Rattle.settlement.specs.Left.{owed}
use Rattle.settlement.proofs.ending.unsettled.Given as goal

abbrev pub invariant-loop-line : goal.invariant-loop-line
invariant-loop-line g l = (l.count ≤ l.line-index) × (l.count + owed (drop l.line-index l.lines) ≡ owed l.lines)
