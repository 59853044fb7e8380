use Rattle.std.proofs.Common.{◌-◌, ◌≤◌, length}
use Rattle.decisions.proofs.Turns.{Passed}
use Rattle.decisions.proofs.turn.next_waiting.Given as goal

abbrev pub invariant-round : goal.invariant-round
invariant-round g l = (l.passed ≤ length l.registers) × Passed l.registers l.cell l.last l.passed

abbrev pub decreases-round : goal.decreases-round
decreases-round g l = length l.initial.registers - l.passed
