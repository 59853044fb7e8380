use Rattle.std.proofs.Common.{◌≡◌, ◌≤◌, ◌++◌, length, drop, vec_items, vec_len, vec_capacity}
use Rattle.layering.specs.Plays.{answered, finally}
use Rattle.layering.proofs.calls.play.Given as goal

-- what is left of the calls leads to the same end, and what was answered, with the answers to come, is the whole
abbrev pub invariant-loop-call : goal.invariant-loop-call
invariant-loop-call g l =
    (vec_items l.answers ++ answered g.O.Operation.algebra (drop l.call-index l.calls) (g.H.Home.meaning l.home) ≡ answered g.O.Operation.algebra l.calls (g.H.Home.meaning l.initial.home)) ×
    (finally g.O.Operation.algebra (drop l.call-index l.calls) (g.H.Home.meaning l.home) ≡ finally g.O.Operation.algebra l.calls (g.H.Home.meaning l.initial.home)) ×
    (vec_len l.answers ≡ l.call-index) ×
    (length l.calls ≤ vec_capacity l.answers)
