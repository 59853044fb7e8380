use Rattle.std.proofs.Common.{◌≡◌, ◌+◌, ◌-◌, ◌*◌, ◌≤◌, length}
use Rattle.model.specs.Bench.{state, bench}
use Rattle.model.specs.Steps.{all_sent}
use Rattle.model.proofs.Tabled.{Tabled}
use Rattle.settlement.proofs.settling.send_all.Given as goal

abbrev pub invariant-loop-i : goal.invariant-loop-i
invariant-loop-i g l =
    let s₀ = state l.initial.lines l.initial.directory l.registers l.initial.ledger l.rule (g.H.Home.meaning l.initial.home) in
    let s = state l.lines l.directory l.registers l.ledger l.rule (g.H.Home.meaning l.home) in
    let k = bench g.O.Operation.algebra g.R.Victim.rule l.ways s₀ in
    let n = length l.registers * l.ways in
    (all_sent k l.i (n - l.i) s ≡ all_sent k 0 n s₀) × Tabled k s × (l.ledger.yields ≤ l.initial.ledger.yields + l.i)
