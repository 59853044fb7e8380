use Rattle.std.proofs.Common.{◌≡◌, ◌≤◌, ◌++◌, length, drop, vec_items, vec_len, vec_capacity}
use Rattle.tables.specs.Ledgers.{is_open}
use Rattle.model.specs.Steps.{final}
use Rattle.bench.specs.Lent.{InOrder, SameLoans, seen, terms}
use Rattle.history.specs.Runs.{held}
use Rattle.history.proofs.Turns.{answered}
use Rattle.history.proofs.playing.play_all.Given as goal

abbrev pub invariant-loop-call : goal.invariant-loop-call
invariant-loop-call g l =
    let k = terms g.O.Operation.algebra g.R.Victim.rule g.H.Home.meaning l.initial.bench in
    let s₀ = seen g.H.Home.meaning l.initial.bench in
    let s = seen g.H.Home.meaning l.bench in
    record {
      ends : final k s (drop l.call-index l.calls) ≡ final k s₀ l.calls;
      said : vec_items l.answers ++ answered k s (drop l.call-index l.calls) ≡ answered k s₀ l.calls;
      in_order : InOrder l.bench;
      held : held l.ticket ≡ is_open l.bench.ledger.now;
      counted : vec_len l.answers ≡ l.call-index;
      room : length l.calls ≤ vec_capacity l.answers;
      lent : SameLoans l.initial.bench l.bench;
    }
