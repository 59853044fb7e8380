use Rattle.std.proofs.Common.{sym, ap, ◌∙◌, arith}
use Rattle.tables.specs.Lines.{waits_for}
use Rattle.decisions.proofs.Turns.{found, onward}
use Rattle.decisions.proofs.turn.next_waiting.Goals as goal

pub round-preserved : goal.round-preserved
round-preserved g c = (
  omega arith,
  onward c.args.registers.now c.args.cell c.args.last c.round.passed (omega arith) (sym (c.if-waits_for.ensures ∙ ap (waits_for c.args.cell) c.register_at.ensures)) c.round.invariant.1,
)

pub returns-then-waits_for : goal.returns-then-waits_for
returns-then-waits_for g c =
    found c.args.registers.now c.args.cell c.args.last c.round.passed (omega arith) (sym (c.if-waits_for.ensures ∙ ap (waits_for c.args.cell) c.register_at.ensures)) c.round.invariant.1
