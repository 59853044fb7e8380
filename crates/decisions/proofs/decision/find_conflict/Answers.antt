use Rattle.std.proofs.Common.{sym, ◌∙◌, arith}
use Rattle.model.proofs.Sized.{ways_within}
use Rattle.decisions.proofs.Conflicts.{no_clash, no_holder, holder_line, holder_exists}
use Rattle.decisions.proofs.decision.find_conflict.Goals as goal

pub returns-then-not-clashes_with : goal.returns-then-not-clashes_with
returns-then-not-clashes_with g c =
    no_clash g.O.Operation.algebra c.args.ways c.args.lines.now c.args.directory.now c.args.registers.now c.requires.sizes c.requires.legal c.args.request c.cell-cell.result c.cell-cell.ensures c.entry_at-entry.result c.entry_at-entry.ensures (sym c.if-not-clashes_with.ensures)

pub own_line-requires : goal.own_line-requires
own_line-requires g c =
    let low = holder_exists g.O.Operation.algebra c.args.ways c.args.lines.now c.args.directory.now c.args.registers.now c.requires.sizes c.requires.legal c.args.request c.cell-cell.result c.cell-cell.ensures c.entry_at-entry.result c.entry_at-entry.ensures c.in_ok-holder.holder (omega (arith, c.requires.within)) (sym c.in_ok-holder.ensures) in
    (ways_within g.O.Operation.algebra c.args.ways c.args.lines.now c.args.directory.now c.args.registers.now c.requires.sizes c.in_ok-holder.holder low).0

pub returns : goal.returns
returns g c =
    c.own_line.ensures ∙ holder_line g.O.Operation.algebra c.args.ways c.args.lines.now c.args.directory.now c.args.registers.now c.requires.sizes c.requires.legal c.args.request c.cell-cell.result c.cell-cell.ensures c.entry_at-entry.result c.entry_at-entry.ensures c.in_ok-holder.holder (sym c.if-not-clashes_with.ensures) (sym c.in_ok-holder.ensures)

pub returns-in_err-holder : goal.returns-in_err-holder
returns-in_err-holder g c =
    c.from_residual.ensures ∙ no_holder g.O.Operation.algebra c.args.ways c.args.lines.now c.args.directory.now c.args.registers.now c.requires.sizes c.requires.legal c.args.request c.cell-cell.result c.cell-cell.ensures c.entry_at-entry.result c.entry_at-entry.ensures (sym c.if-not-clashes_with.ensures) (sym c.in_err-holder.ensures)
