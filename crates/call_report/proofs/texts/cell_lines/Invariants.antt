use Rattle.std.proofs.Common.{◌≡◌, ◌++◌, drop, string_bytes}
use Rattle.call_report.specs.Texts.{lines_from, cell_line}
use Rattle.call_report.proofs.texts.cell_lines.Given as goal

-- what is written, and the lines to come, are all the lines
abbrev pub invariant-loop-place : goal.invariant-loop-place
invariant-loop-place g l = string_bytes l.lines ++ lines_from (cell_line g.O.Shown.shown) l.place (drop l.place l.values) ≡ lines_from (cell_line g.O.Shown.shown) 0 l.values
