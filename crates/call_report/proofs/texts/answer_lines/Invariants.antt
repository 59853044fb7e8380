use Rattle.std.proofs.Common.{◌≡◌, ◌++◌, drop, string_bytes}
use Rattle.call_report.specs.Texts.{lines_from, answer_line}
use Rattle.call_report.proofs.texts.answer_lines.Given as goal

-- what is written, and the lines to come, are all the lines
abbrev pub invariant-loop-before : goal.invariant-loop-before
invariant-loop-before g l = string_bytes l.lines ++ lines_from (answer_line g.O.Shown.shown) l.before (drop l.before l.answers) ≡ lines_from (answer_line g.O.Shown.shown) 0 l.answers
