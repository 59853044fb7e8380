-- The words of a comparison and of its report
--   Compared       that a comparison has the answers and cells of a plain list that starts at 0, and found that the piles agree
--   counts_line    how many calls of each kind reached the cells under a pile
--   reached_lines  the same of the three piles
--   verdict_line   whether the piles agree
--   layout         how the parts of a report stand
--   report_text    the whole report
use Rattle.std.specs.Prelude.{◌≡◌, ℕ, Bool, true, cond, List, ◌++◌, replicate, string_bytes, codes, decimal}
use Rattle.operation.specs.Algebra.{Algebra}
use Rattle.memory.specs.Row.{counted}
use Rattle.layering.specs.declared.Call.{Call}
use Rattle.layering.specs.declared.Counts.{Counts}
use Rattle.layering.specs.Plays.{answered, finally}
use Rattle.call_report.specs.declared.comparison.Comparison.{Comparison}
use Rattle.call_report.specs.Texts.{answer_lines, cell_lines}

pub record Compared {V P : Type 0} (o : Algebra V P) (shown : V → List ℕ) (size : ℕ) (calls : List (Call V P)) (c : Comparison) : Type 0 where
  pub zero : V
  pub blank : shown zero ≡ decimal 0
  pub answers : string_bytes c.answers ≡ answer_lines shown (answered o calls (counted (replicate size zero)))
  pub cells : string_bytes c.cells ≡ cell_lines shown (finally o calls (counted (replicate size zero)))
  pub agree : c.agree ≡ true

abbrev pub counts_line : List ℕ → Counts → List ℕ
counts_line pile c = pile ++ (codes ": " ++ (decimal c.loads ++ (codes " loads, " ++ (decimal c.stores ++ (codes " stores, " ++ (decimal c.applies ++ codes " applies\n"))))))

abbrev pub reached_lines : Comparison → List ℕ
reached_lines c = counts_line (codes "plain cells") c.plain ++ (counts_line (codes "one register") c.one ++ counts_line (codes "two registers") c.two)

abbrev pub verdict_line : Bool → List ℕ
verdict_line b = cond b (codes "the piles agree\n") (codes "the piles differ\n")

abbrev pub layout : List ℕ → List ℕ → ℕ → List ℕ → List ℕ → List ℕ
layout answers reached size cells end = answers ++ (codes "reached the cells, with what the registers sent down in the end:\n" ++ (reached ++ (codes "cells in the end that are not 0, of " ++ (decimal size ++ (codes ":\n" ++ (cells ++ end))))))

abbrev pub report_text : ℕ → Comparison → List ℕ
report_text size c = layout (string_bytes c.answers) (reached_lines c) size (string_bytes c.cells) (verdict_line c.agree)
