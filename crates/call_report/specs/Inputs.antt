-- The words of a program that turns an input into a report
--   line_feed  whether a byte ends a line
--   Headed     that the first line of a text says an operation and a number of cells
--   Reported   that a report is that of the calls of a text, for an operation and its notation
--   ReportOf   the same for an operation by its name: values and partials are numbers in its ranges, and shown in decimal
--   Answers    that a report is that of an input
use Rattle.std.specs.Prelude.{◌≡◌, ℕ, ◌-◌, ◌^◌, max, Bool, List, [], ◌∷◌, decimal, Result, ◌==◌, bit_or}
use Rattle.operation.specs.Algebra.{Algebra}
use Rattle.operation.specs.Total.{totals}
use Rattle.layering.specs.declared.Call.{Call}
use Rattle.notation.specs.declared.Kind.{Kind}
use Rattle.notation.specs.declared.Kind.TheVariants.{Total, Peak, Flags}
use Rattle.notation.specs.declared.Misread.{Misread}
use Rattle.notation.specs.Scales.{natural, counts, deltas, Reads}
use Rattle.call_list.specs.Fields.{Begins}
use Rattle.call_list.specs.Script.{HeadLine, Calls}
use Rattle.call_report.specs.declared.comparison.Comparison.{Comparison}
use Rattle.call_report.specs.Reports.{Compared, report_text}

abbrev pub line_feed : ℕ → Bool
line_feed byte = byte == 10

abbrev pub Headed : List ℕ → Kind → ℕ → Type 0
Headed text k n = (line rest : List ℕ) × Begins text (line ∷ []) rest × HeadLine line k n

pub record Reported {V P : Type 0} (o : Algebra V P) (value : List ℕ → Result V Misread → Type 0) (partial : List ℕ → Result P Misread → Type 0) (shown : V → List ℕ) (text : List ℕ) (size : ℕ) (report : List ℕ) : Type 0 where
  pub calls : List (Call V P)
  pub listed : Calls value partial text calls
  pub comparison : Comparison
  pub compared : Compared o shown size calls comparison
  pub printed : report ≡ report_text size comparison

abbrev pub ReportOf : Kind → List ℕ → ℕ → List ℕ → Type 0
ReportOf Total = Reported totals (Reads counts) (Reads deltas) (λ c. decimal c.bits)
ReportOf Peak = Reported (record { neutral = 0; join = max; act = max }) (Reads (natural (2 ^ 64 - 1))) (Reads (natural (2 ^ 64 - 1))) decimal
ReportOf Flags = Reported (record { neutral = 0; join = bit_or; act = bit_or }) (Reads (natural (2 ^ 16 - 1))) (Reads (natural (2 ^ 16 - 1))) decimal

abbrev pub Answers : List ℕ → List ℕ → Type 0
Answers input report = (k : Kind) × (n : ℕ) × Headed input k n × ReportOf k input n report
