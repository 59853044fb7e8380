-- The words of faults
--   number_of  the number that a cause is printed as
--   cause_of   the cause of what is wrong with a field
--   to_line    a field's fault as its line's
--   broken     the fault of a script that describes no bench or is too long
use Rattle.std.specs.Prelude.{ℕ}
use Rattle.script.specs.declared.faults.Wrong.{Wrong}
use Rattle.script.specs.declared.faults.Wrong.TheVariants as wrong
use Rattle.script.specs.declared.faults.Cause.{Cause}
use Rattle.script.specs.declared.faults.Cause.TheVariants as cause
use Rattle.script.specs.declared.faults.FieldFault.{FieldFault}
use Rattle.script.specs.declared.faults.LineFault.{LineFault}

abbrev pub number_of : Cause → ℕ
number_of cause.Broken = 21
number_of cause.Word = 22
number_of cause.Number = 23
number_of cause.Fields = 24

abbrev pub cause_of : Wrong → Cause
cause_of wrong.Word = cause.Word
cause_of wrong.Number = cause.Number
cause_of wrong.Missing = cause.Fields
cause_of wrong.Extra = cause.Fields

abbrev pub to_line : FieldFault → LineFault
to_line e = record { line = e.line; place = e.place; cause = cause_of e.wrong }

abbrev pub broken : LineFault
broken = record { line = 1; place = 0; cause = cause.Broken }
