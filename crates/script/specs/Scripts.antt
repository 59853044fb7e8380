-- The words of a script
--   start_of    the bench of a script: that of its first line, if the script has one and is not too long
--   head_of     the same with the fault of a script that has none
--   calls_from  the calls of lines, of which the first has a number, up to the first line with a fault, and that fault
--   calls_of    the calls of the lines after the first, up to the first line with a fault, and that fault, if any;
--               the call with index i is that of line i + 2, for each line says one
--   Added       that the calls were added to a list, and the fault answered; or that memory was wanting
use Rattle.std.specs.Prelude.{◌≡◌, ℕ, ◌+◌, cond, List, [], ◌∷◌, ◌++◌, length, drop, Some, None, Ok, Err, Option, Result, nat_le}
use Rattle.model.specs.declared.Call.{Call}
use Rattle.script.specs.Calls.{call_of}
use Rattle.script.specs.Cuts.{lines}
use Rattle.script.specs.Faults.{broken}
use Rattle.script.specs.Heads.{bench_of}
use Rattle.script.specs.Lines.{Rest}
use Rattle.script.specs.declared.faults.FieldFault.{FieldFault}
use Rattle.script.specs.declared.faults.LineFault.{LineFault}
use Rattle.script.specs.declared.faults.NoBench.{NoBench}
use Rattle.script.specs.declared.faults.PlayFault.{PlayFault}
use Rattle.script.specs.declared.faults.PlayFault.TheVariants.{Script, Memory}
use Rattle.script.specs.declared.heads.Head.{Head}

abbrev pub first_of : List (List ℕ) → Result Head NoBench
first_of [] = Err (record {})
first_of (l ∷ ls) = bench_of l

abbrev pub start_of : List ℕ → Result Head NoBench
start_of script = cond (nat_le (length script) 65536) (first_of (lines script)) (Err (record {}))

abbrev pub or_broken : Result Head NoBench → Result Head LineFault
or_broken (Ok h) = Ok h
or_broken (Err e) = Err broken

abbrev pub head_of : List ℕ → Result Head LineFault
head_of script = or_broken (start_of script)

-- how the operation's values and partials are read
module _ {V P : Type 0} (values : Rest → Result V FieldFault × Rest) (partials : Rest → Result P FieldFault × Rest) where
  abbrev pub after : Result (Call V P) LineFault → List (Call V P) × Option LineFault → List (Call V P) × Option LineFault
  after (Ok c) r = (c ∷ r.0, r.1)
  after (Err f) r = ([], Some f)

  abbrev pub calls_from : ℕ → List (List ℕ) → List (Call V P) × Option LineFault
  calls_from n [] = ([], None)
  calls_from n (l ∷ ls) = after (call_of values partials n l) (calls_from (n + 1) ls)

  abbrev pub calls_of : List ℕ → List (Call V P) × Option LineFault
  calls_of script = calls_from 2 (drop 1 (lines script))

abbrev pub Added : {C : Type 0} → List C × Option LineFault → List C → List C → Result (Unit {0}) PlayFault → Type 0
Added o before now (Ok _) = (now ≡ before ++ o.0) × (o.1 ≡ None)
Added o before now (Err (Script f)) = (now ≡ before ++ o.0) × (o.1 ≡ Some f)
Added o before now (Err (Memory _)) = Unit {0}
