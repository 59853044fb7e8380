-- The words of a play: what a list of values answers to calls, and what they leave of it
--   answer     what a call of a home answers to its caller
--   of_load    the answer that a load's result makes
--   of_change  the answer that a store's or an apply's result makes
--   after      the values after a call
--   answered   the answers to a list of calls, in their order
--   finally    the values after a list of calls
--   Played     that a play gave these answers, and left these values
use Rattle.std.specs.Prelude.{◌≡◌, List, [], ◌∷◌, Ok, Err, Result, slice_set}
use Rattle.operation.specs.Algebra.{Algebra, applied}
use Rattle.memory.specs.declared.Refusal.{Refusal}
use Rattle.memory.specs.Homes.{loaded, placed}
use Rattle.layering.specs.declared.calls.Call.{Call}
use Rattle.layering.specs.declared.calls.Call.TheVariants.{Load, Store, Apply}
use Rattle.layering.specs.declared.calls.Answer.{Answer}
use Rattle.layering.specs.declared.calls.Answer.TheVariants.{Value, Done, Refused}

abbrev pub of_load : {V : Type 0} → Result V Refusal → Answer V
of_load (Ok v) = Value v
of_load (Err e) = Refused e

abbrev pub of_change : {V : Type 0} → Result (Unit {0}) Refusal → Answer V
of_change (Ok u) = Done
of_change (Err e) = Refused e

abbrev pub answer : {V P : Type 0} → Call V P → List V → Answer V
answer (Load i) vs = of_load (loaded vs i)
answer (Store i v) vs = of_change (placed vs i)
answer (Apply i p) vs = of_change (placed vs i)

abbrev pub after : {V P : Type 0} → Algebra V P → Call V P → List V → List V
after o (Load i) vs = vs
after o (Store i v) vs = slice_set vs i v
after o (Apply i p) vs = applied o vs i p

abbrev pub answered : {V P : Type 0} → Algebra V P → List (Call V P) → List V → List (Answer V)
answered o [] vs = []
answered o (c ∷ cs) vs = answer c vs ∷ answered o cs (after o c vs)

abbrev pub finally : {V P : Type 0} → Algebra V P → List (Call V P) → List V → List V
finally o [] vs = vs
finally o (c ∷ cs) vs = finally o cs (after o c vs)

pub record Played {V P : Type 0} (o : Algebra V P) (calls : List (Call V P)) (before : List V) (answers : List (Answer V)) (values : List V) : Type 0 where
  pub said : answers ≡ answered o calls before
  pub left : values ≡ finally o calls before
