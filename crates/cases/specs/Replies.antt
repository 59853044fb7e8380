-- What a make, or a call of a home, comes to
--   done_or   a store or an apply
--   value_or  a load
--   reply_to  a make, by what speaks against it
--   made_of   a make of tables, with one way for each party: the limits decide, and whether the home has the cells
use Rattle.std.specs.Prelude.{List, length, Some, None, Ok, Err, Option, Result, nat_le}
use Rattle.operation.specs.declared.count.Count.{Count}
use Rattle.operation.specs.declared.delta.Delta.{Delta}
use Rattle.memory.specs.Homes as home
use Rattle.memory.specs.declared.Refusal as memory
use Rattle.tables.specs.Refusals.{number_of}
use Rattle.tables.specs.Legal.{fits}
use Rattle.tables.specs.declared.entry.Entry.{Entry}
use Rattle.tables.specs.declared.line.Line.{Line}
use Rattle.tables.specs.declared.register.Register.{Register}
use Rattle.tables.specs.declared.refusal.Refusal.{Refusal}
use Rattle.tables.specs.declared.refusal.Refusal.TheVariants.{Sizes, HomeTooSmall}
use Rattle.model.specs.Steps.{need}
use Rattle.cases.specs.declared.texts.Reply.{Reply}
use Rattle.cases.specs.declared.texts.Reply.TheVariants.{Done, Value, Refused}

abbrev pub done_or : Result (Unit {0}) memory.Refusal → Reply
done_or (Ok u) = Done
done_or (Err n) = Refused (home.number_of n)

abbrev pub value_or : Result Count memory.Refusal → Reply
value_or (Ok v) = Value v.bits
value_or (Err n) = Refused (home.number_of n)

abbrev pub reply_to : Option Refusal → Reply
reply_to None = Done
reply_to (Some n) = Refused (number_of n)

abbrev pub made_of : List (Line Count Delta) → List Entry → List (Register Count Delta) → List Count → Reply
made_of lines directory registers cells = reply_to (need (fits 1 lines directory registers) Sizes (need (nat_le (length directory) (length cells)) HomeTooSmall None))
