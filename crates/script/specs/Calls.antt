-- The words of a line that says a call
--   index_from    the number of a party or a cell, which the bench may have or not
--   wished_from   what a post asks for of a cell, by its word
--   request_from  what a post asks for
--   said_from     a call, by its word, from as many fields as it takes
--   verb_from     the same where they are all that are left of the line
--   call_from     a call, which takes all fields of its line
--   call_of       the call of a line with its number, or its fault
use Rattle.std.specs.Prelude.{ℕ, List, Ok, Err, Result}
use Rattle.model.specs.declared.Call.{Call}
use Rattle.model.specs.declared.Call.TheVariants as call
use Rattle.tables.specs.declared.Request.{Request}
use Rattle.tables.specs.declared.Request.TheVariants as request
use Rattle.script.specs.Faults.{to_line}
use Rattle.script.specs.Lines.{Rest, opened, word_from, natural_from, mapped, then, last}
use Rattle.script.specs.Words.{verb_of, wish_of}
use Rattle.script.specs.declared.faults.FieldFault.{FieldFault}
use Rattle.script.specs.declared.faults.LineFault.{LineFault}
use Rattle.script.specs.declared.words.Verb.{Verb}
use Rattle.script.specs.declared.words.Verb.TheVariants as verb
use Rattle.script.specs.declared.words.Wish.{Wish}
use Rattle.script.specs.declared.words.Wish.TheVariants as wish

abbrev pub index_from : Rest → Result ℕ FieldFault × Rest
index_from s = natural_from 0 65535 s

-- how the operation's values and partials are read
module _ {V P : Type 0} (values : Rest → Result V FieldFault × Rest) (partials : Rest → Result P FieldFault × Rest) where
  abbrev pub wished_from : Wish → ℕ → Rest → Result (Request V P) FieldFault × Rest
  wished_from wish.Read cell s = (Ok (request.Read cell), s)
  wished_from wish.Write cell s = mapped (request.Write cell) (values s)
  wished_from wish.Update cell s = mapped (request.Update cell) (partials s)

  abbrev pub request_from : Rest → Result (Request V P) FieldFault × Rest
  request_from s = then (word_from wish_of s) (λ w t. then (index_from t) (λ cell u. wished_from w cell u))

  abbrev pub said_from : Verb → Rest → Result (Call V P) FieldFault × Rest
  said_from verb.Post s = then (index_from s) (λ party t. mapped (call.Post party) (request_from t))
  said_from verb.Advance s = mapped call.Advance (index_from s)
  said_from verb.Collect s = mapped call.Collect (index_from s)
  said_from verb.Yield s = then (index_from s) (λ party t. mapped (call.Yield party) (index_from t))
  said_from verb.Settle s = (Ok call.Settle, s)

  abbrev pub verb_from : Verb → Rest → Result (Call V P) FieldFault × Rest
  verb_from v s = then (said_from v s) (λ call t. last call t)

  abbrev pub call_from : Rest → Result (Call V P) FieldFault × Rest
  call_from s = then (word_from verb_of s) (λ v t. verb_from v t)

  abbrev pub as_line : Result (Call V P) FieldFault → Result (Call V P) LineFault
  as_line (Ok c) = Ok c
  as_line (Err e) = Err (to_line e)

  abbrev pub call_of : ℕ → List ℕ → Result (Call V P) LineFault
  call_of number line = as_line (call_from (opened number line)).0
