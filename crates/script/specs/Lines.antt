-- The words of a line's reader
--   Rest          what it has still to read: the line's number and length, and the fields to come
--   opened        all of a line
--   rest          a reader of the code, so
--   next          the next field
--   passed        the rest without it
--   fault_at      what is wrong at a place of the line
--   fault         that, answered
--   word_at       a field as one of the words that are due
--   number_at     as a number of a range
--   end_at        as none, for the line is to end
--   word_from     the next field as one of the words that are due, and the rest
--   number_from   the next field as a number of a range, and the rest
--   mapped        what was read, turned into something else
--   natural_from  as `number_from`, for a range without signs
--   end_from      the end of the line
--   then          what is read first decides what is read next; a fault ends it
--   last          the end of the line, after which this is the answer
use Rattle.std.specs.Prelude.{ℕ, cond, ◌&&◌, List, length, drop, ℤ, pos, Some, None, Ok, Err, Option, Result, int_le, unsigned_abs}
use Rattle.script.specs.Cuts as cuts
use Rattle.script.specs.Fields.{Seen, word, number, missing, first, left, end}
use Rattle.script.specs.declared.faults.Wrong.{Wrong}
use Rattle.script.specs.declared.faults.Wrong.TheVariants as wrong
use Rattle.script.specs.declared.faults.FieldFault.{FieldFault}
use Rattle.script.specs.declared.lines.Line.{Line}

pub record Rest : Type 0 where
  pub line : ℕ
  pub end : ℕ
  pub fields : List (ℕ × List ℕ)

abbrev pub opened : ℕ → List ℕ → Rest
opened l bs = record { line = l; end = length bs; fields = cuts.fields bs }

abbrev pub rest : Line → Rest
rest r = record { line = r.number; end = end r.fields; fields = left r.fields }

abbrev pub next : Rest → Seen
next s = first s.end s.fields

abbrev pub passed : Rest → Rest
passed s = record { line = s.line; end = s.end; fields = drop 1 s.fields }

abbrev pub fault_at : ℕ → ℕ → Wrong → FieldFault
fault_at l p w = record { line = l; place = p; wrong = w }

abbrev pub fault : {A : Type 0} → ℕ → ℕ → Wrong → Result A FieldFault
fault l p w = Err (fault_at l p w)

abbrev pub known : {A : Type 0} → ℕ → ℕ → Option A → Result A FieldFault
known l p (Some a) = Ok a
known l p None = fault l p wrong.Word

abbrev pub word_at : {A : Type 0} → (List ℕ → Option A) → ℕ → Seen → Result A FieldFault
word_at meant l (word bs p) = known l p (meant bs)
word_at meant l (number z p) = fault l p wrong.Word
word_at meant l (missing p) = fault l p wrong.Missing

abbrev pub number_at : ℤ → ℤ → ℕ → Seen → Result ℤ FieldFault
number_at least most l (word bs p) = fault l p wrong.Number
number_at least most l (number z p) = cond (int_le least z && int_le z most) (Ok z) (fault l p wrong.Number)
number_at least most l (missing p) = fault l p wrong.Missing

abbrev pub end_at : ℕ → Seen → Result (Unit {0}) FieldFault
end_at l (word bs p) = fault l p wrong.Extra
end_at l (number z p) = fault l p wrong.Extra
end_at l (missing p) = Ok tt

abbrev pub word_from : {A : Type 0} → (List ℕ → Option A) → Rest → Result A FieldFault × Rest
word_from meant s = (word_at meant s.line (next s), passed s)

abbrev pub number_from : ℤ → ℤ → Rest → Result ℤ FieldFault × Rest
number_from least most s = (number_at least most s.line (next s), passed s)

abbrev pub as_value : {A B : Type 0} → (A → B) → Result A FieldFault → Result B FieldFault
as_value f (Ok a) = Ok (f a)
as_value f (Err e) = Err e

abbrev pub mapped : {A B : Type 0} → (A → B) → Result A FieldFault × Rest → Result B FieldFault × Rest
mapped f p = (as_value f p.0, p.1)

abbrev pub natural_from : ℕ → ℕ → Rest → Result ℕ FieldFault × Rest
natural_from least most s = mapped unsigned_abs (number_from (pos least) (pos most) s)

abbrev pub end_from : Rest → Result (Unit {0}) FieldFault × Rest
end_from s = (end_at s.line (next s), passed s)

abbrev pub bound : {A B : Type 0} → Result A FieldFault → Rest → (A → Rest → Result B FieldFault × Rest) → Result B FieldFault × Rest
bound (Ok a) s k = k a s
bound (Err e) s k = (Err e, s)

abbrev pub then : {A B : Type 0} → Result A FieldFault × Rest → (A → Rest → Result B FieldFault × Rest) → Result B FieldFault × Rest
then p k = bound p.0 p.1 k

abbrev pub last : {A : Type 0} → A → Rest → Result A FieldFault × Rest
last a s = mapped (λ _. a) (end_from s)
