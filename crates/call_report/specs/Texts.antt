-- The words of a report
--   line_number   the number of the line of a call, by the calls before it: the first stands on line 2
--   numbered      a line with a number and a text
--   lines_from    a line for each item of a list, by its place from a first place on
--   said          what an answer says: the value of a load, `done`, or `refused` and the refusal's number
--   answer_line   an answer, after the number of its call's line
--   answer_lines  the answers to all calls
--   cell_line     a cell's place and value, unless that is 0
--   cell_lines    the cells that are not 0
use Rattle.std.specs.Prelude.{ℕ, ◌+◌, ◌-◌, ◌^◌, min, cond, List, [], ◌∷◌, ◌++◌, codes, decimal}
use Rattle.std.specs.Str.{bytes_eq}
use Rattle.memory.specs.Homes.{number_of}
use Rattle.layering.specs.declared.Answer.{Answer}
use Rattle.layering.specs.declared.Answer.TheVariants.{Value, Done, Refused}

abbrev pub line_number : ℕ → ℕ
line_number before = min (before + 2) (2 ^ 64 - 1)

abbrev pub numbered : ℕ → List ℕ → List ℕ
numbered n text = decimal n ++ (codes " " ++ (text ++ codes "\n"))

abbrev pub lines_from : {X : Type 0} → (ℕ → X → List ℕ) → ℕ → List X → List ℕ
lines_from line i [] = []
lines_from line i (x ∷ xs) = line i x ++ lines_from line (i + 1) xs

module _ {V : Type 0} (shown : V → List ℕ) where
  abbrev pub said : Answer V → List ℕ
  said (Value v) = shown v
  said Done = codes "done"
  said (Refused e) = codes "refused " ++ decimal (number_of e)

  abbrev pub answer_line : ℕ → Answer V → List ℕ
  answer_line before a = numbered (line_number before) (said a)

  abbrev pub answer_lines : List (Answer V) → List ℕ
  answer_lines = lines_from answer_line 0

  abbrev pub cell_line : ℕ → V → List ℕ
  cell_line place v = cond (bytes_eq (shown v) (codes "0")) [] (numbered place (shown v))

  abbrev pub cell_lines : List V → List ℕ
  cell_lines = lines_from cell_line 0
