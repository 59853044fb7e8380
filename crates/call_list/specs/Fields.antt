-- The lines of a text, and the words of a line
--   Begins  that a text begins with these lines, and what is left of it
--   First   that a text is white space, a word, and a rest that is empty or begins with white space
--   Words   that these are the words of a text
use Rattle.std.specs.Prelude.{◌≡◌, ℕ, ◌<◌, List, [], ◌∷◌, ◌++◌, length}
use Rattle.std.specs.Str.Lines.{IsFirstLine}
use Rattle.std.specs.Char.{is_whitespace, is_not_whitespace}
use Rattle.std.specs.Str.{NoCharPasses, EmptyOrStartsWithPassing}

abbrev pub Begins : List ℕ → List (List ℕ) → List ℕ → Type 0
Begins bs [] rest = bs ≡ rest
Begins bs (l ∷ ls) rest = (more : List ℕ) × (0 < length bs) × IsFirstLine bs l more × Begins more ls rest

pub record First (bs w rest : List ℕ) : Type 0 where
  pub gap : List ℕ
  pub cut : bs ≡ gap ++ (w ++ rest)
  pub some : 0 < length w
  pub blank : NoCharPasses is_not_whitespace gap
  pub solid : NoCharPasses is_whitespace w
  pub ends : (more : List ℕ) × EmptyOrStartsWithPassing is_whitespace rest more

abbrev pub Words : List ℕ → List (List ℕ) → Type 0
Words bs [] = NoCharPasses is_not_whitespace bs
Words bs (w ∷ ws) = (rest : List ℕ) × First bs w rest × Words rest ws
