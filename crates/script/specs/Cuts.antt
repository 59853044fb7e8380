-- The words of cutting
--   parts       what the bytes of one kind cut a text into: each ends a part and starts the next
--   tail        what comes after a first part: nothing, or the byte that ends it and a text
--   tail_parts  the parts of that text
--   trimmed     parts without an empty last one
--   placed      parts with their places, the first at a given one
--   lines       the lines of a script: each ends with a line feed, which the last may lack
--   lines_left  the lines that an iterator over them has still to give
--   fields      the fields of a line with their places: single spaces cut them
use Rattle.std.specs.Prelude.{ℕ, ◌+◌, List, [], ◌∷◌, length, ◌==◌, Option, Some, None}
use Rattle.std.specs.List.{slice_split}
use Rattle.script.specs.declared.cuts.Lines.{Lines}

abbrev pub parts : ℕ → List ℕ → List (List ℕ)
parts s bs = slice_split (λ b. b == s) bs

abbrev pub tail : ℕ → Option (List ℕ) → List ℕ
tail s None = []
tail s (Some bs) = s ∷ bs

abbrev pub tail_parts : ℕ → Option (List ℕ) → List (List ℕ)
tail_parts s None = []
tail_parts s (Some bs) = parts s bs

abbrev pub unless_empty : List ℕ → List (List ℕ)
unless_empty [] = []
unless_empty (c ∷ cs) = (c ∷ cs) ∷ []

abbrev pub trimmed : List (List ℕ) → List (List ℕ)
trimmed [] = []
trimmed (w ∷ []) = unless_empty w
trimmed (w ∷ v ∷ ws) = w ∷ trimmed (v ∷ ws)

abbrev pub lines : List ℕ → List (List ℕ)
lines script = trimmed (parts 10 script)

abbrev pub lines_left : Lines → List (List ℕ)
lines_left s = lines s.0.now

abbrev pub placed : ℕ → List (List ℕ) → List (ℕ × List ℕ)
placed p [] = []
placed p (w ∷ ws) = (p, w) ∷ placed (p + length w + 1) ws

abbrev pub fields : List ℕ → List (ℕ × List ℕ)
fields line = placed 0 (parts 32 line)
