-- What an abandoned bench leaves undone
--   owes  whether a line holds what the home does not have: it is Update-only or Modified
--   owed  how many lines of a table owe something
use Rattle.std.specs.Prelude.{ℕ, ◌+◌, List, [], ◌∷◌}
use Rattle.tables.specs.declared.line.Line.{Line}
use Rattle.tables.specs.declared.line.Line.TheVariants.{Invalid, Shared, UpdateOnly, Modified}

abbrev pub owes : {V P : Type 0} → Line V P → ℕ
owes Invalid = 0
owes (Shared a v) = 0
owes (UpdateOnly a d) = 1
owes (Modified a v) = 1

abbrev pub owed : {V P : Type 0} → List (Line V P) → ℕ
owed [] = 0
owed (l ∷ ls) = owes l + owed ls
