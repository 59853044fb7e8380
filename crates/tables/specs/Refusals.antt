-- The numbers of the refusals
use Rattle.std.specs.Prelude.{ℕ}
use Rattle.tables.specs.declared.refusal.Refusal.{Refusal}
use Rattle.tables.specs.declared.refusal.Refusal.TheVariants.{Sizes, Illegal, LedgerClosed, HomeTooSmall, CountTooHigh, NoSuchParty, NoSuchCell, RegisterInUse, RegisterEmpty, RegisterWaiting, NoLine, Unfinished, Place}

abbrev pub number_of : Refusal → ℕ
number_of Sizes = 1
number_of Illegal = 2
number_of LedgerClosed = 3
number_of HomeTooSmall = 4
number_of CountTooHigh = 5
number_of NoSuchParty = 6
number_of NoSuchCell = 7
number_of RegisterInUse = 8
number_of RegisterEmpty = 9
number_of RegisterWaiting = 10
number_of NoLine = 11
number_of Unfinished = 12
number_of Place = 13
