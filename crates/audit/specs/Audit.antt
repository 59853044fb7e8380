-- The audit of tables
--   audited       what it answers: the first check that fails, in rising order
--   Sized         what the passes over the tables lean on, where the sizes fit
--   room          a line may join those found of its cell: no party has two, and a Modified line is alone
--   admits        a line is right, as far as the parties found before it tell
--   admitted      the parties found, with the line's
--   same_parties  two sets have the same parties
--   free_right    a phase is Free exactly where nobody holds the cell
--   turn_waits    a turn, if any, names a party that waits for the cell
--   entry_right   an entry is right, where the parties found to have a line of its cell are known
use Rattle.std.specs.Prelude.{◌≡◌, ℕ, ◌*◌, ◌<◌, ◌≤◌, Bool, true, cond, not, ◌&&◌, ◌||◌, List, length, get_or, Some, None, Ok, Err, Option, Result, ◌==◌, nat_lt, slice_index_or, slice_set}
use Rattle.tables.specs.declared.line.Line.{Line}
use Rattle.tables.specs.declared.register.Register.{Register}
use Rattle.tables.specs.declared.register.Register.TheVariants.{Empty}
use Rattle.party_set.specs.declared.PartySet.{PartySet}
use Rattle.tables.specs.declared.entry.Phase.{Phase}
use Rattle.tables.specs.declared.entry.Phase.TheVariants as phase
use Rattle.tables.specs.declared.entry.Entry.{Entry}
use Rattle.tables.specs.declared.refusal.Refusal.{Refusal}
use Rattle.tables.specs.declared.refusal.Refusal.TheVariants.{Sizes, Illegal}
use Rattle.party_set.specs.Sets.{has, nobody, is_nobody, with}
use Rattle.tables.specs.Lines.{is_held, cell_of, phase_of, waits_for}
use Rattle.tables.specs.Legal.{blank, phase_code, same, misses, fits, legal}

abbrev pub audited : {V P : Type 0} → ℕ → List (Line V P) → List Entry → List (Register V P) → Result (Unit {0}) Refusal
audited ways lines directory registers = cond (fits ways lines directory registers) (cond (legal ways lines directory registers) (Ok tt) (Err Illegal)) (Err Sizes)

pub record Sized {V P : Type 0} (ways : ℕ) (lines : List (Line V P)) (directory : List Entry) (registers : List (Register V P)) : Type 0 where
  pub few_parties : length registers ≤ 16
  pub few_cells : length directory ≤ 256
  pub some_way : 0 < ways
  pub few_ways : ways ≤ 8
  pub all_lines : length lines ≡ length registers * ways

abbrev pub room : Phase → PartySet → ℕ → Bool
room phase.Free found p = not (has found p)
room phase.Shared found p = not (has found p)
room phase.UpdateOnly found p = not (has found p)
room phase.Modified found p = is_nobody found

abbrev pub admits : {V P : Type 0} → List Entry → List PartySet → ℕ → Register V P → Line V P → Bool
admits directory found p r l =
    not (is_held l)
    || (nat_lt (cell_of l) (length directory)
    && (phase_code (phase_of l) == phase_code (get_or directory (cell_of l) (blank 0)).phase
    && (room (phase_of l) (slice_index_or found (cell_of l) nobody) p && misses r l)))

abbrev pub admitted : {V P : Type 0} → List PartySet → ℕ → Line V P → List PartySet
admitted found p l = cond (is_held l) (slice_set found (cell_of l) (with (slice_index_or found (cell_of l) nobody) p)) found

abbrev pub same_parties : PartySet → PartySet → Bool
same_parties g h = g.members == h.members

abbrev pub free_right : Phase → PartySet → Bool
free_right f h = same (phase_code f == 0) (is_nobody h)

abbrev pub turn_waits : {V P : Type 0} → List (Register V P) → ℕ → Option ℕ → Bool
turn_waits registers a None = true
turn_waits registers a (Some q) = nat_lt q (length registers) && waits_for a (slice_index_or registers q Empty)

abbrev pub entry_right : {V P : Type 0} → List (Register V P) → ℕ → Entry → PartySet → Bool
entry_right registers a e found = nat_lt e.last (length registers) && (same_parties e.holders found && (free_right e.phase found && turn_waits registers a e.turn))
