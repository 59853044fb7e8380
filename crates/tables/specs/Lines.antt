-- The words of lines, requests and registers
--   target     the cell that a request is about
--   is_held    a line is not Invalid
--   cell_of    the cell of a line that is not Invalid
--   is_of      a line holds the cell
--   phase_of   the phase that a line's state stands for
--   hits       a line finishes a request as it stands
--   conflicts  a line has to go home before a request is granted
--   clashes    the phase is that of lines that conflict with a request
--   is_empty   a register is Empty
--   request_of the request that waits in a register
--   waits_for  a request for the cell waits in a register
use Rattle.std.specs.Prelude.{ℕ, Bool, true, false, ◌==◌, Some, None, Option}
use Rattle.tables.specs.declared.line.Line.{Line}
use Rattle.tables.specs.declared.line.Line.TheVariants.{Invalid, Shared, UpdateOnly, Modified}
use Rattle.tables.specs.declared.request.Request.{Request}
use Rattle.tables.specs.declared.request.Request.TheVariants.{Read, Write, Update}
use Rattle.tables.specs.declared.register.Register.{Register}
use Rattle.tables.specs.declared.register.Register.TheVariants.{Empty, Waiting, Answered}
use Rattle.tables.specs.declared.entry.Phase.{Phase}
use Rattle.tables.specs.declared.entry.Phase.TheVariants as phase

abbrev pub target : {V P : Type 0} → Request V P → ℕ
target (Read a) = a
target (Write a v) = a
target (Update a d) = a

abbrev pub is_held : {V P : Type 0} → Line V P → Bool
is_held Invalid = false
is_held (Shared b v) = true
is_held (UpdateOnly b d) = true
is_held (Modified b v) = true

abbrev pub cell_of : {V P : Type 0} → Line V P → ℕ
cell_of Invalid = 0
cell_of (Shared b v) = b
cell_of (UpdateOnly b d) = b
cell_of (Modified b v) = b

abbrev pub is_of : {V P : Type 0} → ℕ → Line V P → Bool
is_of a Invalid = false
is_of a (Shared b v) = b == a
is_of a (UpdateOnly b d) = b == a
is_of a (Modified b v) = b == a

abbrev pub phase_of : {V P : Type 0} → Line V P → Phase
phase_of Invalid = phase.Free
phase_of (Shared b v) = phase.Shared
phase_of (UpdateOnly b d) = phase.UpdateOnly
phase_of (Modified b v) = phase.Modified

-- a read hits on Shared and Modified, a write on Modified, an update on Update-only and Modified
abbrev pub hits : {V P : Type 0} → Request V P → Line V P → Bool
hits (Read a) Invalid = false
hits (Read a) (Shared b v) = b == a
hits (Read a) (UpdateOnly b d) = false
hits (Read a) (Modified b v) = b == a
hits (Write a u) Invalid = false
hits (Write a u) (Shared b v) = false
hits (Write a u) (UpdateOnly b d) = false
hits (Write a u) (Modified b v) = b == a
hits (Update a e) Invalid = false
hits (Update a e) (Shared b v) = false
hits (Update a e) (UpdateOnly b d) = b == a
hits (Update a e) (Modified b v) = b == a

-- a read conflicts with Update-only and Modified lines of its cell, a write with every line of it,
-- an update with Shared and Modified ones
abbrev pub conflicts : {V P : Type 0} → Request V P → Line V P → Bool
conflicts (Read a) Invalid = false
conflicts (Read a) (Shared b v) = false
conflicts (Read a) (UpdateOnly b d) = b == a
conflicts (Read a) (Modified b v) = b == a
conflicts (Write a u) Invalid = false
conflicts (Write a u) (Shared b v) = b == a
conflicts (Write a u) (UpdateOnly b d) = b == a
conflicts (Write a u) (Modified b v) = b == a
conflicts (Update a e) Invalid = false
conflicts (Update a e) (Shared b v) = b == a
conflicts (Update a e) (UpdateOnly b d) = false
conflicts (Update a e) (Modified b v) = b == a

abbrev pub clashes : {V P : Type 0} → Request V P → Phase → Bool
clashes (Read a) phase.Free = false
clashes (Read a) phase.Shared = false
clashes (Read a) phase.UpdateOnly = true
clashes (Read a) phase.Modified = true
clashes (Write a v) phase.Free = false
clashes (Write a v) phase.Shared = true
clashes (Write a v) phase.UpdateOnly = true
clashes (Write a v) phase.Modified = true
clashes (Update a d) phase.Free = false
clashes (Update a d) phase.Shared = true
clashes (Update a d) phase.UpdateOnly = false
clashes (Update a d) phase.Modified = true

abbrev pub is_empty : {V P : Type 0} → Register V P → Bool
is_empty Empty = true
is_empty (Waiting r) = false
is_empty (Answered v) = false

abbrev pub request_of : {V P : Type 0} → Register V P → Option (Request V P)
request_of Empty = None
request_of (Waiting r) = Some r
request_of (Answered v) = None

abbrev pub waits_for : {V P : Type 0} → ℕ → Register V P → Bool
waits_for a Empty = false
waits_for a (Waiting r) = target r == a
waits_for a (Answered v) = false
