-- When tables are legal: six statements, and the test that decides them
-- P is the number of registers, N of directory entries and W of ways.
--   line          way w of party p, which is line p × W + w
--   entry         what the directory has of a cell
--   register      what a party's register has
--   InRange       1: every cell, turn, last party and holder that the tables name exists
--   SingleLines   2: no party has two lines of one cell
--   HoldersRight  3: a cell's holders are exactly the parties with a line of it, and the line's state is the phase
--   PhasesRight   4: a phase is Free exactly without holders, and Modified has one
--   TurnsWait     5: a turn names a party that waits for that cell
--   NothingHits   6: no waiting request would hit in its party's lines
--   Legal         the six together
--   legal         the test that decides them
--   fits          P is 1 to 16, N 1 to 256, W 1 to 8, and there are P × W lines
use Rattle.std.specs.Prelude.{◌≡◌, ℕ, zero, suc, ◌+◌, ◌*◌, ◌^◌, ◌<◌, Bool, true, false, not, ◌&&◌, ◌||◌, List, length, Some, None, Option, ◌==◌, nat_le, nat_lt, slice_index_or}
use Rattle.tables.specs.declared.line.Line.{Line}
use Rattle.tables.specs.declared.line.Line.TheVariants.{Invalid}
use Rattle.tables.specs.declared.request.Request.{Request}
use Rattle.tables.specs.declared.register.Register.{Register}
use Rattle.tables.specs.declared.register.Register.TheVariants.{Empty, Waiting, Answered}
use Rattle.tables.specs.declared.entry.Phase.{Phase}
use Rattle.tables.specs.declared.entry.Phase.TheVariants as phase
use Rattle.tables.specs.declared.entry.Entry.{Entry}
use Rattle.party_set.specs.Sets.{has, nobody, is_nobody}
use Rattle.tables.specs.Lines.{target, is_held, cell_of, is_of, phase_of, hits, waits_for}

-- an entry of which nothing is known, with the party last granted
abbrev pub blank : ℕ → Entry
blank last = record { phase = phase.Free; holders = nobody; turn = None; last = last }

-- every number below n passes, some number below n passes
abbrev pub every : (ℕ → Bool) → ℕ → Bool
every t zero = true
every t (suc n) = t n && every t n

abbrev pub any : (ℕ → Bool) → ℕ → Bool
any t zero = false
any t (suc n) = t n || any t n

abbrev pub phase_code : Phase → ℕ
phase_code phase.Free = 0
phase_code phase.Shared = 1
phase_code phase.UpdateOnly = 2
phase_code phase.Modified = 3

abbrev pub same : Bool → Bool → Bool
same true b = b
same false b = not b

abbrev pub asks_within : {V P : Type 0} → ℕ → Register V P → Bool
asks_within n Empty = true
asks_within n (Waiting r) = nat_lt (target r) n
asks_within n (Answered v) = true

abbrev pub misses : {V P : Type 0} → Register V P → Line V P → Bool
misses Empty l = true
misses (Waiting r) l = not (hits r l)
misses (Answered v) l = true

module _ {V P : Type 0} (ways : ℕ) (lines : List (Line V P)) (directory : List Entry) (registers : List (Register V P)) where
  abbrev pub parties : ℕ
  parties = length registers

  abbrev pub cells : ℕ
  cells = length directory

  abbrev pub line : ℕ → ℕ → Line V P
  line p w = slice_index_or lines (p * ways + w) Invalid

  abbrev pub entry : ℕ → Entry
  entry a = slice_index_or directory a (blank 0)

  abbrev pub register : ℕ → Register V P
  register p = slice_index_or registers p Empty

  -- 1
  pub record InRange : Type 0 where
    pub line_cells : (p w : ℕ) → p < parties → w < ways → is_held (line p w) ≡ true → cell_of (line p w) < cells
    pub request_cells : (p : ℕ) (r : Request V P) → p < parties → register p ≡ Waiting r → target r < cells
    pub turn_parties : (a q : ℕ) → a < cells → (entry a).turn ≡ Some q → q < parties
    pub last_parties : (a : ℕ) → a < cells → (entry a).last < parties
    pub holder_parties : (a q : ℕ) → a < cells → has (entry a).holders q ≡ true → q < parties

  -- 2
  abbrev pub SingleLines : Type 0
  SingleLines = (p w x a : ℕ) → p < parties → w < ways → x < ways → is_of a (line p w) ≡ true → is_of a (line p x) ≡ true → w ≡ x

  -- 3
  pub record HoldersRight : Type 0 where
    pub has_line : (a p : ℕ) → a < cells → p < parties → has (entry a).holders p ≡ true → (w : ℕ) × (w < ways) × (is_of a (line p w) ≡ true)
    pub is_holder : (a p w : ℕ) → p < parties → w < ways → is_of a (line p w) ≡ true → has (entry a).holders p ≡ true
    pub in_phase : (a p w : ℕ) → p < parties → w < ways → is_of a (line p w) ≡ true → phase_of (line p w) ≡ (entry a).phase

  -- 4
  pub record PhasesRight : Type 0 where
    pub unheld : (a : ℕ) → a < cells → (entry a).phase ≡ phase.Free → (entry a).holders ≡ nobody
    pub free : (a : ℕ) → a < cells → (entry a).holders ≡ nobody → (entry a).phase ≡ phase.Free
    pub owner : (a p q : ℕ) → a < cells → (entry a).phase ≡ phase.Modified → has (entry a).holders p ≡ true → has (entry a).holders q ≡ true → p ≡ q

  -- 5
  abbrev pub TurnsWait : Type 0
  TurnsWait = (a q : ℕ) → a < cells → (entry a).turn ≡ Some q → waits_for a (register q) ≡ true

  -- 6
  abbrev pub NothingHits : Type 0
  NothingHits = (p w : ℕ) (r : Request V P) → p < parties → w < ways → register p ≡ Waiting r → hits r (line p w) ≡ false

  pub record Legal : Type 0 where
    pub in_range : InRange
    pub single : SingleLines
    pub holders : HoldersRight
    pub phases : PhasesRight
    pub turns : TurnsWait
    pub nothing_hits : NothingHits

  abbrev pub line_ok : ℕ → ℕ → Bool
  line_ok p w = (not (is_held (line p w)) || (nat_lt (cell_of (line p w)) cells && (has (entry (cell_of (line p w))).holders p && phase_code (phase_of (line p w)) == phase_code (entry (cell_of (line p w))).phase))) && misses (register p) (line p w)

  abbrev pub pair_ok : ℕ → ℕ → ℕ → Bool
  pair_ok p w x = w == x || (not (is_held (line p w)) || not (is_of (cell_of (line p w)) (line p x)))

  abbrev pub turn_ok : ℕ → Option ℕ → Bool
  turn_ok a None = true
  turn_ok a (Some q) = nat_lt q parties && waits_for a (register q)

  abbrev pub entry_ok : ℕ → Bool
  entry_ok a = turn_ok a (entry a).turn && (nat_lt (entry a).last parties && (nat_lt (entry a).holders.members (2 ^ parties) && same (phase_code (entry a).phase == 0) (is_nobody (entry a).holders)))

  abbrev pub holder_ok : ℕ → ℕ → Bool
  holder_ok a q = not (has (entry a).holders q) || any (λ w. is_of a (line q w)) ways

  abbrev pub owner_ok : ℕ → ℕ → ℕ → Bool
  owner_ok a p q = not (phase_code (entry a).phase == 3) || (not (has (entry a).holders p) || (not (has (entry a).holders q) || p == q))

  -- rule by rule over every place of the tables; an audit may go about it otherwise
  unfoldable pub legal : Bool
  legal =
      every (λ p. every (line_ok p) ways) parties
      && (every (λ p. every (λ w. every (pair_ok p w) ways) ways) parties
      && (every (λ p. asks_within cells (register p)) parties
      && (every entry_ok cells
      && (every (λ a. every (holder_ok a) parties) cells
      && every (λ a. every (λ p. every (owner_ok a p) parties) parties) cells))))

  abbrev pub fits : Bool
  fits = nat_le 1 parties && nat_le parties 16 && nat_le 1 cells && nat_le cells 256 && nat_le 1 ways && nat_le ways 8 && length lines == parties * ways
