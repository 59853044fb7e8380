-- The words of a bench and its state
--   Bench         what a bench is made over: an update operation, a victim rule, and the sizes P, N and W
--   Sound         the operation keeps its laws, and the rule picks an existing way
--   State         the tables, the ledger, what the rule holds, and the list of values that the home means
--   line          line i of the flat table: way i - p × W of party p
--   lookup        what stands at a place of a list, if anything does
--   hit_line      what a line becomes when a request hits it
--   value_in      the value that a line has, if any
--   answer_to     the answer to a request, given the value of its cell
--   granted_line  the line that a grant makes, given what the home loads
--   sent_home     the home once a line has been sent to it
use Rattle.std.specs.Prelude.{ℕ, zero, suc, ◌+◌, ◌<◌, Bool, true, false, cond, List, [], ◌∷◌, length, Some, None, Option, slice_index_or, slice_set}
use Rattle.operation.specs.Algebra.{Algebra, Lawful, applied}
use Rattle.victim.specs.Rules.{Rule, Servable}
use Rattle.tables.specs.declared.line.Line.{Line}
use Rattle.tables.specs.declared.line.Line.TheVariants.{Invalid, Shared, UpdateOnly, Modified}
use Rattle.tables.specs.declared.request.Request.{Request}
use Rattle.tables.specs.declared.request.Request.TheVariants.{Read, Write, Update}
use Rattle.tables.specs.declared.register.Register.{Register}
use Rattle.tables.specs.declared.register.Register.TheVariants.{Empty}
use Rattle.tables.specs.declared.entry.Entry.{Entry}
use Rattle.tables.specs.declared.ledger.Ledger.{Ledger}
use Rattle.tables.specs.Lines.{is_held, is_empty}
use Rattle.tables.specs.Legal.{blank}

pub record Bench (V P R : Type 0) : Type 0 where
  pub op : Algebra V P
  pub victim : Rule R
  pub parties : ℕ
  pub cells : ℕ
  pub ways : ℕ

pub record Sound {V P R : Type 0} (k : Bench V P R) : Type 0 where
  pub lawful : Lawful k.op
  pub picks : (x : R) (p w : ℕ) → Servable p w → k.victim.picked x p w < w

pub record State (V P R : Type 0) : Type 0 where
  pub lines : List (Line V P)
  pub directory : List Entry
  pub registers : List (Register V P)
  pub ledger : Ledger
  pub rule : R
  pub home : List V

-- the state that lent tables, ledger, rule and home make up
abbrev pub state : {V P R : Type 0} → List (Line V P) → List Entry → List (Register V P) → Ledger → R → List V → State V P R
state ls ds rs g u home = record { lines = ls; directory = ds; registers = rs; ledger = g; rule = u; home = home }

-- a bench has as many parties and cells as the tables have room for
abbrev pub bench : {V P R : Type 0} → Algebra V P → Rule R → ℕ → State V P R → Bench V P R
bench op victim ways s = record { op = op; victim = victim; parties = length s.registers; cells = length s.directory; ways = ways }

abbrev pub line : {V P R : Type 0} → State V P R → ℕ → Line V P
line s i = slice_index_or s.lines i Invalid

abbrev pub register : {V P R : Type 0} → State V P R → ℕ → Register V P
register s p = slice_index_or s.registers p Empty

abbrev pub entry : {V P R : Type 0} → State V P R → ℕ → Entry
entry s a = slice_index_or s.directory a (blank 0)

abbrev pub lookup : {X : Type 0} → List X → ℕ → Option X
lookup [] i = None
lookup (x ∷ xs) zero = Some x
lookup (x ∷ xs) (suc i) = lookup xs i

-- a write replaces a Modified value; an update acts on one, or is joined to a held partial, the held one first
abbrev pub hit_line : {V P : Type 0} → Algebra V P → Request V P → Line V P → Line V P
hit_line o (Read a) l = l
hit_line o (Write a u) Invalid = Invalid
hit_line o (Write a u) (Shared b v) = Shared b v
hit_line o (Write a u) (UpdateOnly b d) = UpdateOnly b d
hit_line o (Write a u) (Modified b v) = Modified b u
hit_line o (Update a e) Invalid = Invalid
hit_line o (Update a e) (Shared b v) = Shared b v
hit_line o (Update a e) (UpdateOnly b d) = UpdateOnly b (o.join d e)
hit_line o (Update a e) (Modified b v) = Modified b (o.act v e)

abbrev pub value_in : {V P : Type 0} → Line V P → Option V
value_in Invalid = None
value_in (Shared b v) = Some v
value_in (UpdateOnly b d) = None
value_in (Modified b v) = Some v

abbrev pub answer_to : {V P : Type 0} → Request V P → Option V → Option V
answer_to (Read a) v = v
answer_to (Write a u) v = None
answer_to (Update a e) v = None

-- Shared with the loaded value, Modified with the written one, Update-only with neutral joined to the partial
abbrev pub granted_line : {V P : Type 0} → Algebra V P → Request V P → Option V → Option (Line V P)
granted_line o (Read a) None = None
granted_line o (Read a) (Some v) = Some (Shared a v)
granted_line o (Write a u) v = Some (Modified a u)
granted_line o (Update a e) v = Some (UpdateOnly a (o.join o.neutral e))

-- an apply for Update-only, a store for Modified, neither for Shared
abbrev pub sent_home : {V P : Type 0} → Algebra V P → List V → Line V P → List V
sent_home o home Invalid = home
sent_home o home (Shared b v) = home
sent_home o home (UpdateOnly b d) = applied o home b d
sent_home o home (Modified b v) = slice_set home b v

abbrev pub all_empty : {V P : Type 0} → List (Register V P) → Bool
all_empty [] = true
all_empty (r ∷ rs) = cond (is_empty r) (all_empty rs) false

-- lines that are not Invalid
abbrev pub held_count : {V P : Type 0} → List (Line V P) → ℕ
held_count [] = 0
held_count (l ∷ ls) = cond (is_held l) 1 0 + held_count ls
