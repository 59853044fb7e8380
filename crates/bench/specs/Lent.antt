-- A bench over what it is lent
--   seen       the state that its tables, its ledger, its rule and its home make up
--   terms      what it is made over: the operation, the rule and its sizes
--   stepped    the state and the answer that a call of it comes to, by the rules
--   InOrder    its sizes fit and its tables are legal
--   HasWays    its table of lines has all ways of the party
--   Sendable   line i can be sent home: it stands in the table, and its cell in the directory
--   SameLoans  it holds what it was lent, and so the lenders get back what it leaves there
use Rattle.std.specs.Prelude.{◌≡◌, ℕ, ◌+◌, ◌*◌, ◌/◌, ◌<◌, ◌≤◌, true, List, length, slice_index_or}
use Rattle.operation.specs.Algebra.{Algebra}
use Rattle.victim.specs.Rules.{Rule}
use Rattle.tables.specs.declared.line.Line.TheVariants.{Invalid}
use Rattle.tables.specs.Lines.{cell_of}
use Rattle.tables.specs.Legal.{Legal, fits}
use Rattle.model.specs.declared.call.Call.{Call}
use Rattle.model.specs.declared.answer.Answer.{Answer}
use Rattle.model.specs.Bench.{Bench as Terms, State, state, bench}
use Rattle.model.specs.Steps.{step}
use Rattle.bench.specs.declared.Bench.{Bench}

abbrev pub seen : {O H R V P : Type 0} → (H → List V) → Bench O H R V P → State V P R
seen meaning b = state b.lines.now b.directory.now b.registers.now b.ledger.now b.rule.now (meaning b.home.now)

abbrev pub terms : {O H R V P : Type 0} → Algebra V P → Rule R → (H → List V) → Bench O H R V P → Terms V P R
terms op victim meaning b = bench op victim b.ways (seen meaning b)

abbrev pub stepped : {O H R V P : Type 0} → Algebra V P → Rule R → (H → List V) → Bench O H R V P → Call V P → State V P R × Answer V
stepped op victim meaning b call = step (terms op victim meaning b) (seen meaning b) call

pub record InOrder {O H R V P : Type 0} (b : Bench O H R V P) : Type 0 where
  pub sizes : fits b.ways b.lines.now b.directory.now b.registers.now ≡ true
  pub legal : Legal b.ways b.lines.now b.directory.now b.registers.now

abbrev pub HasWays : {O H R V P : Type 0} → Bench O H R V P → ℕ → Type 0
HasWays b party = party * b.ways + b.ways ≤ length b.lines.now

pub record Sendable {O H R V P : Type 0} (b : Bench O H R V P) (i : ℕ) : Type 0 where
  pub place : i < length b.lines.now
  pub wide : 1 ≤ b.ways
  pub party : i / b.ways < 16
  pub cell : cell_of (slice_index_or b.lines.now i Invalid) < length b.directory.now

pub record SameLoans {O H R V P : Type 0} (b c : Bench O H R V P) : Type 0 where
  pub lines : c.lines.ghost_name ≡ b.lines.ghost_name
  pub directory : c.directory.ghost_name ≡ b.directory.ghost_name
  pub registers : c.registers.ghost_name ≡ b.registers.ghost_name
  pub ledger : c.ledger.ghost_name ≡ b.ledger.ghost_name
  pub rule : c.rule.ghost_name ≡ b.rule.ghost_name
  pub home : c.home.ghost_name ≡ b.home.ghost_name
  pub ways : c.ways ≡ b.ways
