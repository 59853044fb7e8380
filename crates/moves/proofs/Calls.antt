-- The steps on tables in order, of a bench: what the checks leave to do, and what they show
use Rattle.std.proofs.Common.{◌≡◌, ℕ, ◌<◌, true, ltb, leb, length, get_or, None, Ok, Err, Option, List}
use Rattle.operation.specs.Algebra.{Algebra}
use Rattle.victim.specs.Rules.{Rule}
use Rattle.tables.specs.declared.request.Request.{Request}
use Rattle.tables.specs.declared.register.Register.{Register}
use Rattle.tables.specs.declared.register.Register.TheVariants.{Empty}
use Rattle.tables.specs.declared.refusal.Refusal.{Refusal}
use Rattle.tables.specs.declared.refusal.Refusal.TheVariants.{Sizes, Illegal, LedgerClosed, HomeTooSmall, CountTooHigh, NoSuchParty, NoSuchCell, RegisterInUse}
use Rattle.tables.specs.Ledgers.{is_open, counts_low}
use Rattle.tables.specs.Lines.{target, is_empty}
use Rattle.tables.specs.Legal.{fits, legal}
use Rattle.model.specs.declared.call.Call.TheVariants.{Post, Advance, Collect, Yield}
use Rattle.model.specs.declared.answer.Answer.TheVariants.{Refused}
use Rattle.model.specs.Bench.{Bench as Terms, State, register}
use Rattle.model.specs.Steps.{need, post_by, own_hit, collect_by, yield_by, own_line}
use Rattle.model.specs.Decisions.{decided, performed}
use Rattle.bench.specs.declared.Bench.{Bench}
use Rattle.bench.specs.Lent.{InOrder, seen, stepped, terms}
use Rattle.moves.specs.Checks.{passes}
use Rattle.moves.proofs.Steps as over
pub use Rattle.moves.proofs.Steps.{passed, failed, entered, stays_legal, post_chain, collect_facts}

module _ {O H R V P : Type 0} (op : Algebra V P) (victim : Rule R) (meaning : H → List V) (b : Bench O H R V P) (ok : InOrder b) where
  abbrev k : Terms V P R
  k = terms op victim meaning b

  abbrev s : State V P R
  s = seen meaning b

  -- what is left of a chain of checks once the tables are known to be in order
  pub rest_of : (o : Option Refusal) → need (fits b.ways s.lines s.directory s.registers) Sizes (need (legal b.ways s.lines s.directory s.registers) Illegal o) ≡ o
  rest_of o = over.rest_of op victim b.ways s ok.sizes ok.legal o

  -- an advance
  abbrev pub advance_rest : ℕ → Option Refusal
  advance_rest a = need (is_open s.ledger) LedgerClosed (need (leb (length s.directory) (length s.home)) HomeTooSmall (need (counts_low s.ledger) CountTooHigh (need (ltb a (length s.directory)) NoSuchCell None)))

  pub advance_refused : (a : ℕ) (n : Refusal) → Err n ≡ passes (advance_rest a) → stepped op victim meaning b (Advance a) ≡ (s, Refused n)
  advance_refused a n e = over.advance_refused op victim b.ways s ok.sizes ok.legal a n e

  pub advance_passed : (a : ℕ) → Ok tt ≡ passes (advance_rest a) → stepped op victim meaning b (Advance a) ≡ performed k s a (decided (length s.registers) b.ways s.lines s.directory s.registers a)
  advance_passed a e = over.advance_passed op victim b.ways s ok.sizes ok.legal a e

  pub advance_facts : (a : ℕ) → Ok tt ≡ passes (advance_rest a) → (counts_low s.ledger ≡ true) × (a < length s.directory)
  advance_facts a e = over.advance_facts op victim b.ways s ok.sizes ok.legal a e

  -- a post
  abbrev pub post_rest : ℕ → Request V P → Option Refusal
  post_rest p r = need (is_open s.ledger) LedgerClosed (need (counts_low s.ledger) CountTooHigh (need (ltb p (length s.registers)) NoSuchParty (need (ltb (target r) (length s.directory)) NoSuchCell (need (is_empty (get_or s.registers p Empty)) RegisterInUse None))))

  pub post_refused : (p : ℕ) (r : Request V P) (n : Refusal) → Err n ≡ passes (post_rest p r) → stepped op victim meaning b (Post p r) ≡ (s, Refused n)
  post_refused p r n e = over.post_refused op victim b.ways s ok.sizes ok.legal p r n e

  pub post_passed : (p : ℕ) (r : Request V P) → Ok tt ≡ passes (post_rest p r) → (x : Option ℕ) → x ≡ own_hit k s p r → stepped op victim meaning b (Post p r) ≡ post_by k x s p r
  post_passed p r e x f = over.post_passed op victim b.ways s ok.sizes ok.legal p r e x f

  pub post_facts : (p : ℕ) (r : Request V P) → Ok tt ≡ passes (post_rest p r) → (counts_low s.ledger ≡ true) × (p < length s.registers)
  post_facts p r e = over.post_facts op victim b.ways s ok.sizes ok.legal p r e

  -- a collect
  abbrev pub collect_rest : ℕ → Option Refusal
  collect_rest p = need (is_open s.ledger) LedgerClosed (need (ltb p (length s.registers)) NoSuchParty None)

  pub collect_refused : (p : ℕ) (n : Refusal) → Err n ≡ passes (collect_rest p) → stepped op victim meaning b (Collect p) ≡ (s, Refused n)
  collect_refused p n e = over.collect_refused op victim b.ways s ok.sizes ok.legal p n e

  pub collect_passed : (p : ℕ) → Ok tt ≡ passes (collect_rest p) → (x : Register V P) → x ≡ register s p → stepped op victim meaning b (Collect p) ≡ collect_by k x s p
  collect_passed p e x f = over.collect_passed op victim b.ways s ok.sizes ok.legal p e x f

  -- a yield
  abbrev pub yield_rest : ℕ → ℕ → Option Refusal
  yield_rest p a = need (is_open s.ledger) LedgerClosed (need (leb (length s.directory) (length s.home)) HomeTooSmall (need (counts_low s.ledger) CountTooHigh (need (ltb p (length s.registers)) NoSuchParty (need (ltb a (length s.directory)) NoSuchCell None))))

  pub yield_refused : (p a : ℕ) (n : Refusal) → Err n ≡ passes (yield_rest p a) → stepped op victim meaning b (Yield p a) ≡ (s, Refused n)
  yield_refused p a n e = over.yield_refused op victim b.ways s ok.sizes ok.legal p a n e

  pub yield_passed : (p a : ℕ) → Ok tt ≡ passes (yield_rest p a) → (x : Option ℕ) → x ≡ own_line k s p a → stepped op victim meaning b (Yield p a) ≡ yield_by k x s
  yield_passed p a e x f = over.yield_passed op victim b.ways s ok.sizes ok.legal p a e x f

  pub yield_facts : (p a : ℕ) → Ok tt ≡ passes (yield_rest p a) → (counts_low s.ledger ≡ true) × (p < length s.registers)
  yield_facts p a e = over.yield_facts op victim b.ways s ok.sizes ok.legal p a e
