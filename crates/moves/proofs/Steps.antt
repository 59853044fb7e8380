-- The steps on legal tables of the right sizes: what the checks leave to do, what they show, and that the tables stay legal
use Rattle.std.proofs.Common.{◌≡◌, ℕ, ◌<◌, Bool, true, ltb, leb, length, Some, None, Ok, Err, Option, sym, refl, ap, ◌∙◌, subst, arith}
use Rattle.std.proofs.lemmas.Bool.{ltb-true}
use Rattle.operation.specs.Algebra.{Algebra}
use Rattle.victim.specs.Rules.{Rule}
use Rattle.tables.specs.declared.request.Request.{Request}
use Rattle.tables.specs.declared.register.Register.{Register}
use Rattle.tables.specs.declared.refusal.Refusal.{Refusal}
use Rattle.tables.specs.declared.refusal.Refusal.TheVariants.{Sizes, Illegal, LedgerClosed, HomeTooSmall, CountTooHigh, NoSuchParty, NoSuchCell, RegisterInUse}
use Rattle.tables.specs.Ledgers.{is_open, counts_low}
use Rattle.tables.specs.Lines.{target, is_empty}
use Rattle.tables.specs.Legal.{Legal, fits, legal}
use Rattle.tables.proofs.Legality.{legal_true}
use Rattle.model.specs.declared.call.Call.{Call}
use Rattle.model.specs.declared.call.Call.TheVariants.{Post, Advance, Collect, Yield}
use Rattle.model.specs.declared.answer.Answer.TheVariants.{Refused}
use Rattle.model.specs.Bench.{Bench, Sound, State, bench, register}
use Rattle.model.specs.Steps.{need, step, advance_if, post_if, post_by, own_hit, collect_if, collect_by, yield_if, yield_by, own_line}
use Rattle.model.specs.Decisions.{decided, performed}
use Rattle.model.specs.Reference.{at_making}
use Rattle.model.proofs.Basics.{need_none}
use Rattle.model.proofs.Tabled.{Tabled}
use Rattle.model.proofs.Kept.{step_keeps, tabled_closed}
use Rattle.model.proofs.Legality.{tabled_legal}
use Rattle.model.proofs.Decisions.{performs}
use Rattle.model.proofs.Sized.{tabled_of}
use Rattle.bench.proofs.Orders.{tabled_fits}
use Rattle.moves.specs.Checks.{passes}

pub passed : (o : Option Refusal) → Ok tt ≡ passes o → o ≡ None
passed None e = refl
passed (Some n) e = absurd (let z : ◌≡◌ {A = ℕ} 0 1 = cc in omega arith)

pub failed : (o : Option Refusal) (n : Refusal) → Err n ≡ passes o → o ≡ Some n
failed None n e = absurd (let z : ◌≡◌ {A = ℕ} 0 1 = cc in omega arith)
failed (Some m) n e = let z : n ≡ m = cc in ap Some (sym z)

-- the first two checks pass
pub entered : (x y : Bool) (o : Option Refusal) → x ≡ true → y ≡ true → need x Sizes (need y Illegal o) ≡ o
entered x y o e f = ap (λ z. need z Sizes (need y Illegal o)) e ∙ ap (λ z. need z Illegal o) f

module _ {V P R : Type 0} (op : Algebra V P) (victim : Rule R) (ways : ℕ) (s : State V P R)
    (sizes : fits ways s.lines s.directory s.registers ≡ true) (ok : Legal ways s.lines s.directory s.registers) where
  abbrev k : Bench V P R
  k = bench op victim ways s

  tabled : Tabled k s
  tabled = tabled_of op victim ways s sizes ok

  after : Sound k → (c : Call V P) (z : State V P R) → z ≡ (step k s c).0 → Tabled k z
  after sound c z e = subst (Tabled k) (sym e) (step_keeps k sound (λ s b. Tabled k s) (tabled_closed k) s (at_making s.home) tabled c)

  -- a state that is the one after the step is legal, and its tables have the right sizes
  pub left_legal : Sound k → (c : Call V P) (z : State V P R) → z ≡ (step k s c).0 → Legal ways z.lines z.directory z.registers
  left_legal sound c z e = tabled_legal k z (after sound c z e)

  pub left_fits : Sound k → (c : Call V P) (z : State V P R) → z ≡ (step k s c).0 → fits ways z.lines z.directory z.registers ≡ true
  left_fits sound c z e = tabled_fits k z (after sound c z e)

  pub stays_legal : Sound k → (c : Call V P) → Legal ways (step k s c).0.lines (step k s c).0.directory (step k s c).0.registers
  stays_legal sound c = left_legal sound c (step k s c).0 refl

  -- what is left of a chain of checks once the tables are known to be legal and of the right sizes
  pub rest_of : (o : Option Refusal) → need (fits ways s.lines s.directory s.registers) Sizes (need (legal ways s.lines s.directory s.registers) Illegal o) ≡ o
  rest_of o = entered _ _ o sizes (legal_true ways s.lines s.directory s.registers ok)

  -- an advance
  abbrev pub advance_rest : ℕ → Option Refusal
  advance_rest a = need (is_open s.ledger) LedgerClosed (need (leb (length s.directory) (length s.home)) HomeTooSmall (need (counts_low s.ledger) CountTooHigh (need (ltb a (length s.directory)) NoSuchCell None)))

  pub advance_refused : (a : ℕ) (n : Refusal) → Err n ≡ passes (advance_rest a) → step k s (Advance a) ≡ (s, Refused n)
  advance_refused a n e = ap (λ z. advance_if k z s a) (rest_of (advance_rest a) ∙ failed (advance_rest a) n e)

  pub advance_passed : (a : ℕ) → Ok tt ≡ passes (advance_rest a) → step k s (Advance a) ≡ performed k s a (decided (length s.registers) ways s.lines s.directory s.registers a)
  advance_passed a e = ap (λ z. advance_if k z s a) (rest_of (advance_rest a) ∙ passed (advance_rest a) e) ∙ sym (performs k s tabled a)

  pub advance_facts : (a : ℕ) → Ok tt ≡ passes (advance_rest a) → (counts_low s.ledger ≡ true) × (a < length s.directory)
  advance_facts a e =
      let e3 = need_none (is_open s.ledger) LedgerClosed _ (passed (advance_rest a) e) in
      let e4 = need_none (leb (length s.directory) (length s.home)) HomeTooSmall _ e3.1 in
      let e5 = need_none (counts_low s.ledger) CountTooHigh _ e4.1 in
      let e7 = need_none (ltb a (length s.directory)) NoSuchCell None e5.1 in
      (e5.0, ltb-true a (length s.directory) e7.0)

  -- a post
  abbrev pub post_rest : ℕ → Request V P → Option Refusal
  post_rest p r = need (is_open s.ledger) LedgerClosed (need (counts_low s.ledger) CountTooHigh (need (ltb p (length s.registers)) NoSuchParty (need (ltb (target r) (length s.directory)) NoSuchCell (need (is_empty (register s p)) RegisterInUse None))))

  pub post_refused : (p : ℕ) (r : Request V P) (n : Refusal) → Err n ≡ passes (post_rest p r) → step k s (Post p r) ≡ (s, Refused n)
  post_refused p r n e = ap (λ z. post_if k z s p r) (rest_of (post_rest p r) ∙ failed (post_rest p r) n e)

  pub post_passed : (p : ℕ) (r : Request V P) → Ok tt ≡ passes (post_rest p r) → (x : Option ℕ) → x ≡ own_hit k s p r → step k s (Post p r) ≡ post_by k x s p r
  post_passed p r e x f = ap (λ z. post_if k z s p r) (rest_of (post_rest p r) ∙ passed (post_rest p r) e) ∙ ap (λ z. post_by k z s p r) (sym f)

  -- the chain as it is computed, over the cell and the register that were read
  pub post_chain : (p : ℕ) (r : Request V P) (a : ℕ) (free : Bool) → a ≡ target r → free ≡ is_empty (register s p)
      → passes (need (is_open s.ledger) LedgerClosed (need (counts_low s.ledger) CountTooHigh (need (ltb p (length s.registers)) NoSuchParty (need (ltb a (length s.directory)) NoSuchCell (need free RegisterInUse None))))) ≡ passes (post_rest p r)
  post_chain p r a free e f = λ i. passes (need (is_open s.ledger) LedgerClosed (need (counts_low s.ledger) CountTooHigh (need (ltb p (length s.registers)) NoSuchParty (need (ltb (e i) (length s.directory)) NoSuchCell (need (f i) RegisterInUse None)))))

  pub post_facts : (p : ℕ) (r : Request V P) → Ok tt ≡ passes (post_rest p r) → (counts_low s.ledger ≡ true) × (p < length s.registers)
  post_facts p r e =
      let e3 = need_none (is_open s.ledger) LedgerClosed _ (passed (post_rest p r) e) in
      let e5 = need_none (counts_low s.ledger) CountTooHigh _ e3.1 in
      let e6 = need_none (ltb p (length s.registers)) NoSuchParty _ e5.1 in
      (e5.0, ltb-true p (length s.registers) e6.0)

  -- a collect
  abbrev pub collect_rest : ℕ → Option Refusal
  collect_rest p = need (is_open s.ledger) LedgerClosed (need (ltb p (length s.registers)) NoSuchParty None)

  pub collect_refused : (p : ℕ) (n : Refusal) → Err n ≡ passes (collect_rest p) → step k s (Collect p) ≡ (s, Refused n)
  collect_refused p n e = ap (λ z. collect_if k z s p) (rest_of (collect_rest p) ∙ failed (collect_rest p) n e)

  pub collect_passed : (p : ℕ) → Ok tt ≡ passes (collect_rest p) → (x : Register V P) → x ≡ register s p → step k s (Collect p) ≡ collect_by k x s p
  collect_passed p e x f = ap (λ z. collect_if k z s p) (rest_of (collect_rest p) ∙ passed (collect_rest p) e) ∙ ap (λ z. collect_by k z s p) (sym f)

  pub collect_facts : (p : ℕ) → collect_rest p ≡ None → p < length s.registers
  collect_facts p e =
      let e3 = need_none (is_open s.ledger) LedgerClosed _ e in
      let e6 = need_none (ltb p (length s.registers)) NoSuchParty None e3.1 in
      ltb-true p (length s.registers) e6.0

  -- a yield
  abbrev pub yield_rest : ℕ → ℕ → Option Refusal
  yield_rest p a = need (is_open s.ledger) LedgerClosed (need (leb (length s.directory) (length s.home)) HomeTooSmall (need (counts_low s.ledger) CountTooHigh (need (ltb p (length s.registers)) NoSuchParty (need (ltb a (length s.directory)) NoSuchCell None))))

  pub yield_refused : (p a : ℕ) (n : Refusal) → Err n ≡ passes (yield_rest p a) → step k s (Yield p a) ≡ (s, Refused n)
  yield_refused p a n e = ap (λ z. yield_if k z s p a) (rest_of (yield_rest p a) ∙ failed (yield_rest p a) n e)

  pub yield_passed : (p a : ℕ) → Ok tt ≡ passes (yield_rest p a) → (x : Option ℕ) → x ≡ own_line k s p a → step k s (Yield p a) ≡ yield_by k x s
  yield_passed p a e x f = ap (λ z. yield_if k z s p a) (rest_of (yield_rest p a) ∙ passed (yield_rest p a) e) ∙ ap (λ z. yield_by k z s) (sym f)

  pub yield_facts : (p a : ℕ) → Ok tt ≡ passes (yield_rest p a) → (counts_low s.ledger ≡ true) × (p < length s.registers)
  yield_facts p a e =
      let e3 = need_none (is_open s.ledger) LedgerClosed _ (passed (yield_rest p a) e) in
      let e4 = need_none (leb (length s.directory) (length s.home)) HomeTooSmall _ e3.1 in
      let e5 = need_none (counts_low s.ledger) CountTooHigh _ e4.1 in
      let e6 = need_none (ltb p (length s.registers)) NoSuchParty _ e5.1 in
      (e5.0, ltb-true p (length s.registers) e6.0)
