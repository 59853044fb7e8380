-- Sending all lines home, one after the other, and what the checks of a settle leave to do
use Rattle.std.proofs.Common.{◌≡◌, ℕ, suc, ◌+◌, ◌-◌, ◌*◌, ◌/◌, ◌<◌, ◌≤◌, Bool, true, false, cond, ◌&&◌, leb, List, [], ◌∷◌, length, Some, None, Option, sym, refl, ap, ◌∙◌, subst, mul-le-mul_right, arith}
use Rattle.operation.specs.Algebra.{Algebra}
use Rattle.victim.specs.Rules.{Rule}
use Rattle.tables.specs.declared.refusal.Refusal.{Refusal}
use Rattle.tables.specs.declared.refusal.Refusal.TheVariants.{LedgerClosed, HomeTooSmall, CountTooHigh, Unfinished}
use Rattle.tables.specs.Ledgers.{is_open, counts_low}
use Rattle.std.specs.List.{list_all}
use Rattle.tables.specs.declared.register.Register.{Register}
use Rattle.tables.specs.Lines.{is_held, cell_of, is_empty}
use Rattle.tables.specs.Legal.{Legal, fits, legal}
use Rattle.tables.proofs.Legality.{legal_true}
use Rattle.model.specs.declared.call.Call.TheVariants.{Settle}
use Rattle.model.specs.declared.answer.Answer.TheVariants.{Refused, Settled}
use Rattle.model.specs.Bench.{Bench as Terms, State, bench, line, all_empty}
use Rattle.model.specs.Steps.{need, step, emptied, all_sent, close, send, yield_more, settle_if, settle_refusal}
use Rattle.model.proofs.Basics.{need_none}
use Rattle.model.proofs.Tabled.{Tabled}
use Rattle.model.proofs.TabledMoves.{tabled_send}
use Rattle.model.proofs.Directory.{owns_div}
use Rattle.model.proofs.Decisions.{below}
use Rattle.moves.proofs.Calls.{entered}

module _ {V P R : Type 0} (k : Terms V P R) where
  -- the next line is sent first
  pub next_sent : (i n : ℕ) (s : State V P R) → i < n → all_sent k i (n - i) s ≡ all_sent k (i + 1) (n - (i + 1)) (emptied k (is_held (line s i)) s i)
  next_sent i n s l =
      let e : n - i ≡ suc (n - (i + 1)) = omega arith in
      let f : suc i ≡ i + 1 = omega arith in
      ap (λ m. all_sent k i m s) e ∙ ap (λ j. all_sent k j (n - (i + 1)) (emptied k (is_held (line s i)) s i)) f

  pub none_left : (i n : ℕ) (s : State V P R) → n ≤ i → all_sent k i (n - i) s ≡ s
  none_left i n s l = let e : n - i ≡ 0 = omega arith in ap (λ m. all_sent k i m s) e

  pub emptied_tabled : (s : State V P R) (i : ℕ) → Tabled k s → i < k.parties * k.ways → (b : Bool) → is_held (line s i) ≡ b → Tabled k (emptied k b s i)
  emptied_tabled s i t l false e = t
  emptied_tabled s i t l true e = tabled_send k s t i (yield_more s.ledger) s.rule l e

  -- sending takes the operation and the number of ways from a bench, and no more
  pub emptied_alike : (k' : Terms V P R) (s : State V P R) (i : ℕ) (b : Bool) → k'.op ≡ k.op → k'.ways ≡ k.ways → emptied k' b s i ≡ emptied k b s i
  emptied_alike k' s i false e f = refl
  emptied_alike k' s i true e f = λ j. send (record { op = e j; victim = k.victim; parties = k.parties; cells = k.cells; ways = f j }) s i (yield_more s.ledger) s.rule

  -- a line counts for one yield at most
  pub emptied_yields : (s : State V P R) (i : ℕ) (b : Bool) → (emptied k b s i).ledger.yields ≤ s.ledger.yields + 1
  emptied_yields s i false = omega arith
  emptied_yields s i true = omega arith

  -- a line of the table can be sent
  pub record Place (s : State V P R) (i : ℕ) : Type 0 where
    pub wide : 1 ≤ k.ways
    pub party : i / k.ways < 16
    pub listed : is_held (line s i) ≡ true → cell_of (line s i) < length s.directory
    pub few : i < 128

  pub place : (s : State V P R) (i : ℕ) → Tabled k s → i < k.parties * k.ways → Place s i
  place s i t l =
      let f = t.limits in
      let q = below k s t i (i / k.ways) (owns_div k.ways i f.ways_low) l in
      record { wide = f.ways_low; party = omega (arith, f.parties_high, q); listed = λ h. subst (λ n. cell_of (line s i) < n) (sym t.directory_length) (t.within i h); few = let m : k.parties * k.ways ≤ 16 * k.ways = mul-le-mul_right k.ways f.parties_high in omega (arith, m, f.ways_high, l) }

pub all_empty_tested : {V P : Type 0} (rs : List (Register V P)) → list_all is_empty rs ≡ all_empty rs
all_empty_tested [] = refl
all_empty_tested (r ∷ rs) = go (is_empty r) (all_empty_tested rs)
  where
    go : (x : Bool) → list_all is_empty rs ≡ all_empty rs → (x && list_all is_empty rs) ≡ cond x (all_empty rs) false
    go true e = e
    go false e = refl

module _ {V P R : Type 0} (op : Algebra V P) (victim : Rule R) (ways : ℕ) (s : State V P R)
    (sizes : fits ways s.lines s.directory s.registers ≡ true) (ok : Legal ways s.lines s.directory s.registers) where
  abbrev k : Terms V P R
  k = bench op victim ways s

  -- the checks that are left to a settle
  abbrev pub settle_rest : Option Refusal
  settle_rest = need (is_open s.ledger) LedgerClosed (need (leb (length s.directory) (length s.home)) HomeTooSmall (need (counts_low s.ledger) CountTooHigh (need (all_empty s.registers) Unfinished None)))

  settle_is : settle_refusal k s ≡ settle_rest
  settle_is = entered (fits ways s.lines s.directory s.registers) (legal ways s.lines s.directory s.registers) settle_rest sizes (legal_true ways s.lines s.directory s.registers ok)

  pub settle_refused : (n : Refusal) → settle_rest ≡ Some n → step k s Settle ≡ (s, Refused n)
  settle_refused n e = ap (λ z. settle_if k z s) (settle_is ∙ e)

  pub settle_passed : settle_rest ≡ None → step k s Settle ≡ (close k (all_sent k 0 (length s.registers * ways) s), Settled)
  settle_passed e = ap (λ z. settle_if k z s) (settle_is ∙ e)

  pub settle_facts : settle_rest ≡ None → counts_low s.ledger ≡ true
  settle_facts e =
      let e3 = need_none (is_open s.ledger) LedgerClosed _ e in
      let e4 = need_none (leb (length s.directory) (length s.home)) HomeTooSmall _ e3.1 in
      (need_none (counts_low s.ledger) CountTooHigh _ e4.1).0
