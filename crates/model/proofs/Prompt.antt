-- A request that waits is granted in time
-- what an answer to an advance of b counts for a
use Rattle.std.proofs.Common.{◌≡◌, ℕ, zero, suc, ◌+◌, ◌-◌, ◌*◌, ◌/◌, ◌%◌, ◌<◌, ◌≤◌, Bool, true, false, cond, not, eqb, ltb, leb, ◌⊎◌, List, [], ◌∷◌, ◌++◌, length, get_or, set, Some, None, Option, sym, refl, ap, ◌∙◌, subst, inl, inr, ⊎_elim, mul-le-mul_left, arith}
use Rattle.std.proofs.lemmas.List.{get_or-set_other, get_or-set_same}
use Rattle.std.proofs.lemmas.Bool.{both_ways, cases_Bool, cases_eq, cases_lt, eq-eqb, eqb-true, ltb-true, ne_eqb, not-false}
use Rattle.std.specs.Option.{option_map}
use Rattle.tables.proofs.Tests.{is_of_cell, no}
use Rattle.tables.specs.Legal.{blank, fits}
use Rattle.tables.specs.Lines.{cell_of, conflicts, is_empty, is_held, is_of, phase_of, target, waits_for}
use Rattle.tables.specs.declared.ledger.Ledger.{Ledger}
use Rattle.tables.specs.declared.line.Line.{Line}
use Rattle.tables.specs.declared.line.Line.TheVariants.{Invalid}
use Rattle.tables.specs.declared.refusal.Refusal.{Refusal}
use Rattle.tables.specs.declared.refusal.Refusal.TheVariants.{CountTooHigh, HomeTooSmall, Illegal, LedgerClosed, NoLine, NoSuchCell, NoSuchParty, Place, RegisterEmpty, RegisterInUse, RegisterWaiting, Sizes, Unfinished}
use Rattle.tables.specs.declared.register.Register.{Register}
use Rattle.tables.specs.declared.register.Register.TheVariants.{Answered, Empty, Waiting}
use Rattle.tables.specs.declared.request.Request.{Request}
use Rattle.model.proofs.Basics.{Owns, need_none, one_owner, owner_below}
use Rattle.model.proofs.Inv.{Desk, Inv}
use Rattle.model.proofs.Kept.{calm_all, inv_closed, taken_is, taken_keeps, whose_waits}
use Rattle.model.proofs.Load.{load, load_evict, load_high, load_low, load_other, load_recall, load_send, load_served, set_any}
use Rattle.model.proofs.Runs.{Between, head_same, made_inv, none_there, split, tail_same}
use Rattle.model.proofs.Tabled.{Turned, no_wait}
use Rattle.model.proofs.TabledMoves.{granted_line_fits}
use Rattle.model.proofs.Tally.{dist, dist_between, dist_high, dist_low, dist_other, round_dist}
use Rattle.model.specs.Bench.{Bench, Sound, State, all_empty, entry, granted_line, line, lookup, register}
use Rattle.model.specs.Laws.{Event, Prompt, accepted, advanced, advances}
use Rattle.model.specs.Reference.{Reference, at_making, observed, outcome, remembered}
use Rattle.model.specs.Steps.{advance_for, advance_if, advance_refusal, after_last, clear, collect_by, collect_if, collect_refusal, conflict, events, evict_more, final, fit, grant, granting, hit, joined_by, left_by, legal_here, made, make_refusal, own_hit, own_line, post_by, post_if, post_refusal, queue, recall_more, recalling, rooming, send, serving, settle_if, settle_refusal, step, taken, turn_to, vacant, whose, with_turn, yield_by, yield_if, yield_more, yield_refusal}
use Rattle.model.specs.declared.answer.Answer.{Answer}
use Rattle.model.specs.declared.answer.Answer.TheVariants.{Evict, Grant, Idle, Queued, Recall, Refused}
use Rattle.model.specs.declared.call.Call.{Call}
use Rattle.model.specs.declared.call.Call.TheVariants.{Advance, Collect, Post, Settle, Yield}
use Rattle.party_set.proofs.Searches.{first_none, first_some, no_some, some_no, some_same}
use Rattle.tables.specs.Ledgers.{counts_low, is_open}
use Rattle.party_set.specs.Searches.{first}

abbrev pub once : {V : Type 0} → ℕ → ℕ → Answer V → ℕ
once a b x = cond (eqb b a) (cond (accepted x) 1 0) 0

abbrev pub far : ℕ → ℕ → ℕ → ℕ
far n q p = cond (eqb q p) 0 (dist n q p)

pub waiting_same : {V P : Type 0} {r t : Request V P} → Waiting r ≡ Waiting t → r ≡ t
waiting_same e = cc

-- a register that waits for the cell is not one that does not
pub register_keeps : {V P : Type 0} (rs : List (Register V P)) (p : ℕ) (x : Register V P) (q : ℕ) (r : Request V P) (a : ℕ) → waits_for a (get_or rs p Empty) ≡ false → get_or rs q Empty ≡ Waiting r → target r ≡ a → get_or (set rs p x) q Empty ≡ Waiting r
register_keeps rs p x q r a off on same =
    get_or-set_other rs p q x Empty (λ (e : q ≡ p). both_ways _ off (ap (λ z. waits_for a (get_or rs z Empty)) (sym e) ∙ ap (waits_for a) on ∙ eq-eqb (target r) a same)) ∙ on

-- what is left to do for party p at the cell, at most m
abbrev pub DueBy : {V P : Type 0} → ℕ → ℕ → List (Line V P) → List (Register V P) → ℕ → ℕ → ℕ → Option ℕ → ℕ → Type 0
DueBy n w ls rs a p last None m = (n + 1) * dist n last p ≤ m
DueBy {V} {P} n w ls rs a p last (Some q) m = (r : Request V P) × (get_or rs q Empty ≡ Waiting r) × (target r ≡ a) × (load n w ls q r + (n + 1) * far n q p ≤ m)

all_empty_at : {V P : Type 0} (rs : List (Register V P)) → all_empty rs ≡ true → (p : ℕ) → is_empty (get_or rs p Empty) ≡ true
all_empty_at [] h p = refl
all_empty_at (x ∷ rs) h p = go (is_empty x) refl h p (all_empty_at rs)
  where
    go : (y : Bool) → is_empty x ≡ y → cond y (all_empty rs) false ≡ true → (p : ℕ) → (all_empty rs ≡ true → (p : ℕ) → is_empty (get_or rs p Empty) ≡ true) → is_empty (get_or (x ∷ rs) p Empty) ≡ true
    go true e h zero rec = e
    go true e h (suc p) rec = rec h p
    go false e h p rec = absurd (no h)

booked_append : {V P : Type 0} (act : V → P → V) (b : Reference V P) (xs ys : List (Event V P)) → remembered act b (xs ++ ys) ≡ remembered act (remembered act b xs) ys
booked_append act b [] ys = refl
booked_append act b (x ∷ xs) ys = booked_append act (observed act b x.0 (outcome x.1)) xs ys

module _ {V P R : Type 0} (k : Bench V P R) (sound : Sound k) (p : ℕ) (low : p < k.parties) (r₀ : Request V P) where
  abbrev pub Due : State V P R → ℕ → Type 0
  Due s m = DueBy k.parties k.ways s.lines s.registers (target r₀) p (entry s (target r₀)).last (entry s (target r₀)).turn m

  abbrev pub Progress : ℕ → Call V P → Answer V → State V P R → Type 0
  Progress m c x s = ((d : ℕ) × (m ≡ d + advanced (target r₀) c x) × (register s p ≡ Waiting r₀) × Due s d) ⊎ ((c ≡ Advance (target r₀)) × (x ≡ Grant p))

  due_keeps : (s t : State V P R) (m : ℕ) → (entry t (target r₀)).turn ≡ (entry s (target r₀)).turn → (entry t (target r₀)).last ≡ (entry s (target r₀)).last
      → ((q : ℕ) (r : Request V P) → register s q ≡ Waiting r → target r ≡ target r₀ → (register t q ≡ Waiting r) × (load k.parties k.ways t.lines q r ≤ load k.parties k.ways s.lines q r))
      → Due s m → Due t m
  due_keeps s t m e f h d =
      subst (λ z. DueBy k.parties k.ways t.lines t.registers (target r₀) p (entry t (target r₀)).last z m) (sym e)
      (subst (λ z. DueBy k.parties k.ways t.lines t.registers (target r₀) p z (entry s (target r₀)).turn m) (sym f) (go (entry s (target r₀)).turn d))
    where
      go : (x : Option ℕ) → DueBy k.parties k.ways s.lines s.registers (target r₀) p (entry s (target r₀)).last x m → DueBy k.parties k.ways t.lines t.registers (target r₀) p (entry s (target r₀)).last x m
      go None y = y
      go (Some q) y = let z = h q y.0 y.1 y.2 in (y.0, z.0, y.2, omega (arith, z.1, y.3))

  -- sending a line home leaves turns, last parties and registers
  send_turn : (s : State V P R) (i : ℕ) (g : Ledger) (u : R) (a : ℕ) → (entry (send k s i g u) a).turn ≡ (entry s a).turn
  send_turn s i g u a = set_any (λ c e. e.turn ≡ (entry s c).turn) s.directory (cell_of (line s i)) (left_by (entry s (cell_of (line s i))) (i / k.ways)) (blank 0) refl (λ c. refl) a

  send_last : (s : State V P R) (i : ℕ) (g : Ledger) (u : R) (a : ℕ) → (entry (send k s i g u) a).last ≡ (entry s a).last
  send_last s i g u a = set_any (λ c e. e.last ≡ (entry s c).last) s.directory (cell_of (line s i)) (left_by (entry s (cell_of (line s i))) (i / k.ways)) (blank 0) refl (λ c. refl) a

  due_send : (s : State V P R) (i : ℕ) (g : Ledger) (u : R) (m : ℕ) → Due s m → Due (send k s i g u) m
  due_send s i g u m d = due_keeps s (send k s i g u) m (send_turn s i g u (target r₀)) (send_last s i g u (target r₀)) (λ q r e f. (e, load_send k.parties k.ways s.lines q r i)) d

  due_turn : (s : State V P R) (a q : ℕ) (m : ℕ) → (target r₀ ≡ a → ⊥) → Due s m → Due (turn_to k s a q) m
  due_turn s a q m n d =
      due_keeps s (turn_to k s a q) m (ap (λ e. e.turn) same) (ap (λ e. e.last) same) (λ q r e f. (e, omega arith)) d
    where
      same : entry (turn_to k s a q) (target r₀) ≡ entry s (target r₀)
      same = get_or-set_other s.directory a (target r₀) (with_turn (entry s a) q) (blank 0) n

  module _ (s : State V P R) (b : Reference V P) (inv : Inv k s b) (waits : register s p ≡ Waiting r₀) (m : ℕ) (due : Due s m) where
    unchanged : (c : Call V P) (x : Answer V) → advanced (target r₀) c x ≡ 0 → Progress m c x s
    unchanged c x e = inl (m, omega (arith, e), waits, due)

    p_waits : waits_for (target r₀) (register s p) ≡ true
    p_waits = ap (waits_for (target r₀)) waits ∙ eq-eqb (target r₀) (target r₀) refl

    -- post
    post_by_prompt : (q : ℕ) (r : Request V P) (x : Option ℕ) → is_empty (register s q) ≡ true → Progress m (Post q r) (post_by k x s q r).1 (post_by k x s q r).0
    post_by_prompt q r None empty =
        inl (
          m,
          omega arith,
          register_keeps s.registers q (Waiting r) p r₀ (target r₀) off waits refl,
          due_keeps s (queue k s q r) m refl refl (λ t u e f. (register_keeps s.registers q (Waiting r) t u (target r₀) off e f, omega arith)) due,
        )
      where
        off : waits_for (target r₀) (register s q) ≡ false
        off = no_wait (target r₀) (register s q) empty
    post_by_prompt q r (Some i) empty =
        inl (
          m,
          omega arith,
          register_keeps s.registers q _ p r₀ (target r₀) off waits refl,
          due_keeps s (hit k s q r i) m refl refl (λ t u e f. (register_keeps s.registers q _ t u (target r₀) off e f, load_served k.parties k.ways s.lines t u k.op i r)) due,
        )
      where
        off : waits_for (target r₀) (register s q) ≡ false
        off = no_wait (target r₀) (register s q) empty

    post_prompt : (q : ℕ) (r : Request V P) (x : Option Refusal) → post_refusal k s q r ≡ x → Progress m (Post q r) (post_if k x s q r).1 (post_if k x s q r).0
    post_prompt q r (Some n) e = unchanged (Post q r) (Refused n) refl
    post_prompt q r None e =
        let e1 = need_none (fit k s) Sizes _ e in
        let e2 = need_none (legal_here k s) Illegal _ e1.1 in
        let e3 = need_none (is_open s.ledger) LedgerClosed _ e2.1 in
        let e5 = need_none (counts_low s.ledger) CountTooHigh _ e3.1 in
        let e6 = need_none (ltb q k.parties) NoSuchParty _ e5.1 in
        let e7 = need_none (ltb (target r) k.cells) NoSuchCell _ e6.1 in
        let e8 = need_none (is_empty (register s q)) RegisterInUse None e7.1 in
        post_by_prompt q r (own_hit k s q r) e8.0

    -- collect, yield, settle
    collect_by_prompt : (q : ℕ) (x : Register V P) → register s q ≡ x → Progress m (Collect q) (collect_by k x s q).1 (collect_by k x s q).0
    collect_by_prompt q Empty e = unchanged (Collect q) (Refused RegisterEmpty) refl
    collect_by_prompt q (Waiting r) e = unchanged (Collect q) (Refused RegisterWaiting) refl
    collect_by_prompt q (Answered v) e =
        inl (
          m,
          omega arith,
          register_keeps s.registers q Empty p r₀ (target r₀) (ap (waits_for (target r₀)) e) waits refl,
          due_keeps s (clear k s q) m refl refl (λ t u z f. (register_keeps s.registers q Empty t u (target r₀) (ap (waits_for (target r₀)) e) z f, omega arith)) due,
        )

    collect_prompt : (q : ℕ) (x : Option Refusal) → Progress m (Collect q) (collect_if k x s q).1 (collect_if k x s q).0
    collect_prompt q (Some n) = unchanged (Collect q) (Refused n) refl
    collect_prompt q None = collect_by_prompt q (register s q) refl

    yield_by_prompt : (q a : ℕ) (x : Option ℕ) → Progress m (Yield q a) (yield_by k x s).1 (yield_by k x s).0
    yield_by_prompt q a None = unchanged (Yield q a) (Refused NoLine) refl
    yield_by_prompt q a (Some i) = inl (m, omega arith, waits, due_send s i (yield_more s.ledger) s.rule m due)

    yield_prompt : (q a : ℕ) (x : Option Refusal) → Progress m (Yield q a) (yield_if k x s q a).1 (yield_if k x s q a).0
    yield_prompt q a (Some n) = unchanged (Yield q a) (Refused n) refl
    yield_prompt q a None = yield_by_prompt q a (own_line k s q a)

    settle_prompt : (x : Option Refusal) → settle_refusal k s ≡ x → Progress m Settle (settle_if k x s).1 (settle_if k x s).0
    settle_prompt (Some n) e = unchanged Settle (Refused n) refl
    settle_prompt None e =
        let e1 = need_none (fit k s) Sizes _ e in
        let e2 = need_none (legal_here k s) Illegal _ e1.1 in
        let e3 = need_none (is_open s.ledger) LedgerClosed _ e2.1 in
        let e4 = need_none (leb k.cells (length s.home)) HomeTooSmall _ e3.1 in
        let e5 = need_none (counts_low s.ledger) CountTooHigh _ e4.1 in
        let e12 = need_none (all_empty s.registers) Unfinished None e5.1 in
        absurd (both_ways _ (ap is_empty waits) (all_empty_at s.registers e12.0 p))

    -- advance of another cell
    module _ (a : ℕ) (other : target r₀ ≡ a → ⊥) (q : ℕ) (r : Request V P) (q-waits : register s q ≡ Waiting r) (same : target r ≡ a) where
      elsewhere : (x : Answer V) → once (target r₀) a x ≡ 0
      elsewhere x = ap (λ z. cond z (cond (accepted x) 1 0) 0) (ne_eqb a (target r₀) (λ e. other (sym e)))

      q-off : waits_for (target r₀) (register s q) ≡ false
      q-off = ap (waits_for (target r₀)) q-waits ∙ ne_eqb (target r) (target r₀) (λ e. other (sym e ∙ same))

      send-off : (i : ℕ) (g : Ledger) (u : R) (x : Answer V) → Progress m (Advance a) x (send k (turn_to k s a q) i g u)
      send-off i g u x = inl (m, omega (arith, elsewhere x), waits, due_send (turn_to k s a q) i g u m (due_turn s a q m other due))

      granting-off : (i : ℕ) (x : Option (Line V P)) → granted_line k.op r (lookup s.home a) ≡ x → Owns k.ways q i → Progress m (Advance a) (granting k x s a q r i).1 (granting k x s a q r i).0
      granting-off i None e mine = unchanged (Advance a) (Refused Place) (elsewhere (Refused Place))
      granting-off i (Some l) e mine =
          inl (
            m,
            omega (arith, elsewhere (Grant q)),
            register_keeps s.registers q _ p r₀ (target r₀) q-off waits refl,
            due_keeps s (grant k s a q r i l) m (ap (λ e. e.turn) kept) (ap (λ e. e.last) kept)
                (λ t u f g. (
                  register_keeps s.registers q _ t u (target r₀) q-off f g,
                  load_other k.parties k.ways s.lines t u i l
                      (λ o. both_ways _ q-off (subst (λ z. waits_for (target r₀) (register s z) ≡ true) (one_owner k.ways t q i o mine) (ap (waits_for (target r₀)) f ∙ eq-eqb (target u) (target r₀) g)))
                      (⊎_elim (λ (h : is_of (target u) l ≡ true). absurd (other (sym g ∙ sym (is_of_cell (target u) l h) ∙ (granted_line_fits k.op r (lookup s.home a) l e).1 ∙ same))) (λ h. h) (cases_Bool (is_of (target u) l))),
                )) due,
          )
        where
          kept : entry (grant k s a q r i l) (target r₀) ≡ entry s (target r₀)
          kept = get_or-set_other s.directory a (target r₀) _ (blank 0) other

      rooming-off : (x : Option ℕ) → vacant k s q ≡ x → Progress m (Advance a) (rooming k x s a q r).1 (rooming k x s a q r).0
      rooming-off None e = send-off (q * k.ways + k.victim.picked s.rule q k.ways) (evict_more s.ledger) (k.victim.after s.rule q k.ways) (Evict (k.victim.picked s.rule q k.ways))
      rooming-off (Some i) e =
          let f = first_some (λ i. not (is_held (line s i))) (q * k.ways) k.ways i e in
          granting-off i (granted_line k.op r (lookup s.home a)) refl (f.0, f.1)

      recalling-off : (x : Option ℕ) → Progress m (Advance a) (recalling k x s a q r).1 (recalling k x s a q r).0
      recalling-off (Some i) = send-off i (recall_more s.ledger) s.rule (Recall (i / k.ways))
      recalling-off None = rooming-off (vacant k s q) refl

    off_zero : (a : ℕ) → (target r₀ ≡ a → ⊥) → (x : Answer V) → once (target r₀) a x ≡ 0
    off_zero a other x = ap (λ z. cond z (cond (accepted x) 1 0) 0) (ne_eqb a (target r₀) (λ e. other (sym e)))

    serving_off : (a : ℕ) → (target r₀ ≡ a → ⊥) → (q : ℕ) (x : Register V P) → register s q ≡ x → waits_for a x ≡ true → Progress m (Advance a) (serving k x s a q).1 (serving k x s a q).0
    serving_off a other q Empty e h = unchanged (Advance a) (Refused Illegal) (off_zero a other (Refused Illegal))
    serving_off a other q (Waiting r) e h = recalling-off a other q r e (eqb-true (target r) a h) (conflict k s r)
    serving_off a other q (Answered v) e h = unchanged (Advance a) (Refused Illegal) (off_zero a other (Refused Illegal))

    advance_for_off : (a : ℕ) → a < k.cells → is_open s.ledger ≡ true → (target r₀ ≡ a → ⊥) → (x : Option ℕ) → whose k (entry s a).turn s a ≡ x → Progress m (Advance a) (advance_for k x s a).1 (advance_for k x s a).0
    advance_for_off a inside live other None e = unchanged (Advance a) Idle (off_zero a other Idle)
    advance_for_off a inside live other (Some q) e = serving_off a other q (register s q) refl (whose_waits k s inv.tabled a (entry s a).turn q refl e).1

    -- advance of the cell
    module _ (fits : target r₀ < k.cells) (live : is_open s.ledger ≡ true) where
      abbrev x₀ : ℕ
      x₀ = (entry s (target r₀)).last

      counts : (y : Answer V) → accepted y ≡ true → once (target r₀) (target r₀) y ≡ 1
      counts y h = ap (λ z. cond z (cond (accepted y) 1 0) 0) (eq-eqb (target r₀) (target r₀) refl) ∙ ap (λ z. cond z 1 0) h

      refuses : (y : Answer V) → accepted y ≡ false → once (target r₀) (target r₀) y ≡ 0
      refuses y h = ap (λ z. cond z (cond (accepted y) 1 0) 0) (eq-eqb (target r₀) (target r₀) refl) ∙ ap (λ z. cond z 1 0) h

      -- where p stands after the last party granted
      p-place : (d : ℕ) × (d < k.parties) × ((x₀ + 1 + d) % k.parties ≡ p) × (dist k.parties x₀ p ≡ d + 1)
      p-place = round_dist k.parties x₀ p (inv.tabled.lasts (target r₀)) low

      p-there : waits_for (target r₀) (register s (after_last k s (target r₀) p-place.0)) ≡ true
      p-there = subst (λ z. waits_for (target r₀) (register s z) ≡ true) (sym p-place.2) p_waits

      -- the first party that waits is p or is nearer to p than the last one was
      nearer : (d : ℕ) → first (λ d. waits_for (target r₀) (register s (after_last k s (target r₀) d))) 0 k.parties ≡ Some d → far k.parties (after_last k s (target r₀) d) p + 1 ≤ dist k.parties x₀ p
      nearer d e = go (cases_eq d p-place.0)
        where
          f : (0 ≤ d) × (d < 0 + k.parties) × (waits_for (target r₀) (register s (after_last k s (target r₀) d)) ≡ true) × ((j : ℕ) → 0 ≤ j → j < d → waits_for (target r₀) (register s (after_last k s (target r₀) j)) ≡ false)
          f = first_some (λ d. waits_for (target r₀) (register s (after_last k s (target r₀) d))) 0 k.parties d e

          not-past : p-place.0 < d → ⊥
          not-past h = both_ways _ (f.3 p-place.0 (omega arith) h) p-there

          go : (d ≡ p-place.0) ⊎ (d ≡ p-place.0 → ⊥) → far k.parties (after_last k s (target r₀) d) p + 1 ≤ dist k.parties x₀ p
          go (inl z) =
              let zero-far : far k.parties (after_last k s (target r₀) d) p ≡ 0 = ap (λ y. cond y 0 (dist k.parties (after_last k s (target r₀) d) p)) (eq-eqb (after_last k s (target r₀) d) p (ap (after_last k s (target r₀)) z ∙ p-place.2)) in
              omega (arith, zero-far, p-place.3)
          go (inr n) =
              let before : d < p-place.0 = ⊎_elim (λ (h : p-place.0 < d). absurd (not-past h)) (λ (h : d ≤ p-place.0). omega arith) (cases_lt p-place.0 d) in
              let near : dist k.parties (after_last k s (target r₀) d) p + d ≡ p-place.0 = subst (λ z. dist k.parties (after_last k s (target r₀) d) z + d ≡ p-place.0) p-place.2 (dist_between k.parties x₀ d p-place.0 (inv.tabled.lasts (target r₀)) before p-place.1) in
              omega (arith, p-place.3, near, far-le (after_last k s (target r₀) d))
            where
              far-le : (q : ℕ) → far k.parties q p ≤ dist k.parties q p
              far-le q = far_at (eqb q p)
                where
                  far_at : (y : Bool) → cond y 0 (dist k.parties q p) ≤ dist k.parties q p
                  far_at true = omega arith
                  far_at false = omega arith

      -- the party served, and what is left to do
      Served : ℕ → Request V P → Type 0
      Served q r = load k.parties k.ways s.lines q r + (k.parties + 1) * far k.parties q p ≤ m

      whose-due : (q : ℕ) (r : Request V P) → q < k.parties → register s q ≡ Waiting r → (t : Option ℕ) → (entry s (target r₀)).turn ≡ t
          → DueBy k.parties k.ways s.lines s.registers (target r₀) p x₀ t m → whose k t s (target r₀) ≡ Some q → Served q r
      unfolding Served
      whose-due q r small on (Some t) e d h =
          let same : t ≡ q = some_same h in
          let req : d.0 ≡ r = waiting_same (sym d.1 ∙ ap (register s) same ∙ on) in
          subst (λ z. load k.parties k.ways s.lines q z + (k.parties + 1) * far k.parties q p ≤ m) req
          (subst (λ z. load k.parties k.ways s.lines z d.0 + (k.parties + 1) * far k.parties z p ≤ m) same d.3)
      whose-due q r small on None e d h = go (first (λ d. waits_for (target r₀) (register s (after_last k s (target r₀) d))) 0 k.parties) refl h
        where
          go : (x : Option ℕ) → first (λ d. waits_for (target r₀) (register s (after_last k s (target r₀) d))) 0 k.parties ≡ x → option_map (after_last k s (target r₀)) x ≡ Some q → load k.parties k.ways s.lines q r + (k.parties + 1) * far k.parties q p ≤ m
          go None f z = absurd (no_some z)
          go (Some j) f z =
              let near : far k.parties q p + 1 ≤ dist k.parties x₀ p = subst (λ y. far k.parties y p + 1 ≤ dist k.parties x₀ p) (some_same z) (nearer j f) in
              let times : (k.parties + 1) * (far k.parties q p + 1) ≤ (k.parties + 1) * dist k.parties x₀ p = mul-le-mul_left (k.parties + 1) near in
              let high : load k.parties k.ways s.lines q r ≤ k.parties + 1 = load_high k.parties k.ways s.lines q r small inv.tabled.apart in
              omega (arith, times, high, d)

      whose-some : (t : Option ℕ) → whose k t s (target r₀) ≡ None → ⊥
      whose-some (Some q) e = some_no e
      whose-some None e = go (first (λ d. waits_for (target r₀) (register s (after_last k s (target r₀) d))) 0 k.parties) refl e
        where
          go : (x : Option ℕ) → first (λ d. waits_for (target r₀) (register s (after_last k s (target r₀) d))) 0 k.parties ≡ x → option_map (after_last k s (target r₀)) x ≡ None → ⊥
          go (Some j) f z = some_no z
          go None f z = both_ways _ (first_none (λ d. waits_for (target r₀) (register s (after_last k s (target r₀) d))) 0 k.parties f p-place.0 (omega arith) (omega (arith, p-place.1))) p-there

      module _ (q : ℕ) (small : q < k.parties) (r : Request V P) (on : register s q ≡ Waiting r) (same : target r ≡ target r₀) (bound : Served q r) where
        -- a line is sent home for q, and less is left
        sends : (i : ℕ) (g : Ledger) (u : R) (y : Answer V) → accepted y ≡ true → load k.parties k.ways (set s.lines i Invalid) q r + 1 ≤ load k.parties k.ways s.lines q r → Progress m (Advance (target r₀)) y (send k (turn_to k s (target r₀) q) i g u)
        unfolding Served
        sends i g u y ok less =
            inl (
              m - 1,
              omega (arith, counts y ok, bound, less),
              waits,
              subst (λ z. DueBy k.parties k.ways (set s.lines i Invalid) s.registers (target r₀) p (entry (send k (turn_to k s (target r₀) q) i g u) (target r₀)).last z (m - 1)) (sym turn)
                  (r, on, same, omega (arith, bound, less)),
            )
          where
            turn : (entry (send k (turn_to k s (target r₀) q) i g u) (target r₀)).turn ≡ Some q
            turn = send_turn (turn_to k s (target r₀) q) i g u (target r₀) ∙ ap (λ e. e.turn) (get_or-set_same s.directory (target r₀) (with_turn (entry s (target r₀)) q) (blank 0) (omega (arith, inv.tabled.directory_length)))

        granting-on : (i : ℕ) (x : Option (Line V P)) → Progress m (Advance (target r₀)) (granting k x s (target r₀) q r i).1 (granting k x s (target r₀) q r i).0
        unfolding Served
        granting-on i None = unchanged (Advance (target r₀)) (Refused Place) (refuses (Refused Place) refl)
        granting-on i (Some l) = go (cases_eq q p)
          where
            new : entry (grant k s (target r₀) q r i l) (target r₀) ≡ joined_by (entry s (target r₀)) (phase_of l) q
            new = get_or-set_same s.directory (target r₀) (joined_by (entry s (target r₀)) (phase_of l) q) (blank 0) (omega (arith, inv.tabled.directory_length))

            go : (q ≡ p) ⊎ (q ≡ p → ⊥) → Progress m (Advance (target r₀)) (Grant q) (grant k s (target r₀) q r i l)
            go (inl e) = inr (refl, ap Grant e)
            go (inr n) =
                let near : far k.parties q p ≡ dist k.parties q p = ap (λ z. cond z 0 (dist k.parties q p)) (ne_eqb q p n) in
                let b' : load k.parties k.ways s.lines q r + (k.parties + 1) * dist k.parties q p ≤ m = subst (λ z. load k.parties k.ways s.lines q r + (k.parties + 1) * z ≤ m) near bound in
                inl (
                  m - 1,
                  omega (arith, counts (Grant q) refl, b', load_low k.parties k.ways s.lines q r),
                  get_or-set_other s.registers q p _ Empty (λ e. n (sym e)) ∙ waits,
                  subst (λ z. DueBy k.parties k.ways (set s.lines i l) (grant k s (target r₀) q r i l).registers (target r₀) p z.last z.turn (m - 1)) (sym new) (omega (arith, b', load_low k.parties k.ways s.lines q r)),
                )

        rooming-on : (x : Option ℕ) → vacant k s q ≡ x → ((j : ℕ) → conflicts r (line s j) ≡ false) → Progress m (Advance (target r₀)) (rooming k x s (target r₀) q r).1 (rooming k x s (target r₀) q r).0
        rooming-on None e calm =
            let w : ℕ = k.victim.picked s.rule q k.ways in
            let tiny : w < k.ways = sound.picks s.rule q k.ways (omega (arith, inv.tabled.limits.parties_high), inv.tabled.limits.ways_low, inv.tabled.limits.ways_high) in
            let mine : Owns k.ways q (q * k.ways + w) = (omega arith, omega arith) in
            sends (q * k.ways + w) (evict_more s.ledger) (k.victim.after s.rule q k.ways) (Evict w) refl
            (load_evict k.parties k.ways s.lines q r (q * k.ways + w) (omega (arith, inv.tabled.lines_length, owner_below k.ways q (q * k.ways + w) k.parties small mine)) mine
            (λ j o. not-false _ (first_none (λ i. not (is_held (line s i))) (q * k.ways) k.ways e j o.0 o.1)) calm)
        rooming-on (Some i) e calm = granting-on i (granted_line k.op r (lookup s.home (target r₀)))

        recalling-on : (x : Option ℕ) → conflict k s r ≡ x → Progress m (Advance (target r₀)) (recalling k x s (target r₀) q r).1 (recalling k x s (target r₀) q r).0
        recalling-on (Some i) e =
            let f = first_some (λ i. conflicts r (line s i)) 0 (k.parties * k.ways) i e in
            let inside : i < k.parties * k.ways = omega (arith, f.1) in
            sends i (recall_more s.ledger) s.rule (Recall (i / k.ways)) refl (load_recall k.parties k.ways s.lines q r i (omega (arith, inv.tabled.lines_length)) inside f.2)
        recalling-on None e = rooming-on (vacant k s q) refl (calm_all k s inv.tabled (target r₀) r e)

      serving-on : (q : ℕ) (x : Register V P) → whose k (entry s (target r₀)).turn s (target r₀) ≡ Some q → q < k.parties → register s q ≡ x → waits_for (target r₀) x ≡ true → Progress m (Advance (target r₀)) (serving k x s (target r₀) q).1 (serving k x s (target r₀) q).0
      serving-on q Empty w small e h = unchanged (Advance (target r₀)) (Refused Illegal) (refuses (Refused Illegal) refl)
      serving-on q (Waiting r) w small e h = recalling-on q small r e (eqb-true (target r) (target r₀) h) (whose-due q r small e (entry s (target r₀)).turn refl due w) (conflict k s r) refl
      serving-on q (Answered v) w small e h = unchanged (Advance (target r₀)) (Refused Illegal) (refuses (Refused Illegal) refl)

      advance-for-on : (x : Option ℕ) → whose k (entry s (target r₀)).turn s (target r₀) ≡ x → Progress m (Advance (target r₀)) (advance_for k x s (target r₀)).1 (advance_for k x s (target r₀)).0
      advance-for-on None e = absurd (whose-some (entry s (target r₀)).turn e)
      advance-for-on (Some q) e =
          let u = whose_waits k s inv.tabled (target r₀) (entry s (target r₀)).turn q refl e in
          serving-on q (register s q) e u.0 refl u.1

    -- advance of any cell
    advance_prompt : (a : ℕ) (x : Option Refusal) → advance_refusal k s a ≡ x → Progress m (Advance a) (advance_if k x s a).1 (advance_if k x s a).0
    advance_prompt a (Some n) e = unchanged (Advance a) (Refused n) (nothing (eqb a (target r₀)))
      where
        nothing : (y : Bool) → ◌≡◌ {A = ℕ} (cond y 0 0) 0
        nothing true = refl
        nothing false = refl
    advance_prompt a None e =
        let e1 = need_none (fit k s) Sizes _ e in
        let e2 = need_none (legal_here k s) Illegal _ e1.1 in
        let e3 = need_none (is_open s.ledger) LedgerClosed _ e2.1 in
        let e4 = need_none (leb k.cells (length s.home)) HomeTooSmall _ e3.1 in
        let e5 = need_none (counts_low s.ledger) CountTooHigh _ e4.1 in
        let e7 = need_none (ltb a k.cells) NoSuchCell None e5.1 in
        let fits : a < k.cells = ltb-true a k.cells e7.0 in
        ⊎_elim
        (λ (z : target r₀ ≡ a). subst (λ c. Progress m (Advance c) (advance_if k None s c).1 (advance_if k None s c).0) z (advance-for-on (subst (λ c. c < k.cells) (sym z) fits) e3.0 (whose k (entry s (target r₀)).turn s (target r₀)) refl))
        (λ (z : target r₀ ≡ a → ⊥). advance_for_off a fits e3.0 z (whose k (entry s a).turn s a) refl)
        (cases_eq (target r₀) a)

    pub step_prompt : (c : Call V P) → Progress m c (step k s c).1 (step k s c).0
    step_prompt (Post q r) = post_prompt q r (post_refusal k s q r) refl
    step_prompt (Advance a) = advance_prompt a (advance_refusal k s a) refl
    step_prompt (Collect q) = collect_prompt q (collect_refusal k s q)
    step_prompt (Yield q a) = yield_prompt q a (yield_refusal k s q a)
    step_prompt Settle = settle_prompt (settle_refusal k s) refl

    -- something is always left to do
    pub due_low : 1 ≤ m
    due_low = go (entry s (target r₀)).turn due
      where
        go : (t : Option ℕ) → DueBy k.parties k.ways s.lines s.registers (target r₀) p (entry s (target r₀)).last t m → 1 ≤ m
        go None d = let times : (k.parties + 1) * 1 ≤ (k.parties + 1) * dist k.parties (entry s (target r₀)).last p = mul-le-mul_left (k.parties + 1) (dist_low k.parties (entry s (target r₀)).last p (inv.tabled.lasts (target r₀)) low) in omega (arith, times, d)
        go (Some q) d = omega (arith, d.3)

  -- a stretch of a run: if no advance in it grants p, what is left has fallen by the advances
  pub run_prompt : (stretch after : List (Event V P)) (cs : List (Call V P)) (s : State V P R) (b : Reference V P) → Inv k s b → register s p ≡ Waiting r₀ → (m : ℕ) → Due s m → events k s cs ≡ stretch ++ after → m ≤ advances (target r₀) stretch
      → (front : List (Event V P)) × (back : List (Event V P)) × (stretch ≡ front ++ ((Advance (target r₀), Grant p) ∷ back)) × ((remembered k.op.act b front).waiting p ≡ Some r₀)
  run_prompt [] after cs s b inv waits m due e h = absurd (omega (arith, due_low s b inv waits m due))
  run_prompt (x ∷ stretch) after [] s b inv waits m due e h = absurd (none_there k sound x (stretch ++ after) e)
  run_prompt (x ∷ stretch) after (c ∷ cs) s b inv waits m due e h =
      go (subst (λ z. Progress m c z.1 z.0) (sym (taken_is k s inv.tabled c)) (step_prompt s b inv waits m due c)) (run_prompt stretch after cs (taken k s c).0 (observed k.op.act b c (outcome (taken k s c).1)) (taken_keeps k sound (Inv k) (inv_closed k sound) s b inv c))
    where
      Found : Reference V P → List (Event V P) → Type 0
      Found y es = (front : List (Event V P)) × (back : List (Event V P)) × (es ≡ front ++ ((Advance (target r₀), Grant p) ∷ back)) × ((remembered k.op.act y front).waiting p ≡ Some r₀)

      next : Reference V P
      next = observed k.op.act b c (outcome (taken k s c).1)

      head : (c, (taken k s c).1) ≡ x
      head = head_same k sound (c, (taken k s c).1) x (events k (taken k s c).0 cs) (stretch ++ after) e

      tail : events k (taken k s c).0 cs ≡ stretch ++ after
      tail = tail_same k sound (c, (taken k s c).1) x (events k (taken k s c).0 cs) (stretch ++ after) e

      go : Progress m c (taken k s c).1 (taken k s c).0
          → (register (taken k s c).0 p ≡ Waiting r₀ → (d : ℕ) → Due (taken k s c).0 d → events k (taken k s c).0 cs ≡ stretch ++ after → d ≤ advances (target r₀) stretch → Found next stretch)
          → Found b (x ∷ stretch)
      go (inr y) rec = ([], stretch, ap (λ z. z ∷ stretch) (sym head ∙ both y.0 y.1), (subst (λ z. Desk z (b.waiting p) (b.note p)) waits (inv.desks p)).0)
        where
          both : c ≡ Advance (target r₀) → (taken k s c).1 ≡ Grant p → ◌≡◌ {A = Event V P} (c, (taken k s c).1) (Advance (target r₀), Grant p)
          both u v = cc
      go (inl y) rec =
          let fewer : y.0 ≤ advances (target r₀) stretch = omega (arith, y.1, h, ap (λ z. advanced (target r₀) z.0 z.1) head) in
          let f : Found next stretch = rec y.2 y.0 y.3 tail fewer in
          (x ∷ f.0, f.1, ap (λ z. x ∷ z) f.2, subst (λ z. (remembered k.op.act (observed k.op.act b z.0 (outcome z.1)) f.0).waiting p ≡ Some r₀) head f.3)

  -- a request just queued
  due_first : (s : State V P R) (b : Reference V P) → Inv k s b → is_empty (register s p) ≡ true → (t : Option ℕ) → Turned s.registers k.parties (target r₀) t
      → DueBy k.parties k.ways s.lines (set s.registers p (Waiting r₀)) (target r₀) p (entry s (target r₀)).last t (k.parties * (k.parties + 1))
  due_first s b inv empty None u =
      let times : (k.parties + 1) * dist k.parties (entry s (target r₀)).last p ≤ (k.parties + 1) * k.parties = mul-le-mul_left (k.parties + 1) (dist_high k.parties (entry s (target r₀)).last p (inv.tabled.lasts (target r₀)) low) in
      omega (arith, times)
  due_first s b inv empty (Some q) u = go (register s q) refl u.1
    where
      off : waits_for (target r₀) (register s p) ≡ false
      off = no_wait (target r₀) (register s p) empty

      n : q ≡ p → ⊥
      n e = both_ways _ off (subst (λ z. waits_for (target r₀) (register s z) ≡ true) e u.1)

      go : (x : Register V P) → register s q ≡ x → waits_for (target r₀) x ≡ true → (r : Request V P) × (get_or (set s.registers p (Waiting r₀)) q Empty ≡ Waiting r) × (target r ≡ target r₀) × (load k.parties k.ways s.lines q r + (k.parties + 1) * far k.parties q p ≤ k.parties * (k.parties + 1))
      go Empty e h = absurd (no h)
      go (Answered v) e h = absurd (no h)
      go (Waiting r) e h =
          let near : far k.parties q p ≡ dist k.parties q p = ap (λ z. cond z 0 (dist k.parties q p)) (ne_eqb q p n) in
          let step : far k.parties q p + 1 ≤ k.parties = omega (arith, near, dist_other k.parties q p u.0 low n) in
          let times : (k.parties + 1) * (far k.parties q p + 1) ≤ (k.parties + 1) * k.parties = mul-le-mul_left (k.parties + 1) step in
          let high : load k.parties k.ways s.lines q r ≤ k.parties + 1 = load_high k.parties k.ways s.lines q r u.0 inv.tabled.apart in
          (r, register_keeps s.registers p (Waiting r₀) q r (target r₀) off e (eqb-true (target r) (target r₀) h), eqb-true (target r) (target r₀) h, omega (arith, times, high))

-- a post that was queued
module _ {V P R : Type 0} (k : Bench V P R) (sound : Sound k) where
  Began : State V P R → ℕ → Request V P → State V P R → Type 0
  Began s p r t = (t ≡ queue k s p r) × (p < k.parties) × (is_empty (register s p) ≡ true)

  queued_by : (s : State V P R) (p : ℕ) (r : Request V P) (x : Option ℕ) → (post_by k x s p r).1 ≡ Queued → (post_by k x s p r).0 ≡ queue k s p r
  queued_by s p r None e = refl
  queued_by s p r (Some i) e = absurd (let z : ◌≡◌ {A = ℕ} 0 1 = cc in omega arith)

  queued_if : (s : State V P R) (p : ℕ) (r : Request V P) (x : Option Refusal) → post_refusal k s p r ≡ x → (post_if k x s p r).1 ≡ Queued → ((post_if k x s p r).0 ≡ queue k s p r) × (p < k.parties) × (is_empty (register s p) ≡ true)
  queued_if s p r (Some n) f e = absurd (let z : ◌≡◌ {A = ℕ} 0 1 = cc in omega arith)
  queued_if s p r None f e =
      let e1 = need_none (fit k s) Sizes _ f in
      let e2 = need_none (legal_here k s) Illegal _ e1.1 in
      let e3 = need_none (is_open s.ledger) LedgerClosed _ e2.1 in
      let e5 = need_none (counts_low s.ledger) CountTooHigh _ e3.1 in
      let e6 = need_none (ltb p k.parties) NoSuchParty _ e5.1 in
      let e7 = need_none (ltb (target r) k.cells) NoSuchCell _ e6.1 in
      let e8 = need_none (is_empty (register s p)) RegisterInUse None e7.1 in
      (queued_by s p r (own_hit k s p r) e, ltb-true p k.parties e6.0, e8.0)

  pub prompt_run : (h₀ : State V P R) → make_refusal k h₀ ≡ None → (cs : List (Call V P)) → Prompt k.op.act (at_making h₀.home) k.parties (events k (made k h₀) cs)
  prompt_run h₀ ok cs before stretch after p r e h =
      from (split k sound before ((Post p r, Queued) ∷ (stretch ++ after)) cs (made k h₀) (at_making h₀.home) (made_inv k sound h₀ ok) e)
    where
      Found : Type 0
      Found = (front : List (Event V P)) × (back : List (Event V P)) × (stretch ≡ front ++ ((Advance (target r), Grant p) ∷ back)) × ((remembered k.op.act (at_making h₀.home) (before ++ ((Post p r, Queued) ∷ front))).waiting p ≡ Some r)

      from : Between k sound before ((Post p r, Queued) ∷ (stretch ++ after)) (at_making h₀.home) (final k (made k h₀) cs) → Found
      from m = go m.calls m.goes
        where
          s : State V P R
          s = m.here

          b : Reference V P
          b = remembered k.op.act (at_making h₀.home) before

          go : (ds : List (Call V P)) → events k s ds ≡ (Post p r, Queued) ∷ (stretch ++ after) → Found
          go [] f = absurd (none_there k sound (Post p r, Queued) (stretch ++ after) f)
          go (c ∷ ds) f =
              let head : (c, (taken k s c).1) ≡ (Post p r, Queued) = head_same k sound (c, (taken k s c).1) (Post p r, Queued) (events k (taken k s c).0 ds) (stretch ++ after) f in
              let tail : events k (taken k s c).0 ds ≡ stretch ++ after = tail_same k sound (c, (taken k s c).1) (Post p r, Queued) (events k (taken k s c).0 ds) (stretch ++ after) f in
              let call : c ≡ Post p r = ap (λ z. z.0) head in
              let is : taken k s (Post p r) ≡ step k s (Post p r) = taken_is k s m.holds.tabled (Post p r) in
              let answer : (step k s (Post p r)).1 ≡ Queued = ap (λ z. z.1) (sym is) ∙ subst (λ z. (taken k s z).1 ≡ Queued) call (ap (λ z. z.1) head) in
              let q = queued_if s p r (post_refusal k s p r) refl answer in
              let next : (taken k s c).0 ≡ queue k s p r = subst (λ z. (taken k s z).0 ≡ queue k s p r) (sym call) (ap (λ z. z.0) is ∙ q.0) in
              let inv : Inv k (queue k s p r) (observed k.op.act b c (outcome (taken k s c).1)) = subst (λ z. Inv k z (observed k.op.act b c (outcome (taken k s c).1))) next (taken_keeps k sound (Inv k) (inv_closed k sound) s b m.holds c) in
              let f = run_prompt k sound p q.1 r stretch after ds (queue k s p r) (observed k.op.act b c (outcome (taken k s c).1)) inv
              (get_or-set_same s.registers p (Waiting r) Empty (omega (arith, m.holds.tabled.registers_length, q.1)))
              (k.parties * (k.parties + 1)) (due_first k sound p q.1 r s b m.holds q.2 (entry s (target r)).turn (m.holds.tabled.turns (target r)))
              (subst (λ z. events k z ds ≡ stretch ++ after) next tail) (omega (arith, h)) in
              (f.0, f.1, f.2, ap (λ z. z.waiting p) (booked_append k.op.act (at_making h₀.home) before ((Post p r, Queued) ∷ f.0)) ∙ subst (λ z. (remembered k.op.act (observed k.op.act b z.0 (outcome z.1)) f.0).waiting p ≡ Some r) head f.3)
