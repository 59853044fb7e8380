-- Each step keeps whatever the moves keep
use Rattle.std.proofs.Common.{◌≡◌, ℕ, zero, suc, ◌+◌, ◌*◌, ◌<◌, Bool, true, false, not, ltb, leb, ◌⊎◌, List, length, get_or, Some, None, Option, sym, refl, ap, ◌∙◌, subst, inl, inr, ⊎_elim, arith}
use Rattle.std.proofs.lemmas.Nat.{mod_below}
use Rattle.std.proofs.lemmas.List.{get_or_past}
use Rattle.std.proofs.lemmas.Bool.{both_ways, cases_Bool, cases_eq, eq-eqb, eqb-true, ltb-false, ltb-true, not-false, not-true}
use Rattle.std.specs.Option.{option_map}
use Rattle.tables.proofs.Tests.{is_of_held}
use Rattle.tables.specs.Legal.{fits}
use Rattle.tables.specs.Lines.{conflicts, hits, is_empty, is_held, is_of, target, waits_for}
use Rattle.tables.specs.declared.ledger.Ledger.{Ledger}
use Rattle.tables.specs.declared.line.Line.{Line}
use Rattle.tables.specs.declared.line.Line.TheVariants.{Invalid, Modified, Shared, UpdateOnly}
use Rattle.tables.specs.declared.refusal.Refusal.{Refusal}
use Rattle.tables.specs.declared.refusal.Refusal.TheVariants.{CountTooHigh, HomeTooSmall, Illegal, LedgerClosed, NoSuchCell, NoSuchParty, RegisterInUse, Sizes}
use Rattle.tables.specs.declared.register.Register.{Register}
use Rattle.tables.specs.declared.register.Register.TheVariants.{Answered, Empty, Waiting}
use Rattle.tables.specs.declared.request.Request.{Request}
use Rattle.tables.specs.declared.request.Request.TheVariants.{Read, Update, Write}
use Rattle.model.proofs.Basics.{Owns, need_none, owner_below, set_all}
use Rattle.model.proofs.Inv.{Desk, Inv}
use Rattle.model.proofs.Moves.{Sent, inv_clear, inv_close, inv_grant, inv_hit, inv_queue, inv_send, inv_turn}
use Rattle.model.proofs.Tabled.{Tabled, Turned}
use Rattle.model.proofs.TabledMoves.{tabled_clear, tabled_close, tabled_grant, tabled_hit, tabled_queue, tabled_send, tabled_turn}
use Rattle.model.specs.Bench.{Bench, Sound, State, entry, granted_line, line, lookup, register, value_in}
use Rattle.model.specs.Reference.{Reference, finish, finish_waiting, observed, outcome, strike, wait}
use Rattle.model.specs.Steps.{advance_for, advance_if, advance_refusal, after_last, all_sent, clear, close, collect_by, collect_if, collect_refusal, conflict, emptied, evict_more, fit, grant, granting, hit, legal_here, own_hit, own_line, post_by, post_if, post_refusal, queue, recall_more, recalling, rooming, send, serving, settle_if, settle_refusal, sized, step, taken, turn_to, vacant, whose, yield_by, yield_if, yield_more, yield_refusal}
use Rattle.model.specs.declared.answer.Answer.{Answer}
use Rattle.model.specs.declared.call.Call.{Call}
use Rattle.model.specs.declared.call.Call.TheVariants.{Advance, Collect, Post, Settle, Yield}
use Rattle.party_set.proofs.Searches.{first_none, first_some, no_some, some_same}
use Rattle.tables.specs.Ledgers.{counts_low, is_open}
use Rattle.party_set.specs.Searches.{first}

pub conflicts_invalid : {V P : Type 0} (r : Request V P) → conflicts r Invalid ≡ false
conflicts_invalid (Read a) = refl
conflicts_invalid (Write a v) = refl
conflicts_invalid (Update a d) = refl

pub conflicts_held : {V P : Type 0} (r : Request V P) (l : Line V P) → conflicts r l ≡ true → is_held l ≡ true
conflicts_held r Invalid h = absurd (both_ways _ (conflicts_invalid r) h)
conflicts_held r (Shared b v) h = refl
conflicts_held r (UpdateOnly b d) h = refl
conflicts_held r (Modified b v) h = refl

-- past the table every line is Invalid
pub everywhere : {V P : Type 0} (Q : Line V P → Type 0) (ls : List (Line V P)) (n : ℕ) → length ls ≡ n → Q Invalid → ((i : ℕ) → i < n → Q (get_or ls i Invalid)) → (i : ℕ) → Q (get_or ls i Invalid)
everywhere Q ls n e past h i = go (cases_Bool (ltb i n))
  where
    go : (ltb i n ≡ true) ⊎ (ltb i n ≡ false) → Q (get_or ls i Invalid)
    go (inl t) = h i (ltb-true i n t)
    go (inr f) = subst Q (sym (get_or_past ls i Invalid (omega (arith, ltb-false i n f)))) past

-- a relation between a bench and its reference memory that every move keeps, on legal tables
pub record Closed {V P R : Type 0} (k : Bench V P R) (K : State V P R → Reference V P → Type 0) : Type 0 where
  pub tabled : (s : State V P R) (b : Reference V P) → K s b → Tabled k s
  pub queue : (s : State V P R) (b : Reference V P) → K s b → (p : ℕ) (r : Request V P) → p < k.parties → is_empty (register s p) ≡ true → target r < k.cells
      → ((i : ℕ) → Owns k.ways p i → hits r (line s i) ≡ false) → K (queue k s p r) (wait b p r)
  pub hit : (s : State V P R) (b : Reference V P) → K s b → (p : ℕ) (r : Request V P) (i : ℕ) → p < k.parties → is_empty (register s p) ≡ true → is_open s.ledger ≡ true
      → Owns k.ways p i → hits r (line s i) ≡ true → K (hit k s p r i) (finish k.op.act b p r)
  pub turn : (s : State V P R) (b : Reference V P) → K s b → (a q : ℕ) → a < k.cells → q < k.parties → waits_for a (register s q) ≡ true → K (turn_to k s a q) b
  pub send : (s : State V P R) (b : Reference V P) → K s b → (i : ℕ) (g : Ledger) (u : R) → i < k.parties * k.ways → is_held (line s i) ≡ true → Sent s.ledger g → K (send k s i g u) b
  pub grant : (s : State V P R) (b : Reference V P) → K s b → (a q : ℕ) (r : Request V P) (i : ℕ) (x : Line V P) → a < k.cells → q < k.parties → register s q ≡ Waiting r → target r ≡ a → is_open s.ledger ≡ true
      → Owns k.ways q i → is_held (line s i) ≡ false → ((j : ℕ) → conflicts r (line s j) ≡ false) → granted_line k.op r (lookup s.home a) ≡ Some x
      → K (grant k s a q r i x) (finish_waiting k.op.act b q (b.waiting q))
  pub clear : (s : State V P R) (b : Reference V P) → K s b → (p : ℕ) (v : Option V) → p < k.parties → register s p ≡ Answered v → K (clear k s p) (strike b p)
  pub close : (s : State V P R) (b : Reference V P) → K s b → ((i : ℕ) → is_held (line s i) ≡ false) → K (close k s) b

pub inv_closed : {V P R : Type 0} (k : Bench V P R) → Sound k → Closed k (Inv k)
inv_closed {V} {P} {R} k sound = record {
  tabled = λ s b inv. inv.tabled;
  queue = inv_queue k sound;
  hit = inv_hit k sound;
  turn = inv_turn k sound;
  send = inv_send k sound;
  grant = λ s b inv a q r i x low fits waits same live mine room calm made.
      let desk : Desk (Waiting r) (b.waiting q) (b.note q) = subst (λ z. Desk z (b.waiting q) (b.note q)) waits (inv.desks q) in
      subst (λ z. Inv k (grant k s a q r i x) (finish_waiting k.op.act b q z)) (sym desk.0) (inv_grant k sound s b inv a q r i x low fits waits same live mine room calm made);
  clear = inv_clear k sound;
  close = inv_close k sound;
}

pub tabled_closed : {V P R : Type 0} (k : Bench V P R) → Closed k (λ s b. Tabled k s)
tabled_closed k = record {
  tabled = λ s b inv. inv;
  queue = λ s b inv. tabled_queue k s inv;
  hit = λ s b inv p r i low empty live mine on. tabled_hit k s inv p r i low empty mine;
  turn = λ s b inv. tabled_turn k s inv;
  send = λ s b inv i g u low full sent. tabled_send k s inv i g u low full;
  grant = λ s b inv a q r i x low fits waits same live mine room calm made. tabled_grant k s inv a q r i x low fits waits same mine room calm made;
  clear = λ s b inv. tabled_clear k s inv;
  close = λ s b inv none. tabled_close k s inv;
}

-- who is served waits for the cell
module _ {V P R : Type 0} (k : Bench V P R) (s : State V P R) (ok : Tabled k s) (a : ℕ) where
  next_waits : (x : Option ℕ) (q : ℕ) → first (λ d. waits_for a (register s (after_last k s a d))) 0 k.parties ≡ x → option_map (after_last k s a) x ≡ Some q → (q < k.parties) × (waits_for a (register s q) ≡ true)
  next_waits None q e h = absurd (no_some h)
  next_waits (Some d) q e h =
      subst (λ z. (z < k.parties) × (waits_for a (register s z) ≡ true)) (some_same h)
      (mod_below ((entry s a).last + 1 + d) k.parties ok.limits.parties_low, (first_some (λ d. waits_for a (register s (after_last k s a d))) 0 k.parties d e).2)

  pub whose_waits : (t : Option ℕ) (q : ℕ) → (entry s a).turn ≡ t → whose k t s a ≡ Some q → (q < k.parties) × (waits_for a (register s q) ≡ true)
  whose_waits (Some p) q e h =
      let u : (p < k.parties) × (waits_for a (register s p) ≡ true) = subst (λ z. Turned s.registers k.parties a z) e (ok.turns a) in
      subst (λ z. (z < k.parties) × (waits_for a (register s z) ≡ true)) (some_same h) u
  whose_waits None q e h = next_waits (first (λ d. waits_for a (register s (after_last k s a d))) 0 k.parties) q refl h

  -- without a conflicting line in the table there is none at all
  pub calm_all : (r : Request V P) → conflict k s r ≡ None → (j : ℕ) → conflicts r (line s j) ≡ false
  calm_all r e = everywhere (λ l. conflicts r l ≡ false) s.lines (k.parties * k.ways) ok.lines_length (conflicts_invalid r) (λ j h. first_none (λ i. conflicts r (line s i)) 0 (k.parties * k.ways) e j (omega arith) (omega arith))

-- the tables keep their sizes
pub sized_same : {V P R : Type 0} (k : Bench V P R) (s : State V P R) → Tabled k s → sized k s ≡ k
sized_same k s ok = λ i. record { op = k.op; victim = k.victim; parties = ok.registers_length i; cells = ok.directory_length i; ways = k.ways }

pub taken_is : {V P R : Type 0} (k : Bench V P R) (s : State V P R) → Tabled k s → (c : Call V P) → taken k s c ≡ step k s c
taken_is k s ok c = ap (λ z. step z s c) (sized_same k s ok)

module _ {V P R : Type 0} (k : Bench V P R) (sound : Sound k) (K : State V P R → Reference V P → Type 0) (kept : Closed k K) where
  abbrev pub After : Reference V P → Call V P → State V P R × Answer V → Type 0
  After b c x = K x.0 (observed k.op.act b c (outcome x.1))

  module _ (s : State V P R) (b : Reference V P) (inv : K s b) where
    ok : Tabled k s
    ok = kept.tabled s b inv

    -- post
    post_by_keeps : (p : ℕ) (r : Request V P) (x : Option ℕ) → own_hit k s p r ≡ x → p < k.parties → target r < k.cells → is_empty (register s p) ≡ true → is_open s.ledger ≡ true → After b (Post p r) (post_by k x s p r)
    post_by_keeps p r None e low value_in empty live = kept.queue s b inv p r low empty value_in (λ i o. first_none (λ i. hits r (line s i)) (p * k.ways) k.ways e i o.0 o.1)
    post_by_keeps p r (Some i) e low value_in empty live =
        let f = first_some (λ i. hits r (line s i)) (p * k.ways) k.ways i e in
        kept.hit s b inv p r i low empty live (f.0, f.1) f.2

    post_keeps : (p : ℕ) (r : Request V P) (x : Option Refusal) → post_refusal k s p r ≡ x → After b (Post p r) (post_if k x s p r)
    post_keeps p r (Some n) e = inv
    post_keeps p r None e =
        let e1 = need_none (fit k s) Sizes _ e in
        let e2 = need_none (legal_here k s) Illegal _ e1.1 in
        let e3 = need_none (is_open s.ledger) LedgerClosed _ e2.1 in
        let e5 = need_none (counts_low s.ledger) CountTooHigh _ e3.1 in
        let e6 = need_none (ltb p k.parties) NoSuchParty _ e5.1 in
        let e7 = need_none (ltb (target r) k.cells) NoSuchCell _ e6.1 in
        let e8 = need_none (is_empty (register s p)) RegisterInUse None e7.1 in
        post_by_keeps p r (own_hit k s p r) refl (ltb-true p k.parties e6.0) (ltb-true (target r) k.cells e7.0) e8.0 e3.0

    -- advance
    module _ (a : ℕ) (low : a < k.cells) (live : is_open s.ledger ≡ true) where
      module _ (q : ℕ) (fits : q < k.parties) (r : Request V P) (waits : register s q ≡ Waiting r) (same : target r ≡ a) where
        turn-waits : waits_for a (register s q) ≡ true
        turn-waits = ap (waits_for a) waits ∙ eq-eqb (target r) a same

        turn-inv : K (turn_to k s a q) b
        turn-inv = kept.turn s b inv a q low fits turn-waits

        granting-keeps : (i : ℕ) (x : Option (Line V P)) → granted_line k.op r (lookup s.home a) ≡ x → Owns k.ways q i → is_held (line s i) ≡ false → ((j : ℕ) → conflicts r (line s j) ≡ false) → After b (Advance a) (granting k x s a q r i)
        granting-keeps i None e mine room calm = inv
        granting-keeps i (Some l) e mine room calm =
            kept.grant s b inv a q r i l low fits waits same live mine room calm e

        rooming-keeps : (x : Option ℕ) → vacant k s q ≡ x → ((j : ℕ) → conflicts r (line s j) ≡ false) → After b (Advance a) (rooming k x s a q r)
        rooming-keeps None e calm =
            let w : ℕ = k.victim.picked s.rule q k.ways in
            let small : w < k.ways = sound.picks s.rule q k.ways (omega (arith, ok.limits.parties_high), ok.limits.ways_low, ok.limits.ways_high) in
            kept.send (turn_to k s a q) b turn-inv (q * k.ways + w) (evict_more s.ledger) (k.victim.after s.rule q k.ways)
            (owner_below k.ways q (q * k.ways + w) k.parties fits (omega arith, omega arith))
            (not-false _ (first_none (λ i. not (is_held (line s i))) (q * k.ways) k.ways e (q * k.ways + w) (omega arith) (omega arith)))
            (record { status = refl; hits = refl; grants = refl; more = omega arith })
        rooming-keeps (Some i) e calm =
            let f = first_some (λ i. not (is_held (line s i))) (q * k.ways) k.ways i e in
            granting-keeps i (granted_line k.op r (lookup s.home a)) refl (f.0, f.1) (not-true _ f.2) calm

        recalling-keeps : (x : Option ℕ) → conflict k s r ≡ x → After b (Advance a) (recalling k x s a q r)
        recalling-keeps (Some i) e =
            let f = first_some (λ i. conflicts r (line s i)) 0 (k.parties * k.ways) i e in
            kept.send (turn_to k s a q) b turn-inv i (recall_more s.ledger) s.rule (omega (arith, f.1)) (conflicts_held r (line s i) f.2)
            (record { status = refl; hits = refl; grants = refl; more = omega arith })
        recalling-keeps None e = rooming-keeps (vacant k s q) refl (calm_all k s ok a r e)

      serving-keeps : (q : ℕ) → q < k.parties → (x : Register V P) → register s q ≡ x → waits_for a x ≡ true → After b (Advance a) (serving k x s a q)
      serving-keeps q inside Empty e h = inv
      serving-keeps q inside (Waiting r) e h = recalling-keeps q inside r e (eqb-true (target r) a h) (conflict k s r) refl
      serving-keeps q inside (Answered v) e h = inv

      advance-for-keeps : (x : Option ℕ) → whose k (entry s a).turn s a ≡ x → After b (Advance a) (advance_for k x s a)
      advance-for-keeps None e = inv
      advance-for-keeps (Some q) e =
          let u = whose_waits k s ok a (entry s a).turn q refl e in
          serving-keeps q u.0 (register s q) refl u.1

    advance_keeps : (a : ℕ) (x : Option Refusal) → advance_refusal k s a ≡ x → After b (Advance a) (advance_if k x s a)
    advance_keeps a (Some n) e = inv
    advance_keeps a None e =
        let e1 = need_none (fit k s) Sizes _ e in
        let e2 = need_none (legal_here k s) Illegal _ e1.1 in
        let e3 = need_none (is_open s.ledger) LedgerClosed _ e2.1 in
        let e4 = need_none (leb k.cells (length s.home)) HomeTooSmall _ e3.1 in
        let e5 = need_none (counts_low s.ledger) CountTooHigh _ e4.1 in
        let e7 = need_none (ltb a k.cells) NoSuchCell None e5.1 in
        advance-for-keeps a (ltb-true a k.cells e7.0) e3.0 (whose k (entry s a).turn s a) refl

    -- collect
    collect_by_keeps : (p : ℕ) → p < k.parties → (x : Register V P) → register s p ≡ x → After b (Collect p) (collect_by k x s p)
    collect_by_keeps p low Empty e = inv
    collect_by_keeps p low (Waiting r) e = inv
    collect_by_keeps p low (Answered v) e = kept.clear s b inv p v low e

    collect_keeps : (p : ℕ) (x : Option Refusal) → collect_refusal k s p ≡ x → After b (Collect p) (collect_if k x s p)
    collect_keeps p (Some n) e = inv
    collect_keeps p None e =
        let e1 = need_none (fit k s) Sizes _ e in
        let e2 = need_none (legal_here k s) Illegal _ e1.1 in
        let e3 = need_none (is_open s.ledger) LedgerClosed _ e2.1 in
        let e6 = need_none (ltb p k.parties) NoSuchParty None e3.1 in
        collect_by_keeps p (ltb-true p k.parties e6.0) (register s p) refl

    -- yield
    yield_by_keeps : (p a : ℕ) → p < k.parties → (x : Option ℕ) → own_line k s p a ≡ x → After b (Yield p a) (yield_by k x s)
    yield_by_keeps p a low None e = inv
    yield_by_keeps p a low (Some i) e =
        let f = first_some (λ i. is_of a (line s i)) (p * k.ways) k.ways i e in
        kept.send s b inv i (yield_more s.ledger) s.rule (owner_below k.ways p i k.parties low (f.0, f.1)) (is_of_held a (line s i) f.2)
        (record { status = refl; hits = refl; grants = refl; more = omega arith })

    yield_keeps : (p a : ℕ) (x : Option Refusal) → yield_refusal k s p a ≡ x → After b (Yield p a) (yield_if k x s p a)
    yield_keeps p a (Some n) e = inv
    yield_keeps p a None e =
        let e1 = need_none (fit k s) Sizes _ e in
        let e2 = need_none (legal_here k s) Illegal _ e1.1 in
        let e3 = need_none (is_open s.ledger) LedgerClosed _ e2.1 in
        let e4 = need_none (leb k.cells (length s.home)) HomeTooSmall _ e3.1 in
        let e5 = need_none (counts_low s.ledger) CountTooHigh _ e4.1 in
        let e6 = need_none (ltb p k.parties) NoSuchParty _ e5.1 in
        yield_by_keeps p a (ltb-true p k.parties e6.0) (own_line k s p a) refl

  -- settle
  emptied_keeps : (s : State V P R) (b : Reference V P) → K s b → (i : ℕ) → i < k.parties * k.ways → ((j : ℕ) → j < i → is_held (line s j) ≡ false) → (x : Bool) → is_held (line s i) ≡ x
      → K (emptied k x s i) b × ((j : ℕ) → j < suc i → is_held (line (emptied k x s i) j) ≡ false)
  emptied_keeps s b inv i low done false e = (inv, λ j h. ⊎_elim (λ (z : j ≡ i). subst (λ t. is_held (line s t) ≡ false) (sym z) e) (λ (z : j ≡ i → ⊥). done j (omega arith)) (cases_eq j i))
  emptied_keeps s b inv i low done true e = (
    kept.send s b inv i (yield_more s.ledger) s.rule low e (record { status = refl; hits = refl; grants = refl; more = omega arith }),
    λ j h. set_all (λ t l. t < suc i → is_held l ≡ false) s.lines i Invalid Invalid (omega (arith, (kept.tabled s b inv).lines_length)) (λ _. refl) (λ t n z. done t (omega arith)) j h,
  )

  all_sent_keeps : (n i : ℕ) (s : State V P R) (b : Reference V P) → K s b → i + n ≡ k.parties * k.ways → ((j : ℕ) → j < i → is_held (line s j) ≡ false)
      → K (all_sent k i n s) b × ((j : ℕ) → j < k.parties * k.ways → is_held (line (all_sent k i n s) j) ≡ false)
  all_sent_keeps zero i s b inv e done = (inv, λ j h. done j (omega arith))
  all_sent_keeps (suc n) i s b inv e done =
      let x = emptied_keeps s b inv i (omega arith) done (is_held (line s i)) refl in
      all_sent_keeps n (suc i) (emptied k (is_held (line s i)) s i) b x.0 (omega arith) x.1

  settle_keeps : (s : State V P R) (b : Reference V P) → K s b → (x : Option Refusal) → After b Settle (settle_if k x s)
  settle_keeps s b inv (Some n) = inv
  settle_keeps s b inv None =
      let x = all_sent_keeps (k.parties * k.ways) 0 s b inv (omega arith) (λ j h. absurd (omega arith)) in
      kept.close (all_sent k 0 (k.parties * k.ways) s) b x.0
      (everywhere (λ l. is_held l ≡ false) (all_sent k 0 (k.parties * k.ways) s).lines (k.parties * k.ways) (kept.tabled (all_sent k 0 (k.parties * k.ways) s) b x.0).lines_length refl x.1)

  pub step_keeps : (s : State V P R) (b : Reference V P) → K s b → (c : Call V P) → After b c (step k s c)
  step_keeps s b inv (Post p r) = post_keeps s b inv p r (post_refusal k s p r) refl
  step_keeps s b inv (Advance a) = advance_keeps s b inv a (advance_refusal k s a) refl
  step_keeps s b inv (Collect p) = collect_keeps s b inv p (collect_refusal k s p) refl
  step_keeps s b inv (Yield p a) = yield_keeps s b inv p a (yield_refusal k s p a) refl
  step_keeps s b inv Settle = settle_keeps s b inv (settle_refusal k s)

  pub taken_keeps : (s : State V P R) (b : Reference V P) → K s b → (c : Call V P) → After b c (taken k s c)
  taken_keeps s b inv c = subst (After b c) (sym (taken_is k s (kept.tabled s b inv) c)) (step_keeps s b inv c)
