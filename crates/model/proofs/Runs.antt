-- Whole runs: the invariant from the making on, reads, and the settled home
use Rattle.std.proofs.Common.{◌≡◌, ℕ, zero, suc, ◌-◌, ◌*◌, ◌<◌, ◌≤◌, Bool, true, false, ◌&&◌, ltb, leb, List, [], ◌∷◌, ◌++◌, length, get_or, replicate, Some, None, Option, sym, refl, ap, ◌∙◌, subst, arith}
use Rattle.std.proofs.lemmas.List.{length-replicate}
use Rattle.std.proofs.lemmas.Bool.{and_parts, both_ways, leb-true, ltb-true}
use Rattle.std.specs.Option.{option_map}
use Rattle.operation.specs.Algebra.{Algebra, Lawful}
use Rattle.party_set.proofs.Holders.{has_nobody}
use Rattle.tables.proofs.Tests.{no}
use Rattle.tables.specs.Legal.{blank}
use Rattle.tables.specs.Lines.{cell_of, is_held, is_of, target}
use Rattle.tables.specs.declared.line.Line.{Line}
use Rattle.tables.specs.declared.line.Line.TheVariants.{Invalid}
use Rattle.tables.specs.declared.refusal.Refusal.{Refusal}
use Rattle.tables.specs.declared.refusal.Refusal.TheVariants.{CountTooHigh, HomeTooSmall, Illegal, LedgerClosed, NoSuchCell, NoSuchParty, Sizes}
use Rattle.tables.specs.declared.register.Register.{Register}
use Rattle.tables.specs.declared.register.Register.TheVariants.{Answered, Empty, Waiting}
use Rattle.tables.specs.declared.request.Request.{Request}
use Rattle.tables.specs.declared.request.Request.TheVariants.{Read, Update, Write}
use Rattle.model.proofs.Basics.{need_none, put_other}
use Rattle.model.proofs.Coherence.{Good, Pair}
use Rattle.model.proofs.Effects.{owned_unheld, part_unheld}
use Rattle.model.proofs.Inv.{Desk, Inv}
use Rattle.model.proofs.Kept.{inv_closed, taken_is, taken_keeps}
use Rattle.model.proofs.Sums.{held_none, part, pend, pend_none}
use Rattle.model.proofs.Tabled.{Limits, Listed, Seated, Turned}
use Rattle.model.specs.Bench.{Bench, Sound, State, held_count, line, lookup, register}
use Rattle.model.specs.Laws.{Coherent, Counted, Event, accepted}
use Rattle.model.specs.Reference.{refused, hit, queued, granted, other, Outcome, Reference, at_making, finish_waiting, observed, outcome, remembered, written}
use Rattle.model.specs.Steps.{advance_if, collect_by, collect_if, collect_refusal, events, final, fit, legal_here, made, make_refusal, need, own_hit, post_by, post_if, post_refusal, settle_if, settle_refusal, sized, step, taken, yield_if}
use Rattle.model.specs.declared.answer.Answer.{Answer}
use Rattle.model.specs.declared.answer.Answer.TheVariants.{Collected}
use Rattle.model.specs.declared.call.Call.{Call}
use Rattle.model.specs.declared.call.Call.TheVariants.{Advance, Collect, Post, Settle, Yield}
use Rattle.party_set.proofs.Searches.{no_some, some_same}
use Rattle.tables.specs.Ledgers.{counts_low, is_open}

pub replicate_all : {X : Type 0} (Q : X → Type 0) (x d : X) → Q x → Q d → (n i : ℕ) → Q (get_or (replicate n x) i d)
replicate_all Q x d here past zero i = past
replicate_all Q x d here past (suc n) zero = here
replicate_all Q x d here past (suc n) (suc i) = replicate_all Q x d here past n i

pub still_all : {V P : Type 0} (o : Algebra V P) → Lawful o → (y : P) → y ≡ o.neutral → (u : Option V) → option_map (λ v. o.act v y) u ≡ u
still_all o law y e None = refl
still_all o law y e (Some v) = ap Some (ap (o.act v) e ∙ law.still v)

-- a request changes no other cell
pub written_other : {V P : Type 0} (act : V → P → V) (r : Request V P) (f : ℕ → Option V) (a : ℕ) → (a ≡ target r → ⊥) → written act r f a ≡ f a
written_other act (Read b) f a n = refl
written_other act (Write b v) f a n = put_other f b (Some v) a n
written_other act (Update b d) f a n = put_other f b (option_map (λ v. act v d) (f b)) a n

module _ {V P R : Type 0} (k : Bench V P R) where
  -- nothing happens once the ledger is closed
  shut_refusal : (x y z : Bool) (o : Option Refusal) → z ≡ false → (n : Refusal) × (need x Sizes (need y Illegal (need z LedgerClosed o)) ≡ Some n)
  shut_refusal true true z o e = (LedgerClosed, ap (λ y. need y LedgerClosed o) e)
  shut_refusal true false z o e = (Illegal, refl)
  shut_refusal false y z o e = (Sizes, refl)

  shut_step : (s : State V P R) (c : Call V P) → is_open s.ledger ≡ false → (step k s c).0 ≡ s
  shut_step s (Post p r) h = let f = shut_refusal (fit k s) (legal_here k s) (is_open s.ledger) _ h in ap (λ z. (post_if k z s p r).0) f.1
  shut_step s (Advance a) h = let f = shut_refusal (fit k s) (legal_here k s) (is_open s.ledger) _ h in ap (λ z. (advance_if k z s a).0) f.1
  shut_step s (Collect p) h = let f = shut_refusal (fit k s) (legal_here k s) (is_open s.ledger) _ h in ap (λ z. (collect_if k z s p).0) f.1
  shut_step s (Yield p a) h = let f = shut_refusal (fit k s) (legal_here k s) (is_open s.ledger) _ h in ap (λ z. (yield_if k z s p a).0) f.1
  shut_step s Settle h = let f = shut_refusal (fit k s) (legal_here k s) (is_open s.ledger) _ h in ap (λ z. (settle_if k z s).0) f.1

module _ {V P R : Type 0} (k : Bench V P R) (sound : Sound k) where
  pub fit_limits : (s : State V P R) → fit k s ≡ true → Limits k
  fit_limits s e =
      let f6 = and_parts (leb 1 k.parties && leb k.parties 16 && leb 1 k.cells && leb k.cells 256 && leb 1 k.ways && leb k.ways 8) _ e in
      let f5 = and_parts (leb 1 k.parties && leb k.parties 16 && leb 1 k.cells && leb k.cells 256 && leb 1 k.ways) (leb k.ways 8) f6.0 in
      let f4 = and_parts (leb 1 k.parties && leb k.parties 16 && leb 1 k.cells && leb k.cells 256) (leb 1 k.ways) f5.0 in
      let f3 = and_parts (leb 1 k.parties && leb k.parties 16 && leb 1 k.cells) (leb k.cells 256) f4.0 in
      let f2 = and_parts (leb 1 k.parties && leb k.parties 16) (leb 1 k.cells) f3.0 in
      let f1 = and_parts (leb 1 k.parties) (leb k.parties 16) f2.0 in
      record { parties_low = leb-true 1 k.parties f1.0; parties_high = leb-true k.parties 16 f1.1; cells_low = leb-true 1 k.cells f2.1; cells_high = leb-true k.cells 256 f3.1; ways_low = leb-true 1 k.ways f4.1; ways_high = leb-true k.ways 8 f5.1 }

  pub made_inv : (h : State V P R) → make_refusal k h ≡ None → Inv k (made k h) (at_making h.home)
  made_inv h e = record {
    tabled = record {
      limits = lim;
      lines_length = length-replicate (k.parties * k.ways) Invalid;
      directory_length = length-replicate k.cells (blank (k.parties - 1));
      registers_length = length-replicate k.parties Empty;
      apart = λ i j n. subst (λ l. Pair k.ways i j l (get_or ls j Invalid)) (sym (all-invalid i)) (λ a x y. absurd (no x));
      within = λ i. subst (λ l. is_held l ≡ true → cell_of l < k.cells) (sym (all-invalid i)) (λ h. absurd (no h));
      seated = λ p. subst (λ z. Seated k.ways k.cells ls p z) (sym (every-empty p)) tt;
      turns = λ a. replicate_all (λ x. Turned rs k.parties a x.turn) (blank (k.parties - 1)) (blank 0) tt tt k.cells a;
      lasts = λ a. replicate_all (λ x. x.last < k.parties) (blank (k.parties - 1)) (blank 0) (omega (arith, lim.parties_low)) lim.parties_low k.cells a;
      listed = λ a. replicate_all (λ x. Listed k.ways ls a x) (blank (k.parties - 1)) (blank 0) (listed-blank a (k.parties - 1)) (listed-blank a 0) k.cells a;
    };
    home_length = leb-true k.cells (length h.home) e4.0;
    values = record {
      good = λ i. subst (λ l. Good h.home (lookup h.home) l) (sym (all-invalid i)) tt;
      sums = λ a none. sym (still_all k.op sound.lawful (pend k.op a ls) (pend_none k.op sound.lawful a ls (λ i. ap (part k.op a) (all-invalid i))) (lookup h.home a));
    };
    desks = λ p. subst (λ z. Desk z None None) (sym (every-empty p)) (refl, refl);
    closed = λ z. absurd (both_ways true z refl);
    requests = refl;
    granted = omega (arith, held_none ls (λ i. ap is_held (all-invalid i)));
  }
    where
      ls : List (Line V P)
      ls = replicate (k.parties * k.ways) Invalid

      all-invalid : (i : ℕ) → get_or ls i Invalid ≡ Invalid
      all-invalid i = replicate_all (λ x. x ≡ Invalid) Invalid Invalid refl refl (k.parties * k.ways) i

      rs : List (Register V P)
      rs = replicate k.parties Empty

      every-empty : (i : ℕ) → get_or rs i Empty ≡ Empty
      every-empty i = replicate_all (λ x. x ≡ Empty) Empty Empty refl refl k.parties i

      listed-blank : (a n : ℕ) → Listed k.ways ls a (blank n)
      listed-blank a n = record {
        from = λ q h. absurd (both_ways _ (has_nobody q) h);
        into = λ q i o h. absurd (no (sym (ap (is_of a) (all-invalid i)) ∙ h));
        phased = λ i h. absurd (no (sym (ap (is_of a) (all-invalid i)) ∙ h));
        free = λ _. refl;
        unheld = λ _. refl;
      }

      e1 : (fit k h ≡ true) × (need (leb k.cells (length h.home)) HomeTooSmall None ≡ None)
      e1 = need_none (fit k h) Sizes (need (leb k.cells (length h.home)) HomeTooSmall None) e

      lim : Limits k
      lim = fit_limits h e1.0

      e4 : (leb k.cells (length h.home) ≡ true) × (◌≡◌ {A = Option Refusal} None None)
      e4 = need_none (leb k.cells (length h.home)) HomeTooSmall None e1.1

  pub run_keeps : (cs : List (Call V P)) (s : State V P R) (b : Reference V P) → Inv k s b → Inv k (final k s cs) (remembered k.op.act b (events k s cs))
  run_keeps [] s b inv = inv
  run_keeps (c ∷ cs) s b inv = run_keeps cs (taken k s c).0 (observed k.op.act b c (outcome (taken k s c).1)) (taken_keeps k sound (Inv k) (inv_closed k sound) s b inv c)

  -- the state between two parts of a run
  pub record Between (before : List (Event V P)) (rest : List (Event V P)) (b : Reference V P) (end : State V P R) : Type 0 where
    pub here : State V P R
    pub calls : List (Call V P)
    pub holds : Inv k here (remembered k.op.act b before)
    pub goes : events k here calls ≡ rest
    pub ends : final k here calls ≡ end

  pub head_same : (x y : Event V P) (xs ys : List (Event V P)) → ◌≡◌ {A = List (Event V P)} (x ∷ xs) (y ∷ ys) → x ≡ y
  head_same x y xs ys e = cc

  pub tail_same : (x y : Event V P) (xs ys : List (Event V P)) → ◌≡◌ {A = List (Event V P)} (x ∷ xs) (y ∷ ys) → xs ≡ ys
  tail_same x y xs ys e = cc

  pub none_there : (y : Event V P) (ys : List (Event V P)) → ◌≡◌ {A = List (Event V P)} [] (y ∷ ys) → ⊥
  none_there y ys e = let z : ◌≡◌ {A = ℕ} 0 1 = cc in omega arith

  pub split : (before rest : List (Event V P)) (cs : List (Call V P)) (s : State V P R) (b : Reference V P) → Inv k s b → events k s cs ≡ before ++ rest → Between before rest b (final k s cs)
  split [] rest cs s b inv e = record { here = s; calls = cs; holds = inv; goes = e; ends = refl }
  split (x ∷ before) rest [] s b inv e = absurd (none_there x (before ++ rest) e)
  split (x ∷ before) rest (c ∷ cs) s b inv e =
      let h : (c, (taken k s c).1) ≡ x = head_same (c, (taken k s c).1) x (events k (taken k s c).0 cs) (before ++ rest) e in
      let t : events k (taken k s c).0 cs ≡ before ++ rest = tail_same (c, (taken k s c).1) x (events k (taken k s c).0 cs) (before ++ rest) e in
      let m : Between before rest (observed k.op.act b c (outcome (taken k s c).1)) (final k (taken k s c).0 cs) = split before rest cs (taken k s c).0 (observed k.op.act b c (outcome (taken k s c).1)) (taken_keeps k sound (Inv k) (inv_closed k sound) s b inv c) t in
      record { here = m.here; calls = m.calls; holds = subst (λ z. Inv k m.here (remembered k.op.act (observed k.op.act b z.0 (outcome z.1)) before)) h m.holds; goes = m.goes; ends = m.ends }

  -- an accepted collect answers the note
  collect_by_answers : (s : State V P R) (b : Reference V P) → Inv k s b → (p : ℕ) (x : Register V P) → register s p ≡ x → accepted (collect_by k x s p).1 ≡ true → (o : Option V) × (b.note p ≡ Some o) × ((collect_by k x s p).1 ≡ Collected o)
  collect_by_answers s b inv p Empty e h = absurd (no h)
  collect_by_answers s b inv p (Waiting r) e h = absurd (no h)
  collect_by_answers s b inv p (Answered v) e h =
      let d : (b.waiting p ≡ None) × (b.note p ≡ Some v) = subst (λ z. Desk z (b.waiting p) (b.note p)) e (inv.desks p) in
      (v, d.1, refl)

  collect_answers : (s : State V P R) (b : Reference V P) → Inv k s b → (p : ℕ) (x : Option Refusal) → accepted (collect_if k x s p).1 ≡ true → (o : Option V) × (b.note p ≡ Some o) × ((collect_if k x s p).1 ≡ Collected o)
  collect_answers s b inv p (Some n) h = absurd (no h)
  collect_answers s b inv p None h = collect_by_answers s b inv p (register s p) refl h

  pub run_reads : (before after : List (Event V P)) (p : ℕ) (x : Answer V) (b : Reference V P) (end : State V P R) → Between before ((Collect p, x) ∷ after) b end → accepted x ≡ true
      → (o : Option V) × ((remembered k.op.act b before).note p ≡ Some o) × (x ≡ Collected o)
  run_reads before after p x b end m h = go m.calls m.goes
    where
      go : (cs : List (Call V P)) → events k m.here cs ≡ (Collect p, x) ∷ after → (o : Option V) × ((remembered k.op.act b before).note p ≡ Some o) × (x ≡ Collected o)
      go [] e = absurd (none_there (Collect p, x) after e)
      go (c ∷ cs) e =
          let t : (c, (taken k m.here c).1) ≡ (Collect p, x) = head_same (c, (taken k m.here c).1) (Collect p, x) (events k (taken k m.here c).0 cs) after e in
          let same : (step k m.here (Collect p)).1 ≡ x = ap (λ z. z.1) (sym (taken_is k m.here m.holds.tabled (Collect p))) ∙ subst (λ z. (taken k m.here z).1 ≡ x) (ap (λ z. z.0) t) (ap (λ z. z.1) t) in
          subst (λ y. (o : Option V) × ((remembered k.op.act b before).note p ≡ Some o) × (y ≡ Collected o)) same
          (collect_answers m.here (remembered k.op.act b before) m.holds p (collect_refusal k m.here p) (subst (λ y. accepted y ≡ true) (sym same) h))

  shut_stays : (cs : List (Call V P)) (s : State V P R) → is_open s.ledger ≡ false → is_open (final k s cs).ledger ≡ false
  shut_stays [] s h = h
  shut_stays (c ∷ cs) s h = shut_stays cs (taken k s c).0 (ap (λ z. is_open z.ledger) (shut_step (sized k s) s c h) ∙ h)

  settle_shuts : (s : State V P R) (x : Option Refusal) → accepted (settle_if k x s).1 ≡ true → is_open (settle_if k x s).0.ledger ≡ false
  settle_shuts s (Some n) h = absurd (no h)
  settle_shuts s None h = refl

  pub run_settles : (before after : List (Event V P)) (x : Answer V) (b : Reference V P) (end : State V P R) → Between before ((Settle, x) ∷ after) b end → accepted x ≡ true → is_open end.ledger ≡ false
  run_settles before after x b end m h = go m.calls m.goes m.ends
    where
      go : (cs : List (Call V P)) → events k m.here cs ≡ (Settle, x) ∷ after → final k m.here cs ≡ end → is_open end.ledger ≡ false
      go [] e f = absurd (none_there (Settle, x) after e)
      go (c ∷ cs) e f =
          let t : (c, (taken k m.here c).1) ≡ (Settle, x) = head_same (c, (taken k m.here c).1) (Settle, x) (events k (taken k m.here c).0 cs) after e in
          let same : (step k m.here Settle).1 ≡ x = ap (λ z. z.1) (sym (taken_is k m.here m.holds.tabled Settle)) ∙ subst (λ z. (taken k m.here z).1 ≡ x) (ap (λ z. z.0) t) (ap (λ z. z.1) t) in
          let off : is_open (taken k m.here c).0.ledger ≡ false = subst (λ z. is_open (taken k m.here z).0.ledger ≡ false) (sym (ap (λ z. z.0) t)) (ap (λ z. is_open z.0.ledger) (taken_is k m.here m.holds.tabled Settle) ∙ settle_shuts m.here (settle_refusal k m.here) (subst (λ y. accepted y ≡ true) (sym same) h)) in
          ap (λ z. is_open z.ledger) (sym f) ∙ shut_stays cs (taken k m.here c).0 off

  -- with no line held the home has the book's values
  pub settled_home : (s : State V P R) (b : Reference V P) → Inv k s b → is_open s.ledger ≡ false → (a : ℕ) → lookup s.home a ≡ b.value a
  settled_home s b inv h a =
      sym (inv.values.sums a (λ i. owned_unheld a (line s i) (inv.closed h i))
      ∙ still_all k.op sound.lawful (pend k.op a s.lines) (pend_none k.op sound.lawful a s.lines (λ i. part_unheld k.op a (line s i) (inv.closed h i))) (lookup s.home a))

  -- a cell from n on keeps its value: no request for one is ever accepted
  spared_post : (s : State V P R) (b : Reference V P) → Inv k s b → (p : ℕ) (r : Request V P) (x : Option Refusal) → post_refusal k s p r ≡ x → (a : ℕ) → k.cells ≤ a
      → (observed k.op.act b (Post p r) (outcome (post_if k x s p r).1)).value a ≡ b.value a
  spared_post s b inv p r (Some n) e a high = refl
  spared_post s b inv p r None e a high = go (own_hit k s p r)
    where
      low : target r < k.cells
      low =
          let e1 = need_none (fit k s) Sizes _ e in
          let e2 = need_none (legal_here k s) Illegal _ e1.1 in
          let e3 = need_none (is_open s.ledger) LedgerClosed _ e2.1 in
          let e5 = need_none (counts_low s.ledger) CountTooHigh _ e3.1 in
          let e6 = need_none (ltb p k.parties) NoSuchParty _ e5.1 in
          let e7 = need_none (ltb (target r) k.cells) NoSuchCell _ e6.1 in
          ltb-true (target r) k.cells e7.0

      go : (x : Option ℕ) → (observed k.op.act b (Post p r) (outcome (post_by k x s p r).1)).value a ≡ b.value a
      go None = refl
      go (Some i) = written_other k.op.act r b.value a (λ z. omega (arith, low))

  spared_grant : (s : State V P R) (b : Reference V P) → Inv k s b → (q a : ℕ) → k.cells ≤ a → (finish_waiting k.op.act b q (b.waiting q)).value a ≡ b.value a
  spared_grant s b inv q a high = go (register s q) refl (b.waiting q) refl
    where
      go : (x : Register V P) → register s q ≡ x → (u : Option (Request V P)) → b.waiting q ≡ u → (finish_waiting k.op.act b q u).value a ≡ b.value a
      go x e None f = refl
      go Empty e (Some r) f = absurd (no_some (sym (subst (λ z. Desk z (b.waiting q) (b.note q)) e (inv.desks q)).0 ∙ f))
      go (Waiting y) e (Some r) f =
          let same : y ≡ r = some_same (sym (subst (λ z. Desk z (b.waiting q) (b.note q)) e (inv.desks q)).0 ∙ f) in
          let low : target y < k.cells = (subst (λ z. Seated k.ways k.cells s.lines q z) e (inv.tabled.seated q)).0 in
          written_other k.op.act r b.value a (λ z. omega (arith, low, ap target same))
      go (Answered v) e (Some r) f = absurd (no_some (sym (subst (λ z. Desk z (b.waiting q) (b.note q)) e (inv.desks q)).0 ∙ f))

  spared : (s : State V P R) (b : Reference V P) → Inv k s b → (c : Call V P) (a : ℕ) → k.cells ≤ a → (observed k.op.act b c (outcome (step k s c).1)).value a ≡ b.value a
  spared s b inv (Post p r) a high = spared_post s b inv p r (post_refusal k s p r) refl a high
  spared s b inv (Advance c) a high = go (outcome (step k s (Advance c)).1)
    where
      go : (w : Outcome) → (observed k.op.act b (Advance c) w).value a ≡ b.value a
      go refused = refl
      go hit = refl
      go queued = refl
      go (granted q) = spared_grant s b inv q a high
      go other = refl
  spared s b inv (Collect p) a high = go (outcome (step k s (Collect p)).1)
    where
      go : (w : Outcome) → (observed k.op.act b (Collect p) w).value a ≡ b.value a
      go refused = refl
      go hit = refl
      go queued = refl
      go (granted q) = refl
      go other = refl
  spared s b inv (Yield p c) a high = refl
  spared s b inv Settle a high = refl

  run_spares : (cs : List (Call V P)) (s : State V P R) (b : Reference V P) → Inv k s b → (a : ℕ) → k.cells ≤ a → (remembered k.op.act b (events k s cs)).value a ≡ b.value a
  run_spares [] s b inv a high = refl
  run_spares (c ∷ cs) s b inv a high =
      run_spares cs (taken k s c).0 (observed k.op.act b c (outcome (taken k s c).1)) (taken_keeps k sound (Inv k) (inv_closed k sound) s b inv c) a high
      ∙ ap (λ z. (observed k.op.act b c (outcome z.1)).value a) (taken_is k s inv.tabled c)
      ∙ spared s b inv c a high

  module _ (h₀ : State V P R) (ok : make_refusal k h₀ ≡ None) (cs : List (Call V P)) where
    abbrev start : Reference V P
    start = at_making h₀.home

    abbrev run : List (Event V P)
    run = events k (made k h₀) cs

    abbrev end : State V P R
    end = final k (made k h₀) cs

    settled_at : (front back : List (Event V P)) (x : Answer V) → run ≡ front ++ ((Settle, x) ∷ back) → accepted x ≡ true → (a : ℕ) → lookup end.home a ≡ (remembered k.op.act start run).value a
    settled_at front back x e h = settled_home end (remembered k.op.act start run) (run_keeps cs (made k h₀) start (made_inv h₀ ok))
        (run_settles front back x start end (split front ((Settle, x) ∷ back) cs (made k h₀) start (made_inv h₀ ok) e) h)

    pub coherent_run : Coherent k.op.act k.cells run h₀.home end.home
    coherent_run = record {
      reads = λ front back p x e h. run_reads front back p x start end (split front ((Collect p, x) ∷ back) cs (made k h₀) start (made_inv h₀ ok) e) h;
      settles = λ front back x e h a low. settled_at front back x e h a;
      spares = λ front back x e h a high. settled_at front back x e h a ∙ run_spares cs (made k h₀) start (made_inv h₀ ok) a high;
    }

    pub counted_run : Counted (remembered k.op.act start run).finished (held_count end.lines) end.ledger
    counted_run =
        let inv = run_keeps cs (made k h₀) start (made_inv h₀ ok) in
        record { requests = inv.requests; granted = inv.granted }
