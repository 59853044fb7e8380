-- Which refusals a run can meet
use Rattle.std.proofs.Common.{◌≡◌, ℕ, ◌<◌, Bool, true, false, ltb, leb, List, [], ◌∷◌, length, Some, None, Option, sym, refl, ap, ◌∙◌, subst, arith}
use Rattle.std.proofs.lemmas.Bool.{and_from, eq-eqb, le-leb, ltb-true}
use Rattle.tables.proofs.Legality.{legal_true}
use Rattle.tables.proofs.Tests.{no}
use Rattle.tables.specs.Lines.{is_empty, target, waits_for}
use Rattle.tables.specs.Refusals.{number_of}
use Rattle.tables.specs.declared.line.Line.{Line}
use Rattle.tables.specs.declared.refusal.Refusal.{Refusal}
use Rattle.tables.specs.declared.refusal.Refusal.TheVariants.{CountTooHigh, HomeTooSmall, Illegal, LedgerClosed, NoSuchCell, NoSuchParty, RegisterInUse, Sizes, Unfinished}
use Rattle.tables.specs.declared.register.Register.{Register}
use Rattle.tables.specs.declared.register.Register.TheVariants.{Answered, Empty, Waiting}
use Rattle.tables.specs.declared.request.Request.{Request}
use Rattle.tables.specs.declared.request.Request.TheVariants.{Read, Update, Write}
use Rattle.model.proofs.Basics.{lookup_some, need_none}
use Rattle.model.proofs.Inv.{Inv}
use Rattle.model.proofs.Kept.{taken_is, whose_waits}
use Rattle.model.proofs.Legality.{tabled_legal}
use Rattle.model.proofs.Runs.{Between, head_same, made_inv, none_there, split}
use Rattle.model.specs.Bench.{Bench, Sound, State, all_empty, entry, granted_line, lookup, register}
use Rattle.model.specs.Laws.{Possible, Undamaged}
use Rattle.model.specs.Reference.{Reference, at_making, remembered}
use Rattle.model.specs.Steps.{advance_for, advance_if, advance_refusal, collect_by, collect_if, collect_refusal, conflict, events, final, fit, granting, legal_here, made, make_refusal, need, own_hit, own_line, post_by, post_if, post_refusal, recalling, rooming, serving, settle_if, settle_refusal, step, taken, vacant, whose, yield_by, yield_if, yield_refusal}
use Rattle.model.specs.declared.answer.Answer.{Answer}
use Rattle.model.specs.declared.answer.Answer.TheVariants.{Refused}
use Rattle.model.specs.declared.call.Call.{Call}
use Rattle.model.specs.declared.call.Call.TheVariants.{Advance, Collect, Post, Settle, Yield}
use Rattle.party_set.proofs.Searches.{no_some, some_no, some_same}
use Rattle.tables.specs.Ledgers.{counts_low, is_open}

abbrev Harmless : Refusal → Type 0
Harmless n = Possible (number_of n)

past : (b : Bool) (n : Refusal) (o : Option Refusal) (m : Refusal) → b ≡ true → need b n o ≡ Some m → o ≡ Some m
past true n o m e h = h
past false n o m e h = absurd (no e)

either : (b : Bool) (n : Refusal) (o : Option Refusal) (m : Refusal) → Harmless n → (o ≡ Some m → Harmless m) → need b n o ≡ Some m → Harmless m
either true n o m f g h = g h
either false n o m f g h = subst (λ z. Possible (number_of z)) (some_same h) f

last : (m : Refusal) → None ≡ Some m → Harmless m
last m h = absurd (no_some h)

refused_same : {V : Type 0} {m n : Refusal} → ◌≡◌ {A = Answer V} (Refused m) (Refused n) → m ≡ n
refused_same e = cc

module _ {V P R : Type 0} (k : Bench V P R) (sound : Sound k) where
  module _ (s : State V P R) (b : Reference V P) (inv : Inv k s b) where
    fit_true : fit k s ≡ true
    fit_true =
        and_from _ _ (and_from _ _ (and_from _ _ (and_from _ _ (and_from _ _ (and_from _ _ (le-leb 1 k.parties inv.tabled.limits.parties_low) (le-leb k.parties 16 inv.tabled.limits.parties_high)) (le-leb 1 k.cells inv.tabled.limits.cells_low)) (le-leb k.cells 256 inv.tabled.limits.cells_high)) (le-leb 1 k.ways inv.tabled.limits.ways_low)) (le-leb k.ways 8 inv.tabled.limits.ways_high)) (eq-eqb _ _ inv.tabled.lines_length)

    legal_now : legal_here k s ≡ true
    legal_now = legal_true k.ways s.lines s.directory s.registers (tabled_legal k s inv.tabled)

    home_here : leb k.cells (length s.home) ≡ true
    home_here = le-leb _ _ inv.home_length

    -- past the checks that always pass
    entered : (o : Option Refusal) (m : Refusal) → need (fit k s) Sizes (need (legal_here k s) Illegal o) ≡ Some m → o ≡ Some m
    entered o m h = past (legal_here k s) Illegal o m legal_now (past (fit k s) Sizes (need (legal_here k s) Illegal o) m fit_true h)

    post_fine : (p : ℕ) (r : Request V P) (x : Option Refusal) (n : Refusal) → post_refusal k s p r ≡ x → (post_if k x s p r).1 ≡ Refused n → Harmless n
    post_fine p r (Some m) n e h =
        subst (λ z. Possible (number_of z)) (refused_same h) (either (is_open s.ledger) LedgerClosed _ m (omega arith) (either (counts_low s.ledger) CountTooHigh _ m (omega arith) (either (ltb p k.parties) NoSuchParty _ m (omega arith) (either (ltb (target r) k.cells) NoSuchCell _ m (omega arith) (either (is_empty (register s p)) RegisterInUse None m (omega arith) (last m))))) (entered _ m e))
    post_fine p r None n e h = go (own_hit k s p r) h
      where
        go : (x : Option ℕ) → (post_by k x s p r).1 ≡ Refused n → Harmless n
        go None g = absurd (let z : ◌≡◌ {A = ℕ} 0 1 = cc in omega arith)
        go (Some i) g = absurd (let z : ◌≡◌ {A = ℕ} 0 1 = cc in omega arith)

    collect_fine : (p : ℕ) (x : Option Refusal) (n : Refusal) → collect_refusal k s p ≡ x → (collect_if k x s p).1 ≡ Refused n → Harmless n
    collect_fine p (Some m) n e h = subst (λ z. Possible (number_of z)) (refused_same h) (either (is_open s.ledger) LedgerClosed _ m (omega arith) (either (ltb p k.parties) NoSuchParty None m (omega arith) (last m)) (entered _ m e))
    collect_fine p None n e h = go (register s p) h
      where
        go : (x : Register V P) → (collect_by k x s p).1 ≡ Refused n → Harmless n
        go Empty g = subst (λ z. Possible (number_of z)) (refused_same g) (omega arith)
        go (Waiting r) g = subst (λ z. Possible (number_of z)) (refused_same g) (omega arith)
        go (Answered v) g = absurd (let z : ◌≡◌ {A = ℕ} 0 1 = cc in omega arith)

    yield_fine : (p a : ℕ) (x : Option Refusal) (n : Refusal) → yield_refusal k s p a ≡ x → (yield_if k x s p a).1 ≡ Refused n → Harmless n
    yield_fine p a (Some m) n e h =
        subst (λ z. Possible (number_of z)) (refused_same h) (either (is_open s.ledger) LedgerClosed _ m (omega arith) (λ g. either (counts_low s.ledger) CountTooHigh _ m (omega arith) (either (ltb p k.parties) NoSuchParty _ m (omega arith) (either (ltb a k.cells) NoSuchCell None m (omega arith) (last m))) (past (leb k.cells (length s.home)) HomeTooSmall _ m home_here g)) (entered _ m e))
    yield_fine p a None n e h = go (own_line k s p a) h
      where
        go : (x : Option ℕ) → (yield_by k x s).1 ≡ Refused n → Harmless n
        go None g = subst (λ z. Possible (number_of z)) (refused_same g) (omega arith)
        go (Some i) g = absurd (let z : ◌≡◌ {A = ℕ} 0 1 = cc in omega arith)

    settle_fine : (x : Option Refusal) (n : Refusal) → settle_refusal k s ≡ x → (settle_if k x s).1 ≡ Refused n → Harmless n
    settle_fine (Some m) n e h =
        subst (λ z. Possible (number_of z)) (refused_same h) (either (is_open s.ledger) LedgerClosed _ m (omega arith) (λ g. either (counts_low s.ledger) CountTooHigh _ m (omega arith) (either (all_empty s.registers) Unfinished None m (omega arith) (last m)) (past (leb k.cells (length s.home)) HomeTooSmall _ m home_here g)) (entered _ m e))
    settle_fine None n e h = absurd (let z : ◌≡◌ {A = ℕ} 0 1 = cc in omega arith)

    given_some : (r : Request V P) (u : Option V) (v : V) → u ≡ Some v → granted_line k.op r u ≡ None → ⊥
    given_some (Read a) None v e h = no_some e
    given_some (Read a) (Some w) v e h = some_no h
    given_some (Write a w) u v e h = some_no h
    given_some (Update a d) u v e h = some_no h

    module _ (a : ℕ) (low : a < k.cells) (live : is_open s.ledger ≡ true) (n : Refusal) where
      recalling-fine : (q : ℕ) (r : Request V P) (x : Option ℕ) → (recalling k x s a q r).1 ≡ Refused n → Harmless n
      recalling-fine q r (Some i) h = absurd (let z : ◌≡◌ {A = ℕ} 0 1 = cc in omega arith)
      recalling-fine q r None h = room (vacant k s q) h
        where
          make : (i : ℕ) (y : Option (Line V P)) → granted_line k.op r (lookup s.home a) ≡ y → (granting k y s a q r i).1 ≡ Refused n → Harmless n
          make i None e g = let t = lookup_some s.home a (omega (arith, inv.home_length)) in absurd (given_some r (lookup s.home a) t.0 t.1 e)
          make i (Some l) e g = absurd (let z : ◌≡◌ {A = ℕ} 0 1 = cc in omega arith)

          room : (x : Option ℕ) → (rooming k x s a q r).1 ≡ Refused n → Harmless n
          room None g = absurd (let z : ◌≡◌ {A = ℕ} 0 1 = cc in omega arith)
          room (Some i) g = make i (granted_line k.op r (lookup s.home a)) refl g

      serving-fine : (q : ℕ) (x : Register V P) → waits_for a x ≡ true → (serving k x s a q).1 ≡ Refused n → Harmless n
      serving-fine q Empty e h = absurd (no e)
      serving-fine q (Waiting r) e h = recalling-fine q r (conflict k s r) h
      serving-fine q (Answered v) e h = absurd (no e)

      advance-for-fine : (x : Option ℕ) → whose k (entry s a).turn s a ≡ x → (advance_for k x s a).1 ≡ Refused n → Harmless n
      advance-for-fine None e h = absurd (let z : ◌≡◌ {A = ℕ} 0 1 = cc in omega arith)
      advance-for-fine (Some q) e h = serving-fine q (register s q) (whose_waits k s inv.tabled a (entry s a).turn q refl e).1 h

    advance_fine : (a : ℕ) (x : Option Refusal) (n : Refusal) → advance_refusal k s a ≡ x → (advance_if k x s a).1 ≡ Refused n → Harmless n
    advance_fine a (Some m) n e h =
        subst (λ z. Possible (number_of z)) (refused_same h) (either (is_open s.ledger) LedgerClosed _ m (omega arith) (λ g. either (counts_low s.ledger) CountTooHigh _ m (omega arith) (either (ltb a k.cells) NoSuchCell None m (omega arith) (last m)) (past (leb k.cells (length s.home)) HomeTooSmall _ m home_here g)) (entered _ m e))
    advance_fine a None n e h =
        let e1 = need_none (fit k s) Sizes _ e in
        let e2 = need_none (legal_here k s) Illegal _ e1.1 in
        let e3 = need_none (is_open s.ledger) LedgerClosed _ e2.1 in
        let e4 = need_none (leb k.cells (length s.home)) HomeTooSmall _ e3.1 in
        let e5 = need_none (counts_low s.ledger) CountTooHigh _ e4.1 in
        let e7 = need_none (ltb a k.cells) NoSuchCell None e5.1 in
        advance-for-fine a (ltb-true a k.cells e7.0) e3.0 n (whose k (entry s a).turn s a) refl h

    step_fine : (c : Call V P) (n : Refusal) → (step k s c).1 ≡ Refused n → Harmless n
    step_fine (Post p r) n h = post_fine p r (post_refusal k s p r) n refl h
    step_fine (Advance a) n h = advance_fine a (advance_refusal k s a) n refl h
    step_fine (Collect p) n h = collect_fine p (collect_refusal k s p) n refl h
    step_fine (Yield p a) n h = yield_fine p a (yield_refusal k s p a) n refl h
    step_fine Settle n h = settle_fine (settle_refusal k s) n refl h

  pub undamaged_run : (h₀ : State V P R) → make_refusal k h₀ ≡ None → (cs : List (Call V P)) → Undamaged (events k (made k h₀) cs)
  undamaged_run h₀ ok cs before after c n e = from (split k sound before ((c, Refused n) ∷ after) cs (made k h₀) (at_making h₀.home) (made_inv k sound h₀ ok) e)
    where
      from : Between k sound before ((c, Refused n) ∷ after) (at_making h₀.home) (final k (made k h₀) cs) → Harmless n
      from m = go m.calls m.goes
        where
          go : (ds : List (Call V P)) → events k m.here ds ≡ (c, Refused n) ∷ after → Harmless n
          go [] f = absurd (none_there k sound (c, Refused n) after f)
          go (d ∷ ds) f =
              let t : (d, (taken k m.here d).1) ≡ (c, Refused n) = head_same k sound (d, (taken k m.here d).1) (c, Refused n) (events k (taken k m.here d).0 ds) after f in
              step_fine m.here (remembered k.op.act (at_making h₀.home) before) m.holds d n (ap (λ z. z.1) (sym (taken_is k m.here m.holds.tabled d)) ∙ ap (λ z. z.1) t)
