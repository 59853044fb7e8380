-- Tables are legal exactly if the pass over the lines, the registers and the directory finds all of them right
use Rattle.std.proofs.Common.{◌≡◌, ℕ, ◌+◌, ◌*◌, ◌/◌, ◌%◌, ◌<◌, true, false, List, length, get_or, Some, None, Option, sym, refl, ap, ◌∙◌, subst, inl, inr, ⊎_elim, arith}
use Rattle.std.proofs.lemmas.Bool.{cases_order, cases_Bool, eqb-true, eq-eqb, ltb-true, lt-ltb, both_ways, and_from, and_parts}
use Rattle.std.proofs.lemmas.Nat.{div-add-mod', mul-add-lt, div-mul-add, div_below, mod_below}
use Rattle.tables.specs.declared.line.Line.{Line}
use Rattle.tables.specs.declared.line.Line.TheVariants.{Invalid}
use Rattle.tables.specs.declared.register.Register.{Register}
use Rattle.tables.specs.declared.register.Register.TheVariants.{Empty}
use Rattle.party_set.specs.declared.PartySet.{PartySet}
use Rattle.tables.specs.declared.entry.Phase.TheVariants as phase
use Rattle.tables.specs.declared.entry.Entry.{Entry}
use Rattle.party_set.specs.Sets.{has, nobody}
use Rattle.tables.specs.Lines.{is_held, cell_of, is_of, phase_of, waits_for}
use Rattle.tables.specs.Legal.{Legal, asks_within, misses}
use Rattle.tables.specs.Legal as spec
use Rattle.tables.proofs.Tests.{is_of_held, is_of_own, is_of_cell, misses_from, misses_at, asks_from, asks_at, unheld_missed, free_at, free_from}
use Rattle.party_set.proofs.Holders.{set_same}
use Rattle.audit.specs.Audit.{admits, turn_waits, free_right, entry_right}
use Rattle.audit.proofs.Pass.{Passed, admitted_next, one_found}

turn_from : {V P : Type 0} (registers : List (Register V P)) (a : ℕ) (t : Option ℕ) → ((q : ℕ) → t ≡ Some q → (q < length registers) × (waits_for a (get_or registers q Empty) ≡ true)) → turn_waits registers a t ≡ true
turn_from registers a None h = refl
turn_from registers a (Some q) h = and_from _ _ (lt-ltb q (length registers) (h q refl).0) (h q refl).1

turn_at : {V P : Type 0} (registers : List (Register V P)) (a : ℕ) (t : Option ℕ) → turn_waits registers a t ≡ true → (q : ℕ) → t ≡ Some q → (q < length registers) × (waits_for a (get_or registers q Empty) ≡ true)
turn_at registers a t h q e =
    let x = and_parts _ _ (subst (λ z. turn_waits registers a z ≡ true) e h) in
    (ltb-true q (length registers) x.0, x.1)

record EntryRight {V P : Type 0} (registers : List (Register V P)) (a : ℕ) (e : Entry) (found : PartySet) : Type 0 where
  last : e.last < length registers
  holders : e.holders ≡ found
  free : free_right e.phase e.holders ≡ true
  turn : turn_waits registers a e.turn ≡ true

entry_at : {V P : Type 0} (registers : List (Register V P)) (a : ℕ) (e : Entry) (found : PartySet) → entry_right registers a e found ≡ true → EntryRight registers a e found
entry_at registers a e found t =
    let x = and_parts _ _ t in
    let y = and_parts _ _ x.1 in
    let z = and_parts _ _ y.1 in
    let same_set : e.holders ≡ found = set_same e.holders found (eqb-true _ _ y.0) in
    record { last = ltb-true _ _ x.0; holders = same_set; free = subst (λ h. free_right e.phase h ≡ true) (sym same_set) z.0; turn = z.1 }

entry_from : {V P : Type 0} (registers : List (Register V P)) (a : ℕ) (e : Entry) (found : PartySet) → e.last < length registers → e.holders ≡ found → free_right e.phase e.holders ≡ true → turn_waits registers a e.turn ≡ true → entry_right registers a e found ≡ true
entry_from registers a e found l h f t = and_from _ _ (lt-ltb _ _ l) (and_from _ _ (eq-eqb _ _ (ap (λ s. s.members) h)) (and_from _ _ (subst (λ s. free_right e.phase s ≡ true) h f) t))

module _ {V P : Type 0} (ways : ℕ) (lines : List (Line V P)) (directory : List Entry) (registers : List (Register V P)) (some : 0 < ways) where
  abbrev parties : ℕ
  parties = length registers

  abbrev cells : ℕ
  cells = length directory

  abbrev line : ℕ → ℕ → Line V P
  line = spec.line ways lines directory registers

  abbrev place : ℕ → Line V P
  place k = get_or lines k Invalid

  abbrev entry : ℕ → Entry
  entry = spec.entry ways lines directory registers

  abbrev register : ℕ → Register V P
  register = spec.register ways lines directory registers

  abbrev holders : ℕ → PartySet
  holders a = (entry a).holders

  abbrev Statements : Type 0
  Statements = Legal ways lines directory registers

  abbrev All : (ℕ → PartySet) → Type 0
  All found = Passed ways lines directory registers found (parties * ways)

  at_line : (k : ℕ) → line (k / ways) (k % ways) ≡ place k
  at_line k = ap (λ i. get_or lines i Invalid) (div-add-mod' k ways)

  inside : (p w : ℕ) → p < parties → w < ways → p * ways + w < parties * ways
  inside p w l m = omega (arith, mul-add-lt p ways w parties l m)

  -- after the last party every line has passed
  pub all_passed : (found after : List PartySet) (p : ℕ) → after ≡ found → p ≡ parties → Passed ways lines directory registers (λ a. get_or found a nobody) (p * ways) → All (λ a. get_or after a nobody)
  all_passed found after p e z was = subst (λ f. All (λ a. get_or f a nobody)) (sym e) (subst (λ q. Passed ways lines directory registers (λ a. get_or found a nobody) (q * ways)) z was)

  -- legal tables pass, with the holders as the parties found
  pub legal_passed : Statements → All holders
  legal_passed ok = record {
    right = λ k l h.
        let held : is_held (line (k / ways) (k % ways)) ≡ true = subst (λ x. is_held x ≡ true) (sym (at_line k)) h in
        record {
          known = subst (λ x. cell_of x < cells) (at_line k) (ok.in_range.line_cells _ _ (party k l) (way k) held);
          in_phase = subst (λ x. phase_of x ≡ (entry (cell_of x)).phase) (at_line k) (ok.holders.in_phase _ _ _ (party k l) (way k) (is_of_own _ held));
          missed = subst (λ x. misses (register (k / ways)) x ≡ true) (at_line k) (misses_from (register (k / ways)) (line (k / ways) (k % ways)) (λ r. ok.nothing_hits _ _ r (party k l) (way k)));
        };
    listed = listed;
    has_line = λ a q l t.
        let low = ok.in_range.holder_parties a q l t in
        let x = ok.holders.has_line a q l low t in
        (q * ways + x.0, inside q x.0 low x.1, div-mul-add q ways x.0 x.1, x.2);
    apart = λ j k a l m s t o.
        let n : j < parties * ways = omega arith in
        let e : j / ways ≡ k / ways = ⊎_elim (λ e. e) (λ f. ok.phases.owner a _ _ (known k a m t) f (listed j a n s) (listed k a m t)) o in
        let w : j % ways ≡ k % ways = ok.single (k / ways) (j % ways) (k % ways) a (party k m) (way j) (way k) (subst (λ p. is_of a (line p (j % ways)) ≡ true) e (of j a s)) (of k a t) in
        omega (arith, div-add-mod' j ways, div-add-mod' k ways, ap (λ p. p * ways) e);
  }
    where
      party : (k : ℕ) → k < parties * ways → k / ways < parties
      party k l = div_below k ways parties some l

      way : (k : ℕ) → k % ways < ways
      way k = mod_below k ways some

      of : (k a : ℕ) → is_of a (place k) ≡ true → is_of a (line (k / ways) (k % ways)) ≡ true
      of k a t = subst (λ x. is_of a x ≡ true) (sym (at_line k)) t

      listed : (k a : ℕ) → k < parties * ways → is_of a (place k) ≡ true → has (holders a) (k / ways) ≡ true
      listed k a l t = ok.holders.is_holder a _ _ (party k l) (way k) (of k a t)

      known : (k a : ℕ) → k < parties * ways → is_of a (place k) ≡ true → a < cells
      known k a l t = subst (λ c. c < cells) (is_of_cell a _ (of k a t)) (ok.in_range.line_cells _ _ (party k l) (way k) (is_of_held a _ (of k a t)))

  -- so that a line that is not admitted tells that they are not legal
  pub not_admitted : (found : List PartySet) (p w : ℕ) (l : Line V P) (r : Register V P) → p < parties → w < ways
      → l ≡ line p w → r ≡ register p → false ≡ admits directory found p r l → Passed ways lines directory registers (λ a. get_or found a nobody) (p * ways + w) → Statements → ⊥
  not_admitted found p w l r lp lw el er out was ok =
      both_ways (admits directory found p (register p) (line p w)) (sym (out ∙ ap (admits directory found p r) el ∙ ap (λ x. admits directory found p x (line p w)) er))
      (admitted_next ways lines directory registers found holders (p * ways + w) (parties * ways) p (div-mul-add p ways w lw) (inside p w lp lw) (legal_passed ok) was)

  abbrev Entries : (ℕ → PartySet) → Type 0
  Entries found = (a : ℕ) → a < cells → entry_right registers a (entry a) (found a) ≡ true

  abbrev Requests : Type 0
  Requests = (p : ℕ) → p < parties → asks_within cells (register p) ≡ true

  pub legal_requests : Statements → Requests
  legal_requests ok p l = asks_from cells (register p) (λ r. ok.in_range.request_cells p r l)

  pub legal_entries : Statements → (found : ℕ → PartySet) → All found → Entries found
  legal_entries ok found was a l =
      let e : holders a ≡ found a = one_found ways lines directory registers holders found (parties * ways) (legal_passed ok) was a l in
      entry_from registers a (entry a) (found a) (ok.in_range.last_parties a l) e
      (free_from (entry a).phase (holders a) (ok.phases.unheld a l) (ok.phases.free a l))
      (turn_from registers a (entry a).turn (λ q t. (ok.in_range.turn_parties a q l t, ok.turns a q l t)))

  pub right_legal : (found : ℕ → PartySet) → All found → Requests → Entries found → Statements
  right_legal found was requests entries = record {
    in_range = record {
      line_cells = λ p w l m h. (was.right _ (inside p w l m) h).known;
      request_cells = λ p r l. asks_at cells (register p) (requests p l) r;
      turn_parties = λ a q l e. (turn_at registers a (entry a).turn (known-entry a l).turn q e).0;
      last_parties = λ a l. (known-entry a l).last;
      holder_parties = λ a q l t. let x = has_line a q l t in subst (λ p. p < parties) x.2 (div_below x.0 ways parties some x.1);
    };
    single = λ p w x a l m n s t.
        let same-party : (p * ways + w) / ways ≡ (p * ways + x) / ways = div-mul-add p ways w m ∙ sym (div-mul-add p ways x n) in
        ⊎_elim (λ e. e) (⊎_elim
        (λ (lt : w < x). absurd (was.apart (p * ways + w) (p * ways + x) a (omega arith) (inside p x l n) s t (inl same-party)))
        (λ (lt : x < w). absurd (was.apart (p * ways + x) (p * ways + w) a (omega arith) (inside p w l m) t s (inl (sym same-party)))))
        (cases_order w x);
    holders = record {
      has_line = λ a p l m t.
          let x = has_line a p l t in
          (x.0 % ways, mod_below x.0 ways some, subst (λ z. is_of a z ≡ true) (sym (at_line x.0) ∙ ap (λ q. line q (x.0 % ways)) x.2) x.3);
      is_holder = λ a p w l m t. subst (λ h. has h p ≡ true) (sym (known-entry a (known a p w l m t)).holders) (subst (λ q. has (found a) q ≡ true) (div-mul-add p ways w m) (was.listed (p * ways + w) a (inside p w l m) t));
      in_phase = λ a p w l m t. (was.right _ (inside p w l m) (is_of_held a (line p w) t)).in_phase ∙ ap (λ c. (entry c).phase) (is_of_cell a (line p w) t);
    };
    phases = record {
      unheld = λ a l. (free a l).0;
      free = λ a l. (free a l).1;
      owner = λ a p q l f s t.
          let x = has_line a p l s in
          let y = has_line a q l t in
          ⊎_elim (λ (e : x.0 ≡ y.0). sym x.2 ∙ ap (λ k. k / ways) e ∙ y.2) (⊎_elim
          (λ (lt : x.0 < y.0). absurd (was.apart x.0 y.0 a lt y.1 x.3 y.3 (inr f)))
          (λ (lt : y.0 < x.0). absurd (was.apart y.0 x.0 a lt x.1 y.3 x.3 (inr f))))
          (cases_order x.0 y.0);
    };
    turns = λ a q l e. (turn_at registers a (entry a).turn (known-entry a l).turn q e).1;
    nothing_hits = λ p w r l m e. ⊎_elim
        (λ (h : is_held (line p w) ≡ true). misses_at (register p) (line p w) (subst (λ q. misses (register q) (line p w) ≡ true) (div-mul-add p ways w m) (was.right (p * ways + w) (inside p w l m) h).missed) r e)
        (unheld_missed r (line p w))
        (cases_Bool (is_held (line p w)));
  }
    where
      known-entry : (a : ℕ) → a < cells → EntryRight registers a (entry a) (found a)
      known-entry a l = entry_at registers a (entry a) (found a) (entries a l)

      has_line : (a q : ℕ) → a < cells → has (holders a) q ≡ true → (k : ℕ) × (k < parties * ways) × (k / ways ≡ q) × (is_of a (place k) ≡ true)
      has_line a q l t = was.has_line a q l (subst (λ h. has h q ≡ true) (known-entry a l).holders t)

      known : (a p w : ℕ) → p < parties → w < ways → is_of a (line p w) ≡ true → a < cells
      known a p w l m t = subst (λ c. c < cells) (is_of_cell a (line p w) t) (was.right _ (inside p w l m) (is_of_held a (line p w) t)).known

      free : (a : ℕ) → a < cells → ((entry a).phase ≡ phase.Free → holders a ≡ nobody) × (holders a ≡ nobody → (entry a).phase ≡ phase.Free)
      free a l = free_at (entry a).phase (holders a) (known-entry a l).free
