-- The test `legal` decides the six statements
use Rattle.std.proofs.Common.{◌≡◌, ℕ, ◌^◌, ◌<◌, Bool, true, false, not, ◌&&◌, ◌||◌, eqb, ltb, List, length, Some, None, Decides, Option, sym, refl, ap, subst, ⊎_elim}
use Rattle.std.proofs.lemmas.Bool.{cases_eq, cases_Bool, eqb-true, eq-eqb, ltb-true, lt-ltb, both_ways, not-true, not_from_false, and_from, and_parts, or_cases, or_left, or_right}
use Rattle.tables.specs.declared.line.Line.{Line}
use Rattle.tables.specs.declared.register.Register.{Register}
use Rattle.tables.specs.declared.entry.Phase.TheVariants as phase
use Rattle.tables.specs.declared.entry.Entry.{Entry}
use Rattle.party_set.specs.Sets.{has, is_nobody}
use Rattle.tables.specs.Lines.{is_held, cell_of, is_of, phase_of, waits_for}
use Rattle.tables.specs.Legal.{Legal, InRange, HoldersRight, PhasesRight, legal, fits, every, any, phase_code, same, asks_within, misses, line_ok, pair_ok, turn_ok, entry_ok, holder_ok, owner_ok}
use Rattle.tables.specs.Legal as spec
use Rattle.tables.proofs.Tests.{every_from, every_at, any_from, any_at, imply, imply_at, code_same, is_of_held, is_of_own, is_of_cell, misses_from, misses_at, asks_from, asks_at, free_at, free_from}
use Rattle.party_set.proofs.Holders.{parties_below, below_parties}

module _ {V P : Type 0} (ways : ℕ) (lines : List (Line V P)) (directory : List Entry) (registers : List (Register V P)) where
  abbrev n_parties : ℕ
  n_parties = length registers

  abbrev n_cells : ℕ
  n_cells = length directory

  abbrev line : ℕ → ℕ → Line V P
  line = spec.line ways lines directory registers

  abbrev entry : ℕ → Entry
  entry = spec.entry ways lines directory registers

  abbrev register : ℕ → Register V P
  register = spec.register ways lines directory registers

  abbrev Statements : Type 0
  Statements = Legal ways lines directory registers

  -- the tests of this table
  abbrev line_ok_at : ℕ → ℕ → Bool
  line_ok_at = line_ok ways lines directory registers

  abbrev pair_ok_at : ℕ → ℕ → ℕ → Bool
  pair_ok_at = pair_ok ways lines directory registers

  abbrev turn_ok_at : ℕ → Option ℕ → Bool
  turn_ok_at = turn_ok ways lines directory registers

  abbrev entry_ok_at : ℕ → Bool
  entry_ok_at = entry_ok ways lines directory registers

  abbrev holder_ok_at : ℕ → ℕ → Bool
  holder_ok_at = holder_ok ways lines directory registers

  abbrev owner_ok_at : ℕ → ℕ → ℕ → Bool
  owner_ok_at = owner_ok ways lines directory registers

  pub legal_true : Statements → legal ways lines directory registers ≡ true
  unfolding legal
  legal_true ok =
      and_from _ _ (every_from (λ p. every (line_ok_at p) ways) n_parties (λ p l. every_from (line_ok_at p) ways (λ w m.
      and_from _ _ (imply (is_held (line p w)) _ (λ h.
      let own = is_of_own (line p w) h in
      and_from _ _ (lt-ltb _ _ (ok.in_range.line_cells p w l m h)) (and_from _ _ (ok.holders.is_holder (cell_of (line p w)) p w l m own) (eq-eqb _ _ (ap phase_code (ok.holders.in_phase (cell_of (line p w)) p w l m own))))))
      (misses_from (register p) (line p w) (λ r. ok.nothing_hits p w r l m)))))
      (and_from _ _ (every_from (λ p. every (λ w. every (pair_ok_at p w) ways) ways) n_parties (λ p l. every_from (λ w. every (pair_ok_at p w) ways) ways (λ w m. every_from (pair_ok_at p w) ways (λ x n. pair p w x l m n))))
      (and_from _ _ (every_from (λ p. asks_within n_cells (register p)) n_parties (λ p l. asks_from n_cells (register p) (λ r. ok.in_range.request_cells p r l)))
      (and_from _ _ (every_from entry_ok_at n_cells (λ a l.
      and_from _ _ (turn a l (entry a).turn refl)
      (and_from _ _ (lt-ltb _ _ (ok.in_range.last_parties a l)) (and_from _ _ (lt-ltb _ _ (parties_below (entry a).holders n_parties (λ q. ok.in_range.holder_parties a q l)))
      (free_from (entry a).phase (entry a).holders (ok.phases.unheld a l) (ok.phases.free a l))))))
      (and_from _ _ (every_from (λ a. every (holder_ok_at a) n_parties) n_cells (λ a l. every_from (holder_ok_at a) n_parties (λ q m.
      imply (has (entry a).holders q) _ (λ h. let t = ok.holders.has_line a q l m h in any_from (λ w. is_of a (line q w)) ways t.0 t.1 t.2))))
      (every_from (λ a. every (λ p. every (owner_ok_at a p) n_parties) n_parties) n_cells (λ a l. every_from (λ p. every (owner_ok_at a p) n_parties) n_parties (λ p m. every_from (owner_ok_at a p) n_parties (λ q n.
      imply (eqb (phase_code (entry a).phase) 3) _ (λ e. imply (has (entry a).holders p) _ (λ h. imply (has (entry a).holders q) _ (λ g. eq-eqb p q (ok.phases.owner a p q l (code_same (entry a).phase phase.Modified (eqb-true _ 3 e)) h g))))))))))))
    where
      pair : (p w x : ℕ) → p < n_parties → w < ways → x < ways → pair_ok_at p w x ≡ true
      pair p w x l m n = ⊎_elim (λ (e : w ≡ x). or_left (eqb w x) _ (eq-eqb w x e))
          (λ (d : w ≡ x → ⊥). or_right (eqb w x) _ (imply (is_held (line p w)) (not (is_of (cell_of (line p w)) (line p x))) (λ h.
          ⊎_elim (λ (t : is_of (cell_of (line p w)) (line p x) ≡ true). absurd (d (ok.single p w x (cell_of (line p w)) l m n (is_of_own (line p w) h) t))) (λ (t : is_of (cell_of (line p w)) (line p x) ≡ false). not_from_false _ t) (cases_Bool (is_of (cell_of (line p w)) (line p x)))))) (cases_eq w x)

      turn : (a : ℕ) → a < n_cells → (t : Option ℕ) → (entry a).turn ≡ t → turn_ok_at a t ≡ true
      turn a l None e = refl
      turn a l (Some q) e = and_from _ _ (lt-ltb q n_parties (ok.in_range.turn_parties a q l e)) (ok.turns a q l e)

  pub true_legal : legal ways lines directory registers ≡ true → Statements
  unfolding legal
  true_legal h = record {
    in_range = record {
      line_cells = λ p w l m g. ltb-true _ _ (and_parts _ _ (held-ok p w l m g)).0;
      request_cells = λ p r l. asks_at n_cells (register p) (every_at (λ p. asks_within n_cells (register p)) n_parties h3.0 p l) r;
      turn_parties = λ a q l e. ltb-true _ _ (and_parts _ _ (turn_at a q l e)).0;
      last_parties = λ a l. ltb-true _ _ (and_parts _ _ (entry_at a l).1).0;
      holder_parties = λ a q l. below_parties (entry a).holders n_parties (ltb-true _ _ (and_parts _ _ (and_parts _ _ (entry_at a l).1).1).0) q;
    };
    single = λ p w x a l m n s t.
        ⊎_elim (λ (z : eqb w x ≡ true). eqb-true w x z)
        (λ (z : (not (is_held (line p w)) || not (is_of (cell_of (line p w)) (line p x))) ≡ true).
        absurd (both_ways _ (not-true _ (imply_at (is_held (line p w)) (not (is_of (cell_of (line p w)) (line p x))) z (is_of_held a (line p w) s))) (subst (λ c. is_of c (line p x) ≡ true) (sym (is_of_cell a (line p w) s)) t)))
        (or_cases (eqb w x) _ (every_at (pair_ok_at p w) ways (every_at (λ w. every (pair_ok_at p w) ways) ways (every_at (λ p. every (λ w. every (pair_ok_at p w) ways) ways) n_parties h2.0 p l) w m) x n));
    holders = record {
      has_line = λ a q l m g. any_at (λ w. is_of a (line q w)) ways (imply_at (has (entry a).holders q) _ (every_at (holder_ok_at a) n_parties (every_at (λ a. every (holder_ok_at a) n_parties) n_cells h5.0 a l) q m) g);
      is_holder = λ a p w l m t. subst (λ c. has (entry c).holders p ≡ true) (is_of_cell a (line p w) t) (listed p w l m (is_of_held a (line p w) t)).0;
      in_phase = λ a p w l m t. subst (λ c. phase_of (line p w) ≡ (entry c).phase) (is_of_cell a (line p w) t) (code_same _ _ (eqb-true _ _ (listed p w l m (is_of_held a (line p w) t)).1));
    };
    phases = record {
      unheld = λ a l. (free_at (entry a).phase (entry a).holders (phase-at a l)).0;
      free = λ a l. (free_at (entry a).phase (entry a).holders (phase-at a l)).1;
      owner = λ a p q l e x y.
          let low : (r : ℕ) → has (entry a).holders r ≡ true → r < n_parties = below_parties (entry a).holders n_parties (ltb-true _ _ (and_parts _ _ (and_parts _ _ (entry_at a l).1).1).0) in
          eqb-true p q (imply_at (has (entry a).holders q) (eqb p q) (imply_at (has (entry a).holders p) _ (imply_at (eqb (phase_code (entry a).phase) 3) _
          (every_at (owner_ok_at a p) n_parties (every_at (λ p. every (owner_ok_at a p) n_parties) n_parties (every_at (λ a. every (λ p. every (owner_ok_at a p) n_parties) n_parties) n_cells h5.1 a l) p (low p x)) q (low q y))
          (eq-eqb _ 3 (ap phase_code e))) x) y);
    };
    turns = λ a q l e. (and_parts _ _ (turn_at a q l e)).1;
    nothing_hits = λ p w r l m. misses_at (register p) (line p w) (and_parts _ _ (line_at p w l m)).1 r;
  }
    where
      Rest5 : Bool
      Rest5 = every (λ a. every (holder_ok_at a) n_parties) n_cells && every (λ a. every (λ p. every (owner_ok_at a p) n_parties) n_parties) n_cells

      Rest4 : Bool
      Rest4 = every entry_ok_at n_cells && Rest5

      Rest3 : Bool
      Rest3 = every (λ p. asks_within n_cells (register p)) n_parties && Rest4

      Rest2 : Bool
      Rest2 = every (λ p. every (λ w. every (pair_ok_at p w) ways) ways) n_parties && Rest3

      h1 : (every (λ p. every (line_ok_at p) ways) n_parties ≡ true) × (Rest2 ≡ true)
      h1 = and_parts (every (λ p. every (line_ok_at p) ways) n_parties) Rest2 h

      h2 : (every (λ p. every (λ w. every (pair_ok_at p w) ways) ways) n_parties ≡ true) × (Rest3 ≡ true)
      h2 = and_parts _ _ h1.1

      h3 : (every (λ p. asks_within n_cells (register p)) n_parties ≡ true) × (Rest4 ≡ true)
      h3 = and_parts _ _ h2.1

      h4 : (every entry_ok_at n_cells ≡ true) × (Rest5 ≡ true)
      h4 = and_parts _ _ h3.1

      h5 : (every (λ a. every (holder_ok_at a) n_parties) n_cells ≡ true) × (every (λ a. every (λ p. every (owner_ok_at a p) n_parties) n_parties) n_cells ≡ true)
      h5 = and_parts _ _ h4.1

      line_at : (p w : ℕ) → p < n_parties → w < ways → line_ok_at p w ≡ true
      line_at p w l m = every_at (line_ok_at p) ways (every_at (λ p. every (line_ok_at p) ways) n_parties h1.0 p l) w m

      held-ok : (p w : ℕ) → p < n_parties → w < ways → is_held (line p w) ≡ true → (ltb (cell_of (line p w)) n_cells && (has (entry (cell_of (line p w))).holders p && eqb (phase_code (phase_of (line p w))) (phase_code (entry (cell_of (line p w))).phase))) ≡ true
      held-ok p w l m g = imply_at (is_held (line p w)) _ (and_parts _ _ (line_at p w l m)).0 g

      listed : (p w : ℕ) → p < n_parties → w < ways → is_held (line p w) ≡ true → (has (entry (cell_of (line p w))).holders p ≡ true) × (eqb (phase_code (phase_of (line p w))) (phase_code (entry (cell_of (line p w))).phase) ≡ true)
      listed p w l m g = and_parts _ _ (and_parts (ltb (cell_of (line p w)) n_cells) _ (held-ok p w l m g)).1

      entry_at : (a : ℕ) → a < n_cells → (turn_ok_at a (entry a).turn ≡ true) × ((ltb (entry a).last n_parties && (ltb (entry a).holders.members (2 ^ n_parties) && same (eqb (phase_code (entry a).phase) 0) (is_nobody (entry a).holders))) ≡ true)
      entry_at a l = and_parts _ _ (every_at entry_ok_at n_cells h4.0 a l)

      turn_at : (a q : ℕ) → a < n_cells → (entry a).turn ≡ Some q → (ltb q n_parties && waits_for a (register q)) ≡ true
      turn_at a q l e = subst (λ z. turn_ok_at a z ≡ true) e (entry_at a l).0

      phase-at : (a : ℕ) → a < n_cells → same (eqb (phase_code (entry a).phase) 0) (is_nobody (entry a).holders) ≡ true
      phase-at a l = (and_parts (ltb (entry a).holders.members (2 ^ n_parties)) (same (eqb (phase_code (entry a).phase) 0) (is_nobody (entry a).holders)) (and_parts (ltb (entry a).last n_parties) (ltb (entry a).holders.members (2 ^ n_parties) && same (eqb (phase_code (entry a).phase) 0) (is_nobody (entry a).holders)) (entry_at a l).1).1).1

  pub legal_decides : Decides (legal ways lines directory registers) Statements
  legal_decides = (true_legal, legal_true)
