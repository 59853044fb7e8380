-- What is known once the lines before line n have passed, where line k is of party k / W
use Rattle.std.proofs.Common.{◌≡◌, ℕ, ◌+◌, ◌*◌, ◌/◌, ◌<◌, ◌≤◌, Bool, true, ◌&&◌, ◌||◌, eqb, ltb, ◌⊎◌, List, length, get_or, sym, ap, ◌∙◌, subst, inl, inr, ⊎_elim, arith, below_more}
use Rattle.std.proofs.lemmas.Bool.{cases_eq, eq-eqb, eqb-true, ltb-true, lt-ltb, both_ways, and_from, and_parts, or_cases, or_left, or_right}
use Rattle.std.proofs.lemmas.Nat.{div-mul-add}
use Rattle.tables.specs.declared.line.Line.{Line}
use Rattle.tables.specs.declared.line.Line.TheVariants.{Invalid}
use Rattle.tables.specs.declared.register.Register.{Register}
use Rattle.party_set.specs.declared.PartySet.{PartySet}
use Rattle.tables.specs.declared.entry.Phase.TheVariants as phase
use Rattle.tables.specs.declared.entry.Entry.{Entry}
use Rattle.party_set.specs.Sets.{has, nobody}
use Rattle.tables.specs.Lines.{is_held, cell_of, is_of, phase_of}
use Rattle.tables.specs.Legal.{phase_code, misses}
use Rattle.tables.specs.Legal as spec
use Rattle.tables.proofs.Tests.{same_tests, imply, imply_at, code_same, is_of_held, is_of_own, is_of_cell}
use Rattle.party_set.proofs.Holders.{has_nobody, same_members}
use Rattle.audit.specs.Audit.{room, admits, admitted}
use Rattle.audit.proofs.Joins.{room_at, room_from, admitted_has}

module _ {V P : Type 0} (ways : ℕ) (lines : List (Line V P)) (directory : List Entry) (registers : List (Register V P)) where
  abbrev pub place : ℕ → Line V P
  place k = get_or lines k Invalid

  abbrev entry : ℕ → Entry
  entry = spec.entry ways lines directory registers

  abbrev register : ℕ → Register V P
  register = spec.register ways lines directory registers

  pub record Right (k : ℕ) : Type 0 where
    pub known : cell_of (place k) < length directory
    pub in_phase : phase_of (place k) ≡ (entry (cell_of (place k))).phase
    pub missed : misses (register (k / ways)) (place k) ≡ true

  -- `found a` are the parties with a line of cell a
  pub record Passed (found : ℕ → PartySet) (n : ℕ) : Type 0 where
    pub right : (k : ℕ) → k < n → is_held (place k) ≡ true → Right k
    pub listed : (k a : ℕ) → k < n → is_of a (place k) ≡ true → has (found a) (k / ways) ≡ true
    pub has_line : (a q : ℕ) → a < length directory → has (found a) q ≡ true → (k : ℕ) × (k < n) × (k / ways ≡ q) × (is_of a (place k) ≡ true)
    pub apart : (j k a : ℕ) → j < k → k < n → is_of a (place j) ≡ true → is_of a (place k) ≡ true → (j / ways ≡ k / ways) ⊎ ((entry a).phase ≡ phase.Modified) → ⊥

  abbrev in_list : List PartySet → ℕ → PartySet
  in_list found a = get_or found a nobody

  pub pass_none : (found : List PartySet) (n : ℕ) → n ≡ 0 → ((a : ℕ) → a < length directory → in_list found a ≡ nobody) → Passed (in_list found) n
  pass_none found n z none = record {
    right = λ k l. absurd (omega arith);
    listed = λ k a l. absurd (omega arith);
    has_line = λ a q l t. absurd (both_ways (has (in_list found a) q) (ap (λ s. has s q) (none a l) ∙ has_nobody q) t);
    apart = λ j k a l m. absurd (omega arith);
  }

  -- one more line, if it is admitted
  pass_more : (found : List PartySet) (n p : ℕ) → n / ways ≡ p → length directory ≤ length found → Passed (in_list found) n
      → admits directory found p (register p) (place n) ≡ true → Passed (in_list (admitted found p (place n))) (n + 1)
  pass_more found n p e long was ok = record {
    right = below_more _ n was.right here;
    listed = λ k a l t. ⊎_elim
        (λ (z : k ≡ n). after a (k / ways) (or_right _ _ (and_from _ _ (subst (λ i. is_of a (place i) ≡ true) z t) (eq-eqb _ p (ap (λ i. i / ways) z ∙ e)))))
        (λ (z : k ≡ n → ⊥). after a (k / ways) (or_left _ _ (was.listed k a (omega arith) t)))
        (cases_eq k n);
    has_line = λ a q l t. ⊎_elim
        (λ (h : has (in_list found a) q ≡ true). let x = was.has_line a q l h in (x.0, omega (arith, x.1), x.2, x.3))
        (λ (h : (is_of a (place n) && eqb q p) ≡ true). let x = and_parts _ _ h in (n, omega arith, e ∙ sym (eqb-true q p x.1), x.0))
        (or_cases _ _ (sym (adds a q) ∙ t));
    apart = λ j k a l m s t o. ⊎_elim
        (λ (z : k ≡ n). alone j a (omega arith) s (subst (λ i. is_of a (place i) ≡ true) z t) (⊎_elim (λ h. inl (h ∙ ap (λ i. i / ways) z)) inr o))
        (λ (z : k ≡ n → ⊥). was.apart j k a l (omega arith) s t o)
        (cases_eq k n);
  }
    where
      cell : ℕ
      cell = cell_of (place n)

      roomy : Bool
      roomy = room (phase_of (place n)) (in_list found cell) p && misses (register p) (place n)

      phased : Bool
      phased = eqb (phase_code (phase_of (place n))) (phase_code (entry cell).phase)

      tests : is_held (place n) ≡ true → (ltb cell (length directory) ≡ true) × ((phased && roomy) ≡ true)
      tests h = and_parts (ltb cell (length directory)) (phased && roomy) (imply_at (is_held (place n)) _ ok h)

      more : is_held (place n) ≡ true → (room (phase_of (place n)) (in_list found cell) p ≡ true) × (misses (register p) (place n) ≡ true)
      more h = and_parts _ _ (and_parts phased roomy (tests h).1).1

      here : is_held (place n) ≡ true → Right n
      here h = record {
        known = ltb-true _ _ (tests h).0;
        in_phase = code_same _ _ (eqb-true _ _ (and_parts phased roomy (tests h).1).0);
        missed = subst (λ x. misses (register x) (place n) ≡ true) (sym e) (more h).1;
      }

      adds : (a q : ℕ) → has (in_list (admitted found p (place n)) a) q ≡ (has (in_list found a) q || (is_of a (place n) && eqb q p))
      adds a q = admitted_has found p (place n) a q (λ h. let x = (here h).known in omega arith)

      after : (a q : ℕ) → (has (in_list found a) q || (is_of a (place n) && eqb q p)) ≡ true → has (in_list (admitted found p (place n)) a) q ≡ true
      after a q t = adds a q ∙ t

      alone : (j a : ℕ) → j < n → is_of a (place j) ≡ true → is_of a (place n) ≡ true → (j / ways ≡ n / ways) ⊎ ((entry a).phase ≡ phase.Modified) → ⊥
      alone j a l s t o =
          let h = is_of_held a (place n) t in
          let c : a ≡ cell = sym (is_of_cell a (place n) t) in
          room_at (phase_of (place n)) (in_list found cell) p (j / ways) (more h).0 (was.listed j cell l (subst (λ x. is_of x (place j) ≡ true) c s))
          (⊎_elim (λ z. inl (z ∙ e)) (λ z. inr ((here h).in_phase ∙ subst (λ x. (entry x).phase ≡ phase.Modified) c z)) o)

  -- the same as the code has it: way w of party p
  pub pass_step : (found after : List PartySet) (p w m : ℕ) (l : Line V P) (r : Register V P) → w < ways → length directory ≤ length found
      → l ≡ place (p * ways + w) → r ≡ register p → true ≡ admits directory found p r l → after ≡ admitted found p l → m ≡ p * ways + w + 1
      → Passed (in_list found) (p * ways + w) → Passed (in_list after) m
  pass_step found after p w m l r lw long el er ok ea em was =
      let e : (p * ways + w) / ways ≡ p = div-mul-add p ways w lw in
      let t : true ≡ admits directory found p (register p) (place (p * ways + w)) = ok ∙ ap (admits directory found p r) el ∙ ap (λ x. admits directory found p x (place (p * ways + w))) er in
      subst (λ f. Passed (in_list f) m) (sym (ea ∙ ap (admitted found p) el)) (subst (Passed (in_list (admitted found p (place (p * ways + w))))) (sym em) (pass_more found (p * ways + w) p e long was (sym t)))

  -- a line that passes with all others is admitted after those before it
  pub admitted_next : (found : List PartySet) (right-found : ℕ → PartySet) (n m p : ℕ) → n / ways ≡ p → n < m → Passed right-found m → Passed (in_list found) n
      → admits directory found p (register p) (place n) ≡ true
  admitted_next found right-found n m p e l all was = imply (is_held (place n)) _ (λ h.
      let x = all.right n l h in
      let own = is_of_own (place n) h in
      and_from _ _ (lt-ltb _ _ x.known) (and_from _ _ (eq-eqb _ _ (ap phase_code x.in_phase)) (and_from _ _
      (room_from (phase_of (place n)) (in_list found (cell_of (place n))) p (λ q t o.
      let y = was.has_line (cell_of (place n)) q x.known t in
      all.apart y.0 n (cell_of (place n)) y.1 l y.3 own (⊎_elim (λ z. inl (y.2 ∙ z ∙ sym e)) (λ z. inr (sym x.in_phase ∙ z)) o)))
      (subst (λ i. misses (register i) (place n) ≡ true) e x.missed))))

  -- the lines alone tell the parties found
  pub one_found : (f g : ℕ → PartySet) (n : ℕ) → Passed f n → Passed g n → (a : ℕ) → a < length directory → f a ≡ g a
  one_found f g n pf pg a l = same_members (f a) (g a) (λ q. same_tests (has (f a) q) (has (g a) q) (one_way f g pf pg q) (one_way g f pg pf q))
    where
      one_way : (f g : ℕ → PartySet) → Passed f n → Passed g n → (q : ℕ) → has (f a) q ≡ true → has (g a) q ≡ true
      one_way f g pf pg q t = let x = pf.has_line a q l t in subst (λ i. has (g a) i ≡ true) x.2 (pg.listed x.0 a x.1 x.3)
