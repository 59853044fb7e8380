-- Legal tables of the right sizes are those that have the invariant of the moves
use Rattle.std.proofs.Common.{◌≡◌, ℕ, ◌+◌, ◌-◌, ◌*◌, ◌/◌, ◌<◌, ◌≤◌, true, false, ◌⊎◌, length, Some, None, Option, sym, refl, ap, ◌∙◌, subst, inl, inr, ⊎_elim, mul-le-mul_right, arith}
use Rattle.std.proofs.lemmas.List.{get_or_past}
use Rattle.std.proofs.lemmas.Bool.{both_ways, cases_eq, cases_lt}
use Rattle.party_set.proofs.Holders.{has_nobody}
use Rattle.tables.proofs.Tests.{is_of_cell, is_of_held, is_of_own, no}
use Rattle.tables.specs.Legal.{Legal, blank}
use Rattle.tables.specs.Lines.{cell_of, hits, is_held, is_of, phase_of}
use Rattle.party_set.specs.Sets.{has}
use Rattle.tables.specs.declared.entry.Entry.{Entry}
use Rattle.tables.specs.declared.line.Line.TheVariants.{Invalid}
use Rattle.tables.specs.declared.register.Register.{Register}
use Rattle.tables.specs.declared.register.Register.TheVariants.{Answered, Empty, Waiting}
use Rattle.model.proofs.Basics.{Owns, one_owner}
use Rattle.model.proofs.Coherence.{Apart}
use Rattle.model.proofs.Directory.{owns_div}
use Rattle.model.proofs.Tabled.{Limits, Listed, Seated, Tabled, Turned}
use Rattle.model.specs.Bench.{Bench, State, entry, line, register}
use Rattle.tables.specs.declared.entry.Phase.TheVariants as phase

module _ {V P R : Type 0} (k : Bench V P R) (s : State V P R) where
  abbrev Statements : Type 0
  Statements = Legal k.ways s.lines s.directory s.registers

  -- line i is a way of its party
  own_way : (q i : ℕ) → Owns k.ways q i → (w : ℕ) × (w < k.ways) × (q * k.ways + w ≡ i)
  own_way q i o = (i - q * k.ways, omega (arith, o.0, o.1), omega (arith, o.0))

  way_own : (q w : ℕ) → w < k.ways → Owns k.ways q (q * k.ways + w)
  way_own q w h = (omega arith, omega arith)

  pub tabled_legal : Tabled k s → Statements
  tabled_legal ok = record {
    in_range = record {
      line_cells = λ p w l m h. rw ok.directory_length (ok.within (p * k.ways + w) h);
      request_cells = λ p r l e. rw ok.directory_length (subst (λ z. Seated k.ways k.cells s.lines p z) e (ok.seated p)).0;
      turn_parties = λ a q l e. rw ok.registers_length (subst (λ z. Turned s.registers k.parties a z) e (ok.turns a)).0;
      last_parties = λ a l. rw ok.registers_length (ok.lasts a);
      holder_parties = λ a q l h. rw ok.registers_length (below a q h);
    };
    single = λ p w x a l m n t u. omega (arith, one_line (p * k.ways + w) (p * k.ways + x) p a (way_own p w m) (way_own p x n) t u (cases_eq (p * k.ways + w) (p * k.ways + x)));
    holders = record {
      has_line = λ a p l m h.
          let t = (ok.listed a).from p h in
          let y = own_way p t.0 t.1 in
          (y.0, y.1, subst (λ i. is_of a (line s i) ≡ true) (sym y.2) t.2);
      is_holder = λ a p w l m h. (ok.listed a).into p (p * k.ways + w) (way_own p w m) h;
      in_phase = λ a p w l m h. (ok.listed a).phased (p * k.ways + w) h;
    };
    phases = record {
      unheld = λ a l. (ok.listed a).free;
      free = λ a l. (ok.listed a).unheld;
      owner = λ a p q l e h g. one-owned a p q e h g;
    };
    turns = λ a q l e. (subst (λ z. Turned s.registers k.parties a z) e (ok.turns a)).1;
    nothing_hits = λ p w r l m e. (subst (λ z. Seated k.ways k.cells s.lines p z) e (ok.seated p)).1 (p * k.ways + w) (way_own p w m);
  }
    where
      one_line : (i j p a : ℕ) → Owns k.ways p i → Owns k.ways p j → is_of a (line s i) ≡ true → is_of a (line s j) ≡ true → (i ≡ j) ⊎ (i ≡ j → ⊥) → i ≡ j
      one_line i j p a o u x y (inl z) = z
      one_line i j p a o u x y (inr n) = absurd ((ok.apart i j n a x y).2 p o u)

      one-owned : (a p q : ℕ) → (entry s a).phase ≡ phase.Modified → has (entry s a).holders p ≡ true → has (entry s a).holders q ≡ true → p ≡ q
      one-owned a p q e h g =
          let t = (ok.listed a).from p h in
          let u = (ok.listed a).from q g in
          ⊎_elim (λ (z : t.0 ≡ u.0). one_owner k.ways p q u.0 (subst (λ y. Owns k.ways p y) z t.1) u.1)
          (λ (n : t.0 ≡ u.0 → ⊥). absurd ((ok.apart t.0 u.0 n a t.2 u.2).1 ((ok.listed a).phased t.0 t.2 ∙ e))) (cases_eq t.0 u.0)

      below : (a q : ℕ) → has (entry s a).holders q ≡ true → q < k.parties
      below a q h =
          let t = (ok.listed a).from q h in
          ⊎_elim
          (λ (l : t.0 < k.parties * k.ways). ⊎_elim (λ z. z) (λ (z : k.parties ≤ q). absurd (let m : k.parties * k.ways ≤ q * k.ways = mul-le-mul_right k.ways z in omega (arith, t.1.0))) (cases_lt q k.parties))
          (λ (l : k.parties * k.ways ≤ t.0). absurd (no (sym (ap (is_of a) (get_or_past s.lines t.0 Invalid (omega (arith, ok.lines_length)))) ∙ t.2)))
          (cases_lt t.0 (k.parties * k.ways))

  module _ (limits : Limits k) (lines_length : length s.lines ≡ k.parties * k.ways) (directory_length : length s.directory ≡ k.cells) (registers_length : length s.registers ≡ k.parties) (ok : Statements) where
    -- a line that holds something is a way of an existing party
    placed : (i : ℕ) → is_held (line s i) ≡ true → (p : ℕ) × (w : ℕ) × (p < length s.registers) × (w < k.ways) × (p * k.ways + w ≡ i)
    placed i h = ⊎_elim
        (λ (l : i < k.parties * k.ways).
        let o = owns_div k.ways i limits.ways_low in
        let y = own_way (i / k.ways) i o in
        (i / k.ways, y.0, ⊎_elim (λ z. z) (λ (z : length s.registers ≤ i / k.ways). absurd (let m : k.parties * k.ways ≤ i / k.ways * k.ways = mul-le-mul_right k.ways (omega arith) in omega (arith, o.0))) (cases_lt (i / k.ways) (length s.registers)), y.1, y.2))
        (λ (l : k.parties * k.ways ≤ i). absurd (no (sym (ap is_held (get_or_past s.lines i Invalid (omega arith))) ∙ h)))
        (cases_lt i (k.parties * k.ways))

    -- the same with what is known of a way, at the flat line
    module _ (i a : ℕ) (h : is_of a (line s i) ≡ true) where
      spot : (p : ℕ) × (w : ℕ) × (p < length s.registers) × (w < k.ways) × (p * k.ways + w ≡ i)
      spot = placed i (is_of_held a (line s i) h)

      here : is_of a (line s (spot.0 * k.ways + spot.1)) ≡ true
      here = subst (λ j. is_of a (line s j) ≡ true) (sym spot.4) h

      in_cells : a < k.cells
      in_cells = omega (arith, ok.in_range.line_cells spot.0 spot.1 spot.2 spot.3 (is_of_held a (line s (spot.0 * k.ways + spot.1)) here), is_of_cell a (line s (spot.0 * k.ways + spot.1)) here)

      in_phase : phase_of (line s i) ≡ (entry s a).phase
      in_phase = subst (λ j. phase_of (line s j) ≡ (entry s a).phase) spot.4 (ok.holders.in_phase a spot.0 spot.1 spot.2 spot.3 here)

      owned_by : (q : ℕ) → Owns k.ways q i → q ≡ spot.0
      owned_by q o = one_owner k.ways q spot.0 i o (subst (λ j. Owns k.ways spot.0 j) spot.4 (way_own spot.0 spot.1 spot.3))

      is_holder : (q : ℕ) → Owns k.ways q i → has (entry s a).holders q ≡ true
      is_holder q o = subst (λ p. has (entry s a).holders p ≡ true) (sym (owned_by q o)) (ok.holders.is_holder a spot.0 spot.1 spot.2 spot.3 here)

    -- two lines of one cell and one party are one
    same_line : (i j a p : ℕ) → Owns k.ways p i → Owns k.ways p j → is_of a (line s i) ≡ true → is_of a (line s j) ≡ true → i ≡ j
    same_line i j a p o u x y =
        let t = own_way p i o in
        let v = own_way p j u in
        let low : p < length s.registers = subst (λ z. z < length s.registers) (sym (owned_by i a x p o)) (spot i a x).2 in
        let e : t.0 ≡ v.0 = ok.single p t.0 v.0 a low t.1 v.1 (subst (λ z. is_of a (line s z) ≡ true) (sym t.2) x) (subst (λ z. is_of a (line s z) ≡ true) (sym v.2) y) in
        omega (arith, t.2, v.2, e)

    blank_listed : (a n : ℕ) → k.cells ≤ a → Listed k.ways s.lines a (blank n)
    blank_listed a n high = record {
      from = λ q h. absurd (both_ways _ (has_nobody q) h);
      into = λ q i o h. absurd (let l = in_cells i a h in omega arith);
      phased = λ i h. absurd (let l = in_cells i a h in omega arith);
      free = λ _. refl;
      unheld = λ _. refl;
    }

    -- past the directory an entry is blank
    entries : (Q : ℕ → Entry → Type 0) → ((a : ℕ) → a < length s.directory → Q a (entry s a)) → ((a : ℕ) → k.cells ≤ a → Q a (blank 0)) → (a : ℕ) → Q a (entry s a)
    entries Q near far a = ⊎_elim (λ l. near a l)
        (λ (l : length s.directory ≤ a). subst (Q a) (sym (get_or_past s.directory a (blank 0) l)) (far a (omega arith)))
        (cases_lt a (length s.directory))

    -- past the registers one is Empty
    seats : (Q : ℕ → Register V P → Type 0) → ((p : ℕ) → p < length s.registers → Q p (register s p)) → ((p : ℕ) → Q p Empty) → (p : ℕ) → Q p (register s p)
    seats Q near far p = ⊎_elim (λ l. near p l)
        (λ (l : length s.registers ≤ p). subst (Q p) (sym (get_or_past s.registers p Empty l)) (far p))
        (cases_lt p (length s.registers))

    seat : (p : ℕ) → p < length s.registers → (x : Register V P) → register s p ≡ x → Seated k.ways k.cells s.lines p x
    seat p l Empty e = tt
    seat p l (Waiting r) e = (
      omega (arith, ok.in_range.request_cells p r l e),
      λ i o. let y = own_way p i o in subst (λ j. hits r (line s j) ≡ false) y.2 (ok.nothing_hits p y.0 r l y.1 e),
    )
    seat p l (Answered v) e = tt

    turn : (a : ℕ) → a < length s.directory → (t : Option ℕ) → (entry s a).turn ≡ t → Turned s.registers k.parties a t
    turn a l None e = tt
    turn a l (Some q) e = (omega (arith, ok.in_range.turn_parties a q l e), ok.turns a q l e)

    apart : Apart k.ways s.lines
    apart i j n a x y = (
      in_phase i a x ∙ sym (in_phase j a y),
      λ e.
          let l : a < length s.directory = omega (arith, in_cells i a x) in
          let p = spot i a x in
          let q = spot j a y in
          let o : Owns k.ways p.0 i = subst (λ z. Owns k.ways p.0 z) p.4 (way_own p.0 p.1 p.3) in
          let u : Owns k.ways q.0 j = subst (λ z. Owns k.ways q.0 z) q.4 (way_own q.0 q.1 q.3) in
          let pq : p.0 ≡ q.0 = ok.phases.owner a p.0 q.0 l (sym (in_phase i a x) ∙ e) (is_holder i a x p.0 o) (is_holder j a y q.0 u) in
          n (same_line i j a q.0 (subst (λ z. Owns k.ways z i) pq o) u x y),
      λ p o u. n (same_line i j a p o u x y),
    )

    pub legal_tabled : Tabled k s
    legal_tabled = record {
      limits = limits;
      lines_length = lines_length;
      directory_length = directory_length;
      registers_length = registers_length;
      apart = apart;
      within = λ i h. in_cells i (cell_of (line s i)) (is_of_own (line s i) h);
      seated = seats (λ p x. Seated k.ways k.cells s.lines p x) (λ p l. seat p l (register s p) refl) (λ p. tt);
      turns = entries (λ a e. Turned s.registers k.parties a e.turn) (λ a l. turn a l (entry s a).turn refl) (λ a h. tt);
      lasts = entries (λ a e. e.last < k.parties) (λ a l. omega (arith, ok.in_range.last_parties a l)) (λ a h. limits.parties_low);
      listed = entries (λ a e. Listed k.ways s.lines a e)
          (λ a l. record {
            from = λ q h.
                let t = ok.holders.has_line a q l (ok.in_range.holder_parties a q l h) h in
                (q * k.ways + t.0, way_own q t.0 t.1, t.2);
            into = λ q i o h. is_holder i a h q o;
            phased = λ i h. in_phase i a h;
            free = ok.phases.unheld a l;
            unheld = ok.phases.free a l;
          })
          (λ a h. blank_listed a 0 h);
    }
