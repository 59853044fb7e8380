-- What the steps leave of the directory's agreement with the lines
use Rattle.std.proofs.Common.{◌≡◌, ℕ, ◌/◌, ◌<◌, ◌≤◌, true, false, cond, ◌⊎◌, List, length, get_or, set, sym, refl, ap, ◌∙◌, subst, inl, inr, ⊎_elim, arith}
use Rattle.std.proofs.lemmas.Nat.{div-add-mod', mod_below}
use Rattle.std.proofs.lemmas.List.{get_or-set_other, get_or-set_same}
use Rattle.std.proofs.lemmas.Bool.{both_ways, cases_Bool, cases_eq, eq-eqb, ne_eqb}
use Rattle.operation.specs.Algebra.{Algebra}
use Rattle.party_set.proofs.Holders.{has_nobody, set_same, with_other, with_same, without_other, without_same}
use Rattle.tables.proofs.Tests.{is_of_cell, is_of_own, no}
use Rattle.tables.specs.Legal.{blank}
use Rattle.tables.specs.Lines.{cell_of, is_held, is_of, phase_of}
use Rattle.party_set.specs.Sets.{has, is_nobody, nobody, with, without}
use Rattle.tables.specs.declared.entry.Entry.{Entry}
use Rattle.tables.specs.declared.line.Line.{Line}
use Rattle.tables.specs.declared.line.Line.TheVariants.{Invalid, Modified, Shared, UpdateOnly}
use Rattle.party_set.specs.declared.PartySet.{PartySet}
use Rattle.tables.specs.declared.request.Request.{Request}
use Rattle.tables.specs.declared.request.Request.TheVariants.{Read, Update, Write}
use Rattle.model.proofs.Basics.{Owns, one_owner, set_all}
use Rattle.model.proofs.Coherence.{Pair}
use Rattle.model.proofs.Effects.{is_of_unheld}
use Rattle.model.proofs.Tabled.{Listed}
use Rattle.model.specs.Bench.{hit_line}
use Rattle.model.specs.Steps.{joined_by, left_by}
use Rattle.tables.specs.declared.entry.Phase.TheVariants as phase

pub owns_div : (w i : ℕ) → 1 ≤ w → Owns w (i / w) i
owns_div w i h = (omega (arith, div-add-mod' i w), omega (arith, div-add-mod' i w, mod_below i w h))

no_holder : (h : PartySet) → h ≡ nobody → is_nobody h ≡ true
no_holder h e = eq-eqb h.members 0 (ap (λ z. z.members) e)

some_holder : (h : PartySet) → (h ≡ nobody → ⊥) → is_nobody h ≡ false
some_holder h n = ne_eqb h.members 0 (λ e. n (set_same h nobody e))

holder_cases : (h : PartySet) → (h ≡ nobody) ⊎ (h ≡ nobody → ⊥)
holder_cases h = ⊎_elim (λ e. inl (set_same h nobody e)) (λ n. inr (λ e. n (ap (λ z. z.members) e))) (cases_eq h.members 0)

pub hit_line_is_of : {V P : Type 0} (o : Algebra V P) (a : ℕ) (r : Request V P) (l : Line V P) → is_of a (hit_line o r l) ≡ is_of a l
hit_line_is_of o a (Read b) l = refl
hit_line_is_of o a (Write b u) Invalid = refl
hit_line_is_of o a (Write b u) (Shared c v) = refl
hit_line_is_of o a (Write b u) (UpdateOnly c d) = refl
hit_line_is_of o a (Write b u) (Modified c v) = refl
hit_line_is_of o a (Update b e) Invalid = refl
hit_line_is_of o a (Update b e) (Shared c v) = refl
hit_line_is_of o a (Update b e) (UpdateOnly c d) = refl
hit_line_is_of o a (Update b e) (Modified c v) = refl

pub hit_line_phase : {V P : Type 0} (o : Algebra V P) (r : Request V P) (l : Line V P) → phase_of (hit_line o r l) ≡ phase_of l
hit_line_phase o (Read b) l = refl
hit_line_phase o (Write b u) Invalid = refl
hit_line_phase o (Write b u) (Shared c v) = refl
hit_line_phase o (Write b u) (UpdateOnly c d) = refl
hit_line_phase o (Write b u) (Modified c v) = refl
hit_line_phase o (Update b e) Invalid = refl
hit_line_phase o (Update b e) (Shared c v) = refl
hit_line_phase o (Update b e) (UpdateOnly c d) = refl
hit_line_phase o (Update b e) (Modified c v) = refl

pub held_phase : {V P : Type 0} (l : Line V P) → is_held l ≡ true → phase_of l ≡ phase.Free → ⊥
held_phase Invalid h e = no h
held_phase (Shared b v) h e = let z : ◌≡◌ {A = ℕ} 0 1 = cc in omega arith
held_phase (UpdateOnly b d) h e = let z : ◌≡◌ {A = ℕ} 0 1 = cc in omega arith
held_phase (Modified b v) h e = let z : ◌≡◌ {A = ℕ} 0 1 = cc in omega arith

pub listed_like : {V P : Type 0} (w : ℕ) (ls ms : List (Line V P)) (a : ℕ) (e : Entry)
    → ((i : ℕ) → is_of a (get_or ms i Invalid) ≡ is_of a (get_or ls i Invalid)) → ((i : ℕ) → is_of a (get_or ms i Invalid) ≡ true → phase_of (get_or ms i Invalid) ≡ phase_of (get_or ls i Invalid)) → Listed w ls a e → Listed w ms a e
listed_like w ls ms a e f g x = record {
  from = λ q h. let t = x.from q h in (t.0, t.1, f t.0 ∙ t.2);
  into = λ q i h t. x.into q i h (sym (f i) ∙ t);
  phased = λ i t. g i t ∙ x.phased i (sym (f i) ∙ t);
  free = x.free;
  unheld = x.unheld;
}

-- the entry's turn and last party do not matter
pub listed_entry : {V P : Type 0} (w : ℕ) (ls : List (Line V P)) (a : ℕ) (e f : Entry) → f.phase ≡ e.phase → f.holders ≡ e.holders → Listed w ls a e → Listed w ls a f
listed_entry w ls a e f p h x = record {
  from = λ q t. x.from q (ap (λ z. has z q) (sym h) ∙ t);
  into = λ q i t u. ap (λ z. has z q) h ∙ x.into q i t u;
  phased = λ i t. x.phased i t ∙ sym p;
  free = λ z. h ∙ x.free (sym p ∙ z);
  unheld = λ z. p ∙ x.unheld (sym h ∙ z);
}

module _ {V P : Type 0} (w : ℕ) (wide : 1 ≤ w) (ls : List (Line V P)) (i : ℕ) (short : i < length ls)
    (apart : (i j : ℕ) → (i ≡ j → ⊥) → Pair w i j (get_or ls i Invalid) (get_or ls j Invalid)) where
  gone : (a j : ℕ) → is_of a (get_or (set ls i Invalid) j Invalid) ≡ true → (j ≡ i → ⊥) × (is_of a (get_or ls j Invalid) ≡ true)
  gone a j h =
      let n : j ≡ i → ⊥ = λ e. no (sym (ap (is_of a) (get_or-set_same ls i Invalid Invalid short)) ∙ subst (λ z. is_of a (get_or (set ls i Invalid) z Invalid) ≡ true) e h) in
      (n, sym (ap (is_of a) (get_or-set_other ls i j Invalid Invalid n)) ∙ h)

  -- at the line's own cell
  listed_left : (b : ℕ) (e : Entry) → is_of b (get_or ls i Invalid) ≡ true → Listed w ls b e → Listed w (set ls i Invalid) b (left_by e (i / w))
  listed_left b e at x = record {
    from = λ q h.
        let n : q ≡ i / w → ⊥ = λ z. both_ways _ (without_same e.holders (i / w)) (subst (λ y. has (without e.holders (i / w)) y ≡ true) z h) in
        let t = x.from q (sym (without_other e.holders (i / w) q n) ∙ h) in
        let d : t.0 ≡ i → ⊥ = λ z. n (one_owner w q (i / w) i (subst (λ y. Owns w q y) z t.1) mine) in
        (t.0, t.1, ap (is_of b) (get_or-set_other ls i t.0 Invalid Invalid d) ∙ t.2);
    into = into';
    phased = λ j h.
        let g = gone b j h in
        let more : without e.holders (i / w) ≡ nobody → ⊥ = λ z. both_ways _ (has_nobody (j / w)) (ap (λ y. has y (j / w)) (sym z) ∙ into' (j / w) j (owns_div w j wide) h) in
        ap phase_of (get_or-set_other ls i j Invalid Invalid g.0) ∙ x.phased j g.1 ∙ sym (ap (λ y. cond y phase.Free e.phase) (some_holder (without e.holders (i / w)) more));
    free = λ z. free' z (holder_cases (without e.holders (i / w)));
    unheld = λ z. ap (λ y. cond y phase.Free e.phase) (no_holder (without e.holders (i / w)) z);
  }
    where
      mine : Owns w (i / w) i
      mine = owns_div w i wide

      into' : (q j : ℕ) → Owns w q j → is_of b (get_or (set ls i Invalid) j Invalid) ≡ true → has (without e.holders (i / w)) q ≡ true
      into' q j t h =
          let g = gone b j h in
          let n : q ≡ i / w → ⊥ = λ z. (apart i j (λ y. g.0 (sym y)) b at g.1).2 (i / w) mine (subst (λ y. Owns w y j) z t) in
          without_other e.holders (i / w) q n ∙ x.into q j t g.1

      free' : cond (is_nobody (without e.holders (i / w))) phase.Free e.phase ≡ phase.Free → (without e.holders (i / w) ≡ nobody) ⊎ (without e.holders (i / w) ≡ nobody → ⊥) → without e.holders (i / w) ≡ nobody
      free' z (inl y) = y
      free' z (inr n) =
          let p : e.phase ≡ phase.Free = sym (ap (λ y. cond y phase.Free e.phase) (some_holder (without e.holders (i / w)) n)) ∙ z in
          absurd (both_ways _ (has_nobody (i / w)) (ap (λ y. has y (i / w)) (sym (x.free p)) ∙ x.into (i / w) i mine at))

  -- at another
  listed_off : (a : ℕ) (e : Entry) → is_of a (get_or ls i Invalid) ≡ false → Listed w ls a e → Listed w (set ls i Invalid) a e
  listed_off a e off x = listed_like w ls (set ls i Invalid) a e
      (set_all (λ j l. is_of a l ≡ is_of a (get_or ls j Invalid)) ls i Invalid Invalid short (sym off) (λ j n. refl))
      (λ j h. ap phase_of (get_or-set_other ls i j Invalid Invalid (gone a j h).0)) x

  -- the directory after a line is sent home
  pub listed_send : (d : List Entry) (blank : Entry) → cell_of (get_or ls i Invalid) < length d → is_held (get_or ls i Invalid) ≡ true
      → ((a : ℕ) → Listed w ls a (get_or d a blank))
      → (a : ℕ) → Listed w (set ls i Invalid) a (get_or (set d (cell_of (get_or ls i Invalid)) (left_by (get_or d (cell_of (get_or ls i Invalid)) blank) (i / w))) a blank)
  listed_send d blank low h x =
      let l : Line V P = get_or ls i Invalid in
      set_all (λ a e. Listed w (set ls i Invalid) a e) d (cell_of l) (left_by (get_or d (cell_of l) blank) (i / w)) blank low
      (listed_left (cell_of l) (get_or d (cell_of l) blank) (is_of_own l h) (x (cell_of l)))
      (λ a n. listed_off a (get_or d a blank) (⊎_elim (λ (t : is_of a l ≡ true). absurd (n (sym (is_of_cell a l t)))) (λ t. t) (cases_Bool (is_of a l))) (x a))

module _ {V P : Type 0} (w : ℕ) (ls : List (Line V P)) (i : ℕ) (short : i < length ls)
    (q : ℕ) (mine : Owns w q i) (room : is_held (get_or ls i Invalid) ≡ false) (x : Line V P) (full : is_held x ≡ true) (a : ℕ) (at : cell_of x ≡ a)
    (apart : (j : ℕ) → (j ≡ i → ⊥) → Pair w i j x (get_or ls j Invalid)) where
  at_a : is_of a x ≡ true
  at_a = subst (λ z. is_of z x ≡ true) at (is_of_own x full)

  was_free : (c j : ℕ) → is_of c (get_or ls j Invalid) ≡ true → j ≡ i → ⊥
  was_free c j h e = both_ways _ (is_of_unheld c (get_or ls i Invalid) room) (subst (λ z. is_of c (get_or ls z Invalid) ≡ true) e h)

  listed_joined : (e : Entry) → Listed w ls a e → Listed w (set ls i x) a (joined_by e (phase_of x) q)
  listed_joined e y = record {
    from = λ p h. from' p h (cases_eq p q);
    into = λ p j t h. into' p j t h (cases_eq j i);
    phased = set_all (λ j l. is_of a l ≡ true → phase_of l ≡ phase_of x) ls i x Invalid short (λ _. refl) (λ j n h. sym (apart j n a at_a h).0);
    free = λ z. absurd (held_phase x full z);
    unheld = λ z. absurd (both_ways _ (has_nobody q) (ap (λ t. has t q) (sym z) ∙ with_same e.holders q));
  }
    where
      from' : (p : ℕ) → has (with e.holders q) p ≡ true → (p ≡ q) ⊎ (p ≡ q → ⊥) → (j : ℕ) × Owns w p j × (is_of a (get_or (set ls i x) j Invalid) ≡ true)
      from' p h (inl z) = (i, subst (λ t. Owns w t i) (sym z) mine, ap (is_of a) (get_or-set_same ls i x Invalid short) ∙ at_a)
      from' p h (inr n) =
          let t = y.from p (sym (with_other e.holders q p n) ∙ h) in
          (t.0, t.1, ap (is_of a) (get_or-set_other ls i t.0 x Invalid (was_free a t.0 t.2)) ∙ t.2)

      into' : (p j : ℕ) → Owns w p j → is_of a (get_or (set ls i x) j Invalid) ≡ true → (j ≡ i) ⊎ (j ≡ i → ⊥) → has (with e.holders q) p ≡ true
      into' p j t h (inl z) = subst (λ u. has (with e.holders q) u ≡ true) (one_owner w q p i mine (subst (λ u. Owns w p u) z t)) (with_same e.holders q)
      into' p j t h (inr n) =
          let old : has e.holders p ≡ true = y.into p j t (sym (ap (is_of a) (get_or-set_other ls i j x Invalid n)) ∙ h) in
          ⊎_elim (λ (z : p ≡ q). subst (λ u. has (with e.holders q) u ≡ true) (sym z) (with_same e.holders q)) (λ (z : p ≡ q → ⊥). with_other e.holders q p z ∙ old) (cases_eq p q)

  listed_beside : (c : ℕ) (e : Entry) → (c ≡ a → ⊥) → Listed w ls c e → Listed w (set ls i x) c e
  listed_beside c e n y = listed_like w ls (set ls i x) c e
      (set_all (λ j l. is_of c l ≡ is_of c (get_or ls j Invalid)) ls i x Invalid short (new ∙ sym (is_of_unheld c (get_or ls i Invalid) room)) (λ j z. refl))
      (set_all (λ j l. is_of c l ≡ true → phase_of l ≡ phase_of (get_or ls j Invalid)) ls i x Invalid short (λ h. absurd (both_ways _ new h)) (λ j z h. refl)) y
    where
      new : is_of c x ≡ false
      new = ⊎_elim (λ (t : is_of c x ≡ true). absurd (n (sym (is_of_cell c x t) ∙ at))) (λ t. t) (cases_Bool (is_of c x))

  -- the directory after a grant
  pub listed_grant : (d : List Entry) (blank : Entry) → a < length d → ((c : ℕ) → Listed w ls c (get_or d c blank))
      → (c : ℕ) → Listed w (set ls i x) c (get_or (set d a (joined_by (get_or d a blank) (phase_of x) q)) c blank)
  listed_grant d blank low y =
      set_all (λ c e. Listed w (set ls i x) c e) d a (joined_by (get_or d a blank) (phase_of x) q) blank low
      (listed_joined (get_or d a blank) (y a)) (λ c n. listed_beside c (get_or d c blank) n (y c))
