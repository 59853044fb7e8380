-- Each move keeps the tables legal
use Rattle.std.proofs.Common.{◌≡◌, ℕ, ◌*◌, ◌/◌, ◌<◌, true, false, length, set, Some, None, Option, sym, refl, ap, ◌∙◌, subst, arith}
use Rattle.std.proofs.lemmas.List.{get_or-set_other, length-set}
use Rattle.std.proofs.lemmas.Bool.{ne_eqb}
use Rattle.operation.specs.Algebra.{Algebra}
use Rattle.tables.proofs.Tests.{is_of_cell, no}
use Rattle.tables.specs.Legal.{blank, fits}
use Rattle.tables.specs.Lines.{cell_of, conflicts, hits, is_empty, is_held, is_of, phase_of, target, waits_for}
use Rattle.tables.specs.declared.entry.Entry.{Entry}
use Rattle.tables.specs.declared.ledger.Ledger.{Ledger}
use Rattle.tables.specs.declared.line.Line.{Line}
use Rattle.tables.specs.declared.line.Line.TheVariants.{Invalid, Modified, Shared, UpdateOnly}
use Rattle.tables.specs.declared.register.Register.{Register}
use Rattle.tables.specs.declared.register.Register.TheVariants.{Answered, Empty, Waiting}
use Rattle.tables.specs.declared.request.Request.{Request}
use Rattle.tables.specs.declared.request.Request.TheVariants.{Read, Update, Write}
use Rattle.model.proofs.Basics.{Owns, one_owner, owner_below, set_all}
use Rattle.model.proofs.Coherence.{Pair, apart_set, pair_like}
use Rattle.model.proofs.Directory.{hit_line_is_of, hit_line_phase, listed_entry, listed_grant, listed_like, listed_send}
use Rattle.model.proofs.Effects.{new_pair, wanted}
use Rattle.model.proofs.Tabled.{Listed, Seated, Tabled, Turned, hits_invalid, no_wait, seated_lines, turned_set}
use Rattle.model.specs.Bench.{Bench, State, answer_to, entry, granted_line, hit_line, line, lookup, register, value_in}
use Rattle.model.specs.Steps.{clear, close, grant, hit, joined_by, left_by, made, queue, send, turn_to, with_turn}
use Rattle.party_set.proofs.Searches.{no_some, some_same}

pub held_hit_line : {V P : Type 0} (o : Algebra V P) (r : Request V P) (l : Line V P) → is_held (hit_line o r l) ≡ is_held l
held_hit_line o (Read b) l = refl
held_hit_line o (Write b u) Invalid = refl
held_hit_line o (Write b u) (Shared c v) = refl
held_hit_line o (Write b u) (UpdateOnly c d) = refl
held_hit_line o (Write b u) (Modified c v) = refl
held_hit_line o (Update b e) Invalid = refl
held_hit_line o (Update b e) (Shared c v) = refl
held_hit_line o (Update b e) (UpdateOnly c d) = refl
held_hit_line o (Update b e) (Modified c v) = refl

pub cell_hit_line : {V P : Type 0} (o : Algebra V P) (r : Request V P) (l : Line V P) → cell_of (hit_line o r l) ≡ cell_of l
cell_hit_line o (Read b) l = refl
cell_hit_line o (Write b u) Invalid = refl
cell_hit_line o (Write b u) (Shared c v) = refl
cell_hit_line o (Write b u) (UpdateOnly c d) = refl
cell_hit_line o (Write b u) (Modified c v) = refl
cell_hit_line o (Update b e) Invalid = refl
cell_hit_line o (Update b e) (Shared c v) = refl
cell_hit_line o (Update b e) (UpdateOnly c d) = refl
cell_hit_line o (Update b e) (Modified c v) = refl

-- what a grant makes: a held line of the request's cell, in the phase that it wants
pub granted_line_fits : {V P : Type 0} (o : Algebra V P) (r : Request V P) (u : Option V) (x : Line V P) → granted_line o r u ≡ Some x → (is_held x ≡ true) × (cell_of x ≡ target r) × (wanted r ≡ phase_of x)
granted_line_fits {V} {P} o r u x e = go r u e
  where
    Made : Request V P → Line V P → Type 0
    Made r z = (is_held z ≡ true) × (cell_of z ≡ target r) × (wanted r ≡ phase_of z)

    go : (r : Request V P) (u : Option V) → granted_line o r u ≡ Some x → Made r x
    go (Read a) None e = absurd (no_some e)
    go (Read a) (Some v) e = subst (Made (Read a)) (some_same e) (refl, refl, refl)
    go (Write a w) u e = subst (Made (Write a w)) (some_same e) (refl, refl, refl)
    go (Update a d) u e = subst (Made (Update a d)) (some_same e) (refl, refl, refl)

module _ {V P R : Type 0} (k : Bench V P R) (s : State V P R) (inv : Tabled k s) where
  pub tabled_queue : (p : ℕ) (r : Request V P) → p < k.parties → is_empty (register s p) ≡ true → target r < k.cells → ((i : ℕ) → Owns k.ways p i → hits r (line s i) ≡ false) → Tabled k (queue k s p r)
  tabled_queue p r low empty inside miss = record {
    limits = inv.limits;
    lines_length = inv.lines_length;
    directory_length = inv.directory_length;
    registers_length = length-set s.registers p (Waiting r) ∙ inv.registers_length;
    apart = inv.apart;
    within = inv.within;
    seated = set_all (λ j z. Seated k.ways k.cells s.lines j z) s.registers p (Waiting r) Empty (omega (arith, inv.registers_length)) (inside, miss) (λ j _. inv.seated j);
    turns = λ a. turned_set s.registers p (Waiting r) k.parties a (entry s a).turn (no_wait a (register s p) empty) (inv.turns a);
    lasts = inv.lasts;
    listed = inv.listed;
  }

  pub tabled_clear : (p : ℕ) (v : Option V) → p < k.parties → register s p ≡ Answered v → Tabled k (clear k s p)
  tabled_clear p v low full = record {
    limits = inv.limits;
    lines_length = inv.lines_length;
    directory_length = inv.directory_length;
    registers_length = length-set s.registers p Empty ∙ inv.registers_length;
    apart = inv.apart;
    within = inv.within;
    seated = set_all (λ j z. Seated k.ways k.cells s.lines j z) s.registers p Empty Empty (omega (arith, inv.registers_length)) tt (λ j _. inv.seated j);
    turns = λ a. turned_set s.registers p Empty k.parties a (entry s a).turn (ap (waits_for a) full) (inv.turns a);
    lasts = inv.lasts;
    listed = inv.listed;
  }

  pub tabled_turn : (a q : ℕ) → a < k.cells → q < k.parties → waits_for a (register s q) ≡ true → Tabled k (turn_to k s a q)
  tabled_turn a q low fits waits = record {
    limits = inv.limits;
    lines_length = inv.lines_length;
    directory_length = length-set s.directory a (with_turn (entry s a) q) ∙ inv.directory_length;
    registers_length = inv.registers_length;
    apart = inv.apart;
    within = inv.within;
    seated = inv.seated;
    turns = set_all (λ c e. Turned s.registers k.parties c e.turn) s.directory a (with_turn (entry s a) q) (blank 0) short (fits, waits) (λ c _. inv.turns c);
    lasts = set_all (λ c e. e.last < k.parties) s.directory a (with_turn (entry s a) q) (blank 0) short (inv.lasts a) (λ c _. inv.lasts c);
    listed = set_all (λ c e. Listed k.ways s.lines c e) s.directory a (with_turn (entry s a) q) (blank 0) short
        (listed_entry k.ways s.lines a (entry s a) (with_turn (entry s a) q) refl refl (inv.listed a)) (λ c _. inv.listed c);
  }
    where
      short : a < length s.directory
      short = omega (arith, inv.directory_length)

  pub tabled_send : (i : ℕ) (g : Ledger) (u : R) → i < k.parties * k.ways → is_held (line s i) ≡ true → Tabled k (send k s i g u)
  tabled_send i g u low full = record {
    limits = inv.limits;
    lines_length = length-set s.lines i Invalid ∙ inv.lines_length;
    directory_length = length-set s.directory c (left_by (entry s c) (i / k.ways)) ∙ inv.directory_length;
    registers_length = inv.registers_length;
    apart = apart_set k.ways s.lines i Invalid short inv.apart (λ j m a x y. absurd (no x));
    within = set_all (λ j l. is_held l ≡ true → cell_of l < k.cells) s.lines i Invalid Invalid short (λ h. absurd (no h)) (λ j _. inv.within j);
    seated = λ p. seated_lines k.ways k.cells s.lines (set s.lines i Invalid) p (register s p)
        (λ r j _ h. set_all (λ t l. hits r (line s t) ≡ false → hits r l ≡ false) s.lines i Invalid Invalid short (λ _. hits_invalid r) (λ t _ z. z) j h) (inv.seated p);
    turns = set_all (λ a e. Turned s.registers k.parties a e.turn) s.directory c (left_by (entry s c) (i / k.ways)) (blank 0) in-directory (inv.turns c) (λ a _. inv.turns a);
    lasts = set_all (λ a e. e.last < k.parties) s.directory c (left_by (entry s c) (i / k.ways)) (blank 0) in-directory (inv.lasts c) (λ a _. inv.lasts a);
    listed = listed_send k.ways inv.limits.ways_low s.lines i short inv.apart s.directory (blank 0) in-directory full inv.listed;
  }
    where
      short : i < length s.lines
      short = omega (arith, inv.lines_length)

      c : ℕ
      c = cell_of (line s i)

      in-directory : c < length s.directory
      in-directory = omega (arith, inv.directory_length, inv.within i full)

  pub tabled_hit : (p : ℕ) (r : Request V P) (i : ℕ) → p < k.parties → is_empty (register s p) ≡ true → Owns k.ways p i → Tabled k (hit k s p r i)
  tabled_hit p r i low empty mine = record {
    limits = inv.limits;
    lines_length = length-set s.lines i new ∙ inv.lines_length;
    directory_length = inv.directory_length;
    registers_length = length-set s.registers p answer ∙ inv.registers_length;
    apart = apart_set k.ways s.lines i new short inv.apart (λ j m. pair_like k.ways i j (line s i) new (line s j) (λ a. hit_line_is_of k.op a r (line s i)) (hit_line_phase k.op r (line s i)) (inv.apart i j (λ t. m (sym t))));
    within = set_all (λ j l. is_held l ≡ true → cell_of l < k.cells) s.lines i new Invalid short
        (λ h. subst (λ c. c < k.cells) (sym (cell_hit_line k.op r (line s i))) (inv.within i (sym (held_hit_line k.op r (line s i)) ∙ h))) (λ j _. inv.within j);
    seated = set_all (λ j z. Seated k.ways k.cells (set s.lines i new) j z) s.registers p answer Empty (omega (arith, inv.registers_length)) tt
        (λ j m. seated_lines k.ways k.cells s.lines (set s.lines i new) j (register s j)
        (λ r' t o h. ap (hits r') (get_or-set_other s.lines i t new Invalid (λ (e : t ≡ i). m (one_owner k.ways j p i (subst (λ z. Owns k.ways j z) e o) mine))) ∙ h) (inv.seated j));
    turns = λ a. turned_set s.registers p answer k.parties a (entry s a).turn (no_wait a (register s p) empty) (inv.turns a);
    lasts = inv.lasts;
    listed = λ a. listed_like k.ways s.lines (set s.lines i new) a (entry s a)
        (set_all (λ j l. is_of a l ≡ is_of a (line s j)) s.lines i new Invalid short (hit_line_is_of k.op a r (line s i)) (λ _ _. refl))
        (set_all (λ j l. is_of a l ≡ true → phase_of l ≡ phase_of (line s j)) s.lines i new Invalid short (λ _. hit_line_phase k.op r (line s i)) (λ _ _ _. refl)) (inv.listed a);
  }
    where
      short : i < length s.lines
      short = omega (arith, inv.lines_length, owner_below k.ways p i k.parties low mine)

      new : Line V P
      new = hit_line k.op r (line s i)

      answer : Register V P
      answer = Answered (answer_to r (value_in (line s i)))

  pub tabled_grant : (a q : ℕ) (r : Request V P) (i : ℕ) (x : Line V P) → a < k.cells → q < k.parties → register s q ≡ Waiting r → target r ≡ a
      → Owns k.ways q i → is_held (line s i) ≡ false → ((j : ℕ) → conflicts r (line s j) ≡ false) → granted_line k.op r (lookup s.home a) ≡ Some x
      → Tabled k (grant k s a q r i x)
  tabled_grant a q r i x low fits waits same mine room calm made = record {
    limits = inv.limits;
    lines_length = length-set s.lines i x ∙ inv.lines_length;
    directory_length = length-set s.directory a e' ∙ inv.directory_length;
    registers_length = length-set s.registers q answer ∙ inv.registers_length;
    apart = apart_set k.ways s.lines i x short inv.apart beside;
    within = set_all (λ j l. is_held l ≡ true → cell_of l < k.cells) s.lines i x Invalid short (λ _. subst (λ c. c < k.cells) (sym at) low) (λ j _. inv.within j);
    seated = set_all (λ j z. Seated k.ways k.cells (set s.lines i x) j z) s.registers q answer Empty (omega (arith, inv.registers_length)) tt
        (λ j m. seated_lines k.ways k.cells s.lines (set s.lines i x) j (register s j)
        (λ r' t o h. ap (hits r') (get_or-set_other s.lines i t x Invalid (λ (e : t ≡ i). m (one_owner k.ways j q i (subst (λ z. Owns k.ways j z) e o) mine))) ∙ h) (inv.seated j));
    turns = set_all (λ c e. Turned (set s.registers q answer) k.parties c e.turn) s.directory a e' (blank 0) in-directory tt
        (λ c n. turned_set s.registers q answer k.parties c (entry s c).turn (ap (waits_for c) waits ∙ ne_eqb (target r) c (λ z. n (sym z ∙ same))) (inv.turns c));
    lasts = set_all (λ c e. e.last < k.parties) s.directory a e' (blank 0) in-directory fits (λ c _. inv.lasts c);
    listed = listed_grant k.ways s.lines i short q mine room x new.0 a at beside s.directory (blank 0) in-directory inv.listed;
  }
    where
      e' : Entry
      e' = joined_by (entry s a) (phase_of x) q

      answer : Register V P
      answer = Answered (answer_to r (value_in x))

      short : i < length s.lines
      short = omega (arith, inv.lines_length, owner_below k.ways q i k.parties fits mine)

      in-directory : a < length s.directory
      in-directory = omega (arith, inv.directory_length)

      new : (is_held x ≡ true) × (cell_of x ≡ target r) × (wanted r ≡ phase_of x)
      new = granted_line_fits k.op r (lookup s.home a) x made

      at : cell_of x ≡ a
      at = new.1 ∙ same

      seat : Seated k.ways k.cells s.lines q (Waiting r)
      seat = subst (λ z. Seated k.ways k.cells s.lines q z) waits (inv.seated q)

      beside : (j : ℕ) → (j ≡ i → ⊥) → Pair k.ways i j x (line s j)
      beside = new_pair k.ways s.lines i q mine r calm seat.1 x new.2 (λ c h. sym new.1 ∙ is_of_cell c x h)

  pub tabled_close : Tabled k (close k s)
  tabled_close = record {
    limits = inv.limits;
    lines_length = inv.lines_length;
    directory_length = inv.directory_length;
    registers_length = inv.registers_length;
    apart = inv.apart;
    within = inv.within;
    seated = inv.seated;
    turns = inv.turns;
    lasts = inv.lasts;
    listed = inv.listed;
  }
