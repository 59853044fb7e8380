-- The invariant of legal tables, in the form in which the moves keep it
use Rattle.std.proofs.Common.{◌≡◌, ℕ, ◌*◌, ◌<◌, ◌≤◌, true, false, List, length, get_or, set, Some, None, Option, refl, ap, ◌∙◌, subst}
use Rattle.std.proofs.lemmas.List.{get_or-set_other}
use Rattle.std.proofs.lemmas.Bool.{both_ways}
use Rattle.tables.proofs.Tests.{no}
use Rattle.tables.specs.Lines.{hits, is_empty, is_held, is_of, phase_of, target, waits_for}
use Rattle.party_set.specs.Sets.{has, nobody}
use Rattle.tables.specs.declared.entry.Entry.{Entry}
use Rattle.tables.specs.declared.line.Line.{Line}
use Rattle.tables.specs.declared.line.Line.TheVariants.{Invalid, Modified, Shared, UpdateOnly}
use Rattle.tables.specs.declared.register.Register.{Register}
use Rattle.tables.specs.declared.register.Register.TheVariants.{Answered, Empty, Waiting}
use Rattle.tables.specs.declared.request.Request.{Request}
use Rattle.tables.specs.declared.request.Request.TheVariants.{Read, Update, Write}
use Rattle.model.proofs.Basics.{Owns}
use Rattle.model.proofs.Coherence.{Apart, Within}
use Rattle.model.specs.Bench.{Bench, State, entry, register}
use Rattle.tables.specs.declared.entry.Phase.TheVariants as phase

pub record Limits {V P R : Type 0} (k : Bench V P R) : Type 0 where
  pub parties_low : 1 ≤ k.parties
  pub parties_high : k.parties ≤ 16
  pub cells_low : 1 ≤ k.cells
  pub cells_high : k.cells ≤ 256
  pub ways_low : 1 ≤ k.ways
  pub ways_high : k.ways ≤ 8

-- a waiting request is for an existing cell, and hits none of its party's lines
abbrev pub Seated : {V P : Type 0} → ℕ → ℕ → List (Line V P) → ℕ → Register V P → Type 0
Seated w n ls p Empty = Unit {0}
Seated w n ls p (Waiting r) = (target r < n) × ((i : ℕ) → Owns w p i → hits r (get_or ls i Invalid) ≡ false)
Seated w n ls p (Answered v) = Unit {0}

-- a turn names a party that waits
abbrev pub Turned : {V P : Type 0} → List (Register V P) → ℕ → ℕ → Option ℕ → Type 0
Turned rs n a None = Unit {0}
Turned rs n a (Some q) = (q < n) × (waits_for a (get_or rs q Empty) ≡ true)

-- the holders are the parties with a line of the cell, and the phase is that of its lines
pub record Listed {V P : Type 0} (w : ℕ) (ls : List (Line V P)) (a : ℕ) (e : Entry) : Type 0 where
  pub from : (q : ℕ) → has e.holders q ≡ true → (i : ℕ) × Owns w q i × (is_of a (get_or ls i Invalid) ≡ true)
  pub into : (q i : ℕ) → Owns w q i → is_of a (get_or ls i Invalid) ≡ true → has e.holders q ≡ true
  pub phased : (i : ℕ) → is_of a (get_or ls i Invalid) ≡ true → phase_of (get_or ls i Invalid) ≡ e.phase
  pub free : e.phase ≡ phase.Free → e.holders ≡ nobody
  pub unheld : e.holders ≡ nobody → e.phase ≡ phase.Free

pub record Tabled {V P R : Type 0} (k : Bench V P R) (s : State V P R) : Type 0 where
  pub limits : Limits k
  pub lines_length : length s.lines ≡ k.parties * k.ways
  pub directory_length : length s.directory ≡ k.cells
  pub registers_length : length s.registers ≡ k.parties
  pub apart : Apart k.ways s.lines
  pub within : Within k.cells s.lines
  pub seated : (p : ℕ) → Seated k.ways k.cells s.lines p (register s p)
  pub turns : (a : ℕ) → Turned s.registers k.parties a (entry s a).turn
  pub lasts : (a : ℕ) → (entry s a).last < k.parties
  pub listed : (a : ℕ) → Listed k.ways s.lines a (entry s a)

-- other lines that the party's request misses too
pub seated_lines : {V P : Type 0} (w n : ℕ) (ls ms : List (Line V P)) (p : ℕ) (x : Register V P)
    → ((r : Request V P) (i : ℕ) → Owns w p i → hits r (get_or ls i Invalid) ≡ false → hits r (get_or ms i Invalid) ≡ false) → Seated w n ls p x → Seated w n ms p x
seated_lines w n ls ms p Empty h d = tt
seated_lines w n ls ms p (Waiting r) h d = (d.0, λ i t. h r i t (d.1 i t))
seated_lines w n ls ms p (Answered v) h d = tt

pub turned_set : {V P : Type 0} (rs : List (Register V P)) (p : ℕ) (x : Register V P) (n a : ℕ) (t : Option ℕ) → waits_for a (get_or rs p Empty) ≡ false → Turned rs n a t → Turned (set rs p x) n a t
turned_set rs p x n a None h u = tt
turned_set rs p x n a (Some q) h u =
    (u.0, ap (waits_for a) (get_or-set_other rs p q x Empty (λ (e : q ≡ p). both_ways _ h (subst (λ z. waits_for a (get_or rs z Empty) ≡ true) e u.1))) ∙ u.1)

pub no_wait : {V P : Type 0} (a : ℕ) (x : Register V P) → is_empty x ≡ true → waits_for a x ≡ false
no_wait a Empty h = refl
no_wait a (Waiting r) h = absurd (no h)
no_wait a (Answered v) h = refl

pub hits_invalid : {V P : Type 0} (r : Request V P) → hits r Invalid ≡ false
hits_invalid (Read a) = refl
hits_invalid (Write a v) = refl
hits_invalid (Update a d) = refl

pub hits_held : {V P : Type 0} (r : Request V P) (l : Line V P) → hits r l ≡ true → is_held l ≡ true
hits_held r Invalid h = absurd (both_ways _ (hits_invalid r) h)
hits_held r (Shared b v) h = refl
hits_held r (UpdateOnly b d) h = refl
hits_held r (Modified b v) h = refl
