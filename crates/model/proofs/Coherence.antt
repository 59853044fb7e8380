-- The lines agree with one another, and their values with the home and with the reference memory
use Rattle.std.proofs.Common.{◌≡◌, ℕ, ◌<◌, Bool, true, false, eqb, ◌⊎◌, List, length, get_or, set, Some, None, Option, sym, refl, ap, ◌∙◌, subst, inl, inr, ⊎_elim, arith}
use Rattle.std.proofs.lemmas.List.{get_or-set_other, get_or-set_same}
use Rattle.std.proofs.lemmas.Bool.{cases_eq, eqb-false}
use Rattle.std.specs.Option.{option_map}
use Rattle.operation.specs.Algebra.{Algebra, Lawful}
use Rattle.tables.specs.Legal.{same}
use Rattle.tables.specs.Lines.{cell_of, is_held, is_of, phase_of}
use Rattle.tables.specs.declared.line.Line.{Line}
use Rattle.tables.specs.declared.line.Line.TheVariants.{Invalid, Modified, Shared, UpdateOnly}
use Rattle.model.proofs.Basics.{Owns, set_all}
use Rattle.model.proofs.Sums.{part, pend, pend_none, pend_same, pend_set}
use Rattle.model.specs.Bench.{lookup}
use Rattle.tables.specs.declared.entry.Phase.TheVariants as phase

abbrev pub owned : {V P : Type 0} → ℕ → Line V P → Bool
owned a Invalid = false
owned a (Shared b v) = false
owned a (UpdateOnly b d) = false
owned a (Modified b v) = eqb b a

-- two lines of one cell are alike, not Modified, and of different parties
abbrev pub Pair : {V P : Type 0} → ℕ → ℕ → ℕ → Line V P → Line V P → Type 0
Pair w i j l m = (a : ℕ) → is_of a l ≡ true → is_of a m ≡ true → (phase_of l ≡ phase_of m) × (phase_of l ≡ phase.Modified → ⊥) × ((q : ℕ) → Owns w q i → Owns w q j → ⊥)

abbrev pub Apart : {V P : Type 0} → ℕ → List (Line V P) → Type 0
Apart w ls = (i j : ℕ) → (i ≡ j → ⊥) → Pair w i j (get_or ls i Invalid) (get_or ls j Invalid)

-- every line's cell is below n
abbrev pub Within : {V P : Type 0} → ℕ → List (Line V P) → Type 0
Within n ls = (i : ℕ) → is_held (get_or ls i Invalid) ≡ true → cell_of (get_or ls i Invalid) < n

-- the value in a line is the home's if Shared, the reference memory's if Modified
abbrev pub Good : {V P : Type 0} → List V → (ℕ → Option V) → Line V P → Type 0
Good home value Invalid = Unit {0}
Good home value (Shared b v) = lookup home b ≡ Some v
Good home value (UpdateOnly b d) = Unit {0}
Good home value (Modified b v) = value b ≡ Some v

-- without a Modified line, a cell's value is the home's with all partials pending in lines acting on it
pub record Values {V P : Type 0} (o : Algebra V P) (ls : List (Line V P)) (home : List V) (value : ℕ → Option V) : Type 0 where
  pub good : (i : ℕ) → Good home value (get_or ls i Invalid)
  pub sums : (a : ℕ) → ((i : ℕ) → owned a (get_or ls i Invalid) ≡ false) → value a ≡ option_map (λ v. o.act v (pend o a ls)) (lookup home a)

-- what differs
pub not_owned : phase.Shared ≡ phase.Modified → ⊥
not_owned e = let z : ◌≡◌ {A = ℕ} 0 1 = cc in omega arith

pub not_owned' : phase.UpdateOnly ≡ phase.Modified → ⊥
not_owned' e = let z : ◌≡◌ {A = ℕ} 0 1 = cc in omega arith

pub not_both : phase.Shared ≡ phase.UpdateOnly → ⊥
not_both e = let z : ◌≡◌ {A = ℕ} 0 1 = cc in omega arith

pub pair_sym : {V P : Type 0} (w i j : ℕ) (l m : Line V P) → Pair w i j l m → Pair w j i m l
pair_sym w i j l m h a x y = let t = h a y x in (sym t.0, λ e. t.1 (t.0 ∙ e), λ q u v. t.2 q v u)

-- a line that is of the same cells, in the same phase
pub pair_like : {V P : Type 0} (w i j : ℕ) (l x m : Line V P) → ((a : ℕ) → is_of a x ≡ is_of a l) → phase_of x ≡ phase_of l → Pair w i j l m → Pair w i j x m
pair_like w i j l x m same e h a s t = let y = h a (sym (same a) ∙ s) t in (e ∙ y.0, λ z. y.1 (sym e ∙ z), y.2)

pub apart_set : {V P : Type 0} (w : ℕ) (ls : List (Line V P)) (i : ℕ) (x : Line V P) → i < length ls → Apart w ls
    → ((j : ℕ) → (j ≡ i → ⊥) → Pair w i j x (get_or ls j Invalid))
    → Apart w (set ls i x)
apart_set {V} {P} w ls i x h old new =
    set_all (λ j l. (k : ℕ) → (j ≡ k → ⊥) → Pair w j k l (get_or (set ls i x) k Invalid)) ls i x Invalid h
    (set_all (λ k m. (i ≡ k → ⊥) → Pair w i k x m) ls i x Invalid h (λ n. absurd (n refl)) (λ k n _. new k n))
    (λ j n. set_all (λ k m. (j ≡ k → ⊥) → Pair w j k (get_or ls j Invalid) m) ls i x Invalid h (λ _. pair_sym w i j x (get_or ls j Invalid) (new j n)) (λ k _ m. old j k m))

-- a value changes at a cell of which the line is not the Modified one
pub good_value : {V P : Type 0} (home : List V) (f g : ℕ → Option V) (a : ℕ) (m : Line V P) → ((c : ℕ) → (c ≡ a → ⊥) → g c ≡ f c) → owned a m ≡ false → Good home f m → Good home g m
good_value home f g a Invalid same h x = tt
good_value home f g a (Shared b v) same h x = x
good_value home f g a (UpdateOnly b d) same h x = tt
good_value home f g a (Modified b v) same h x = same b (eqb-false b a h) ∙ x

module _ {V P : Type 0} (o : Algebra V P) (law : Lawful o) (ls : List (Line V P)) (home : List V) (value : ℕ → Option V) (vals : Values o ls home value) (i : ℕ) (short : i < length ls) where
  -- one line changes, and with it the value of one cell
  pub values_set : (x : Line V P) (a : ℕ) (value' : ℕ → Option V)
      → Good home value' x
      → ((j : ℕ) → (j ≡ i → ⊥) → owned a (get_or ls j Invalid) ≡ false)
      → ((c : ℕ) → (c ≡ a → ⊥) → value' c ≡ value c)
      → ((c : ℕ) → (c ≡ a → ⊥) → part o c (get_or ls i Invalid) ≡ part o c x)
      → ((c : ℕ) → (c ≡ a → ⊥) → owned c (get_or ls i Invalid) ≡ owned c x)
      → (owned a x ≡ false → value' a ≡ option_map (λ v. o.act v (o.join (part o a x) (pend o a (set ls i Invalid)))) (lookup home a))
      → Values o (set ls i x) home value'
  values_set x a value' here alone same parts owns at_a = record {
    good = set_all (λ j l. Good home value' l) ls i x Invalid short here (λ j m. good_value home value value' a (get_or ls j Invalid) same (alone j m) (vals.good j));
    sums = λ c none. go c none (cases_eq c a);
  }
    where
      at_i : (c : ℕ) → ((j : ℕ) → owned c (get_or (set ls i x) j Invalid) ≡ false) → owned c x ≡ false
      at_i c none = subst (λ l. owned c l ≡ false) (get_or-set_same ls i x Invalid short) (none i)

      before : (c : ℕ) → (c ≡ a → ⊥) → ((j : ℕ) → owned c (get_or (set ls i x) j Invalid) ≡ false) → (j : ℕ) → owned c (get_or ls j Invalid) ≡ false
      before c m none j =
          ⊎_elim (λ (e : j ≡ i). subst (λ t. owned c (get_or ls t Invalid) ≡ false) (sym e) (owns c m ∙ at_i c none))
          (λ (e : j ≡ i → ⊥). subst (λ l. owned c l ≡ false) (get_or-set_other ls i j x Invalid e) (none j)) (cases_eq j i)

      go : (c : ℕ) → ((j : ℕ) → owned c (get_or (set ls i x) j Invalid) ≡ false) → (c ≡ a) ⊎ (c ≡ a → ⊥) → value' c ≡ option_map (λ v. o.act v (pend o c (set ls i x))) (lookup home c)
      go c none (inl e) =
          subst (λ t. value' t ≡ option_map (λ v. o.act v (pend o t (set ls i x))) (lookup home t)) (sym e)
          (subst (λ y. value' a ≡ option_map (λ v. o.act v y) (lookup home a)) (sym (pend_set o law a ls i x short))
          (at_a (subst (λ t. owned t x ≡ false) e (at_i c none))))
      go c none (inr m) =
          same c m ∙ vals.sums c (before c m none) ∙ ap (λ y. option_map (λ v. o.act v y) (lookup home c)) (sym (pend_same o law c ls i x short (parts c m)))

  -- the line of a cell without other lines that matter
  pub quiet_value : (a : ℕ) → ((j : ℕ) → owned a (get_or ls j Invalid) ≡ false) → ((j : ℕ) → part o a (get_or ls j Invalid) ≡ o.neutral) → value a ≡ lookup home a
  quiet_value a none parts =
      vals.sums a none ∙ ap (λ y. option_map (λ v. o.act v y) (lookup home a)) (pend_none o law a ls parts) ∙ still (lookup home a)
    where
      still : (u : Option V) → option_map (λ v. o.act v o.neutral) u ≡ u
      still None = refl
      still (Some v) = ap Some (law.still v)
