-- A place is within the cells or outside them: what a home answers there, and what an answer says of the place.
use Rattle.std.proofs.Common.{◌≡◌, ℕ, zero, suc, ◌<◌, ◌≤◌, ltb, List, [], ◌∷◌, length, get_or, is_ok, Ok, Err, sym, refl, ap, ◌∙◌, inl, inr, arith}
use Rattle.std.proofs.lemmas.Bool.{cases_lt, lt-ltb, le-ltb, ltb-true, ltb-false}
use Rattle.memory.specs.declared.Refusal.{Refusal}
use Rattle.memory.specs.declared.Refusal.TheVariants.{Place}
use Rattle.memory.specs.Homes.{loaded, placed}

pub loaded_within : {V : Type 0} (cs : List V) (i : ℕ) (d : V) → i < length cs → loaded cs i ≡ Ok (get_or cs i d)
loaded_within [] i d h = absurd (omega arith)
loaded_within (v ∷ vs) zero d h = refl
loaded_within (v ∷ vs) (suc i) d h = loaded_within vs i d (omega arith)

pub loaded_outside : {V : Type 0} (cs : List V) (i : ℕ) → length cs ≤ i → loaded cs i ≡ Err Place
loaded_outside [] i h = refl
loaded_outside (v ∷ vs) zero h = absurd (omega arith)
loaded_outside (v ∷ vs) (suc i) h = loaded_outside vs i (omega arith)

pub placed_within : {V : Type 0} (cs : List V) (i : ℕ) → i < length cs → placed cs i ≡ Ok tt
placed_within [] i h = absurd (omega arith)
placed_within (v ∷ vs) zero h = refl
placed_within (v ∷ vs) (suc i) h = placed_within vs i (omega arith)

pub placed_outside : {V : Type 0} (cs : List V) (i : ℕ) → length cs ≤ i → placed cs i ≡ Err Place
placed_outside [] i h = refl
placed_outside (v ∷ vs) zero h = absurd (omega arith)
placed_outside (v ∷ vs) (suc i) h = placed_outside vs i (omega arith)

pub is_ok_loaded : {V : Type 0} (cs : List V) (i : ℕ) → is_ok (loaded cs i) ≡ ltb i (length cs)
is_ok_loaded [] i = sym (le-ltb i 0 (omega arith))
is_ok_loaded (v ∷ vs) i =
    elim (cases_lt i (length (v ∷ vs))) [
      | inl h ↦ ap is_ok (loaded_within (v ∷ vs) i v h) ∙ sym (lt-ltb i (length (v ∷ vs)) h)
      | inr h ↦ ap is_ok (loaded_outside (v ∷ vs) i h) ∙ sym (le-ltb i (length (v ∷ vs)) h)
    ]

pub is_ok_placed : {V : Type 0} (cs : List V) (i : ℕ) → is_ok (placed cs i) ≡ ltb i (length cs)
is_ok_placed cs i =
    elim (cases_lt i (length cs)) [
      | inl h ↦ ap is_ok (placed_within cs i h) ∙ sym (lt-ltb i (length cs) h)
      | inr h ↦ ap is_ok (placed_outside cs i h) ∙ sym (le-ltb i (length cs) h)
    ]

pub within_from_loaded : {V : Type 0} (cs : List V) (i : ℕ) (v : V) → loaded cs i ≡ Ok v → i < length cs
within_from_loaded cs i v e = ltb-true i (length cs) (sym (is_ok_loaded cs i) ∙ ap is_ok e)

pub value_from_loaded : {V : Type 0} (cs : List V) (i : ℕ) (v d : V) → loaded cs i ≡ Ok v → get_or cs i d ≡ v
value_from_loaded cs i v d e = let w = loaded_within cs i d (within_from_loaded cs i v e) in cc

pub outside_from_loaded : {V : Type 0} (cs : List V) (i : ℕ) (r : Refusal) → loaded cs i ≡ Err r → length cs ≤ i
outside_from_loaded cs i r e = ltb-false i (length cs) (sym (is_ok_loaded cs i) ∙ ap is_ok e)

pub within_from_placed : {V : Type 0} (cs : List V) (i : ℕ) → placed cs i ≡ Ok tt → i < length cs
within_from_placed cs i e = ltb-true i (length cs) (sym (is_ok_placed cs i) ∙ ap is_ok e)

pub outside_from_placed : {V : Type 0} (cs : List V) (i : ℕ) (r : Refusal) → placed cs i ≡ Err r → length cs ≤ i
outside_from_placed cs i r e = ltb-false i (length cs) (sym (is_ok_placed cs i) ∙ ap is_ok e)

-- a load and a store are refused alike
pub placed_from_loaded : {V : Type 0} (cs : List V) (i : ℕ) (r : Refusal) → loaded cs i ≡ Err r → placed cs i ≡ Err r
placed_from_loaded cs i r e =
    let h = outside_from_loaded cs i r e in
    let l = loaded_outside cs i h in
    let p = placed_outside cs i h in
    cc

pub loaded_from_placed : {V : Type 0} (cs : List V) (i : ℕ) (r : Refusal) → placed cs i ≡ Err r → loaded cs i ≡ Err r
loaded_from_placed cs i r e =
    let h = outside_from_placed cs i r e in
    let l = loaded_outside cs i h in
    let p = placed_outside cs i h in
    cc
