-- What a search finds, and a search cut at a place that its loop has come to
use Rattle.std.proofs.Common.{◌≡◌, ℕ, zero, suc, ◌+◌, ◌-◌, ◌<◌, ◌≤◌, Bool, true, false, cond, Some, None, sym, refl, ap, ◌∙◌, subst, ⊎_elim, arith}
use Rattle.std.proofs.lemmas.Bool.{cases_eq}
use Rattle.std.specs.List.{find, range_with_len}
use Rattle.party_set.specs.Searches.{first}

pub no_some : {X : Type 0} {x : X} → None ≡ Some x → ⊥
no_some e = let z : ◌≡◌ {A = ℕ} 0 1 = cc in omega arith

pub some_no : {X : Type 0} {x : X} → Some x ≡ None → ⊥
some_no e = let z : ◌≡◌ {A = ℕ} 0 1 = cc in omega arith

pub some_same : {X : Type 0} {x y : X} → Some x ≡ Some y → x ≡ y
some_same e = cc

pub first_some : (t : ℕ → Bool) (k n i : ℕ) → first t k n ≡ Some i → (k ≤ i) × (i < k + n) × (t i ≡ true) × ((j : ℕ) → k ≤ j → j < i → t j ≡ false)
first_some t k zero i e = absurd (no_some e)
first_some t k (suc n) i e = go (t k) refl e (first_some t (suc k) n i)
  where
    Found : ℕ → ℕ → Type 0
    Found a m = (a ≤ i) × (i < a + m) × (t i ≡ true) × ((j : ℕ) → a ≤ j → j < i → t j ≡ false)

    go : (b : Bool) → t k ≡ b → cond b (Some k) (first t (suc k) n) ≡ Some i → (first t (suc k) n ≡ Some i → Found (suc k) n) → Found k (suc n)
    go true h q rec = let ki : k ≡ i = some_same q in (omega arith, omega arith, subst (λ x. t x ≡ true) ki h, λ j lo hi. absurd (omega arith))
    go false h q rec =
        let r : Found (suc k) n = rec q in
        (omega (arith, r.0), omega (arith, r.1), r.2, λ j lo hi. ⊎_elim (λ (z : j ≡ k). subst (λ x. t x ≡ false) (sym z) h) (λ (z : j ≡ k → ⊥). r.3 j (omega arith) hi) (cases_eq j k))

pub first_none : (t : ℕ → Bool) (k n : ℕ) → first t k n ≡ None → (j : ℕ) → k ≤ j → j < k + n → t j ≡ false
first_none t k zero e j lo hi = absurd (omega arith)
first_none t k (suc n) e j lo hi = go (t k) refl e (first_none t (suc k) n)
  where
    go : (b : Bool) → t k ≡ b → cond b (Some k) (first t (suc k) n) ≡ None → (first t (suc k) n ≡ None → (j : ℕ) → suc k ≤ j → j < suc k + n → t j ≡ false) → t j ≡ false
    go true h q rec = absurd (some_no q)
    go false h q rec = ⊎_elim (λ (z : j ≡ k). subst (λ x. t x ≡ false) (sym z) h) (λ (z : j ≡ k → ⊥). rec q j (omega arith) (omega arith)) (cases_eq j k)

-- a search that has come past i of n numbers
pub first_here : (t : ℕ → Bool) (k n i : ℕ) → i < n → t (k + i) ≡ true → first t (k + i) (n - i) ≡ Some (k + i)
first_here t k n i l h =
    let e : n - i ≡ suc (n - i - 1) = omega arith in
    ap (first t (k + i)) e ∙ ap (λ b. cond b (Some (k + i)) (first t (suc (k + i)) (n - i - 1))) h

pub first_next : (t : ℕ → Bool) (k n i : ℕ) → i < n → t (k + i) ≡ false → first t (k + i) (n - i) ≡ first t (k + (i + 1)) (n - (i + 1))
first_next t k n i l h =
    let e : n - i ≡ suc (n - i - 1) = omega arith in
    let up : suc (k + i) ≡ k + (i + 1) = omega arith in
    let less : n - i - 1 ≡ n - (i + 1) = omega arith in
    ap (first t (k + i)) e ∙ ap (λ b. cond b (Some (k + i)) (first t (suc (k + i)) (n - i - 1))) h ∙ ap (λ x. first t x (n - i - 1)) up ∙ ap (first t (k + (i + 1))) less

pub first_past : (t : ℕ → Bool) (k n i : ℕ) → n ≤ i → first t (k + i) (n - i) ≡ None
first_past t k n i l = let e : n - i ≡ 0 = omega arith in ap (first t (k + i)) e

-- the search of a range's numbers is that of the same numbers in a list
pub first_find : (t : ℕ → Bool) (k n : ℕ) → find t (range_with_len k n) ≡ first t k n
first_find t k zero = refl
first_find t k (suc n) = ap (cond (t k) (Some k)) (first_find t (k + 1) n ∙ ap (λ j. first t j n) (let up : k + 1 ≡ suc k = omega arith in up))
