-- How much is left to do for a party that waits: counting, and the way round
-- how many numbers below n pass
use Rattle.std.proofs.Common.{◌≡◌, ℕ, zero, suc, ◌+◌, ◌-◌, ◌*◌, ◌%◌, ◌<◌, ◌≤◌, Bool, true, false, cond, ltb, ◌⊎◌, Some, None, Option, sym, refl, ap, ◌∙◌, subst, inl, inr, ⊎_elim, add-zero, add-suc, mod-eq_of_lt, suc-mul, arith}
use native.Mathlib.Nat.{mod-eq-sub-mod}
use Rattle.std.proofs.lemmas.Bool.{both_ways, cases_Bool, cases_eq, ltb-false, ltb-true}
use Rattle.model.proofs.Basics.{Owns}
use Rattle.party_set.proofs.Searches.{first_none, first_some}
use Rattle.party_set.specs.Searches.{first}

abbrev pub tally : (ℕ → Bool) → ℕ → ℕ
tally t zero = 0
tally t (suc n) = cond (t n) 1 0 + tally t n

pub tally_mono : (t u : ℕ → Bool) (n : ℕ) → ((j : ℕ) → u j ≡ true → t j ≡ true) → tally u n ≤ tally t n
tally_mono t u zero h = omega arith
tally_mono t u (suc n) h = go (u n) refl (tally_mono t u n h)
  where
    go : (x : Bool) → u n ≡ x → tally u n ≤ tally t n → cond x 1 0 + tally u n ≤ cond (t n) 1 0 + tally t n
    go true e r = rw (h n e) (omega arith)
    go false e r = omega arith

pub tally_less : (t u : ℕ → Bool) (n i : ℕ) → i < n → t i ≡ true → u i ≡ false → ((j : ℕ) → (j ≡ i → ⊥) → u j ≡ t j) → tally u n + 1 ≤ tally t n
tally_less t u zero i h a b same = absurd (omega arith)
tally_less t u (suc n) i h a b same = go (cases_eq n i) (tally_less t u n i)
  where
    below : (m : ℕ) → m ≤ i → tally u m ≤ tally t m
    below m z = tally-mono-below m z
      where
        tally-mono-below : (m : ℕ) → m ≤ i → tally u m ≤ tally t m
        tally-mono-below zero z = omega arith
        tally-mono-below (suc m) z = rw (same m (omega arith)) (omega (arith, tally-mono-below m (omega arith)))

    go : (n ≡ i) ⊎ (n ≡ i → ⊥) → (i < n → t i ≡ true → u i ≡ false → ((j : ℕ) → (j ≡ i → ⊥) → u j ≡ t j) → tally u n + 1 ≤ tally t n) → cond (u n) 1 0 + tally u n + 1 ≤ cond (t n) 1 0 + tally t n
    go (inl e) rec = rw (ap u e ∙ b, ap t e ∙ a) (omega (arith, below n (omega arith)))
    go (inr m) rec = rw (same n m) (omega (arith, rec (omega arith) a b same))

pub tally_none : (t : ℕ → Bool) (n : ℕ) → ((j : ℕ) → j < n → t j ≡ false) → tally t n ≡ 0
tally_none t zero h = refl
tally_none t (suc n) h = rw (h n (omega arith)) (omega (arith, tally_none t n (λ j z. h j (omega arith))))

pub tally_one : (t : ℕ → Bool) (n : ℕ) → ((i j : ℕ) → i < n → j < n → t i ≡ true → t j ≡ true → i ≡ j) → tally t n ≤ 1
tally_one t zero h = omega arith
tally_one t (suc n) h = go (t n) refl (tally_one t n (λ i j a b. h i j (omega arith) (omega arith)))
  where
    go : (x : Bool) → t n ≡ x → tally t n ≤ 1 → cond x 1 0 + tally t n ≤ 1
    go false e r = omega arith
    go true e r = omega (arith, tally_none t n (λ j z. ⊎_elim (λ (y : t j ≡ true). absurd (let w : j ≡ n = h j n (omega arith) (omega arith) y e in omega arith)) (λ y. y) (cases_Bool (t j))))

pub tally_add : (t : ℕ → Bool) (m n : ℕ) → tally t (m + n) ≡ tally t m + tally (λ j. t (m + j)) n
tally_add t m zero = ap (tally t) (add-zero m) ∙ omega arith
tally_add t m (suc n) = ap (tally t) (add-suc m n) ∙ omega (arith, tally_add t m n)

-- no party's ways pass more than once
module _ (t : ℕ → Bool) (w : ℕ) (single : (q i j : ℕ) → Owns w q i → Owns w q j → t i ≡ true → t j ≡ true → i ≡ j) where
  block : (p : ℕ) → tally (λ j. t (p * w + j)) w ≤ 1
  block p = tally_one (λ j. t (p * w + j)) w (λ i j a b x y. let e : p * w + i ≡ p * w + j = single p (p * w + i) (p * w + j) (omega arith, omega arith) (omega arith, omega arith) x y in omega arith)

  more : (p : ℕ) → tally t (suc p * w) ≡ tally t (p * w) + tally (λ j. t (p * w + j)) w
  more p = ap (tally t) (suc-mul p w) ∙ tally_add t (p * w) w

  pub tally_parties : (p : ℕ) → tally t (p * w) ≤ p
  tally_parties zero = omega (arith, ap (tally t) (native.Mathlib.Nat.zero-mul w))
  tally_parties (suc p) = omega (arith, more p, block p, tally_parties p)

  pub tally_without : (q : ℕ) → ((i : ℕ) → Owns w q i → t i ≡ false) → (p : ℕ) → q < p → tally t (p * w) + 1 ≤ p
  tally_without q free zero h = absurd (omega arith)
  tally_without q free (suc p) h = go (cases_eq q p) (tally_without q free p)
    where
      go : (q ≡ p) ⊎ (q ≡ p → ⊥) → (q < p → tally t (p * w) + 1 ≤ p) → tally t (suc p * w) + 1 ≤ suc p
      go (inl e) rec = omega (arith, more p, tally_parties p, tally_none (λ j. t (p * w + j)) w (λ j z. free (p * w + j) (subst (λ y. Owns w y (p * w + j)) (sym e) (omega arith, omega arith))))
      go (inr n) rec = omega (arith, more p, block p, rec (omega arith))

-- 1 if nothing passes
abbrev pub missing : Option ℕ → ℕ
missing None = 1
missing (Some i) = 0

pub missing_mono : (t u : ℕ → Bool) (a n : ℕ) → ((j : ℕ) → a ≤ j → j < a + n → t j ≡ true → u j ≡ true) → missing (first u a n) ≤ missing (first t a n)
missing_mono t u a n h = go (first t a n) refl (first u a n) refl
  where
    go : (x : Option ℕ) → first t a n ≡ x → (y : Option ℕ) → first u a n ≡ y → missing y ≤ missing x
    go None e None f = omega arith
    go None e (Some j) f = omega arith
    go (Some i) e (Some j) f = omega arith
    go (Some i) e None f = let z = first_some t a n i e in absurd (both_ways _ (first_none u a n f i z.0 z.1) (h i z.0 z.1 z.2))

pub missing_some : (t : ℕ → Bool) (a n i : ℕ) → a ≤ i → i < a + n → t i ≡ true → missing (first t a n) ≡ 0
missing_some t a n i lo hi h = go (first t a n) refl
  where
    go : (x : Option ℕ) → first t a n ≡ x → missing x ≡ 0
    go (Some j) e = refl
    go None e = absurd (both_ways _ (first_none t a n e i lo hi) h)

pub missing_none : (t : ℕ → Bool) (a n : ℕ) → ((j : ℕ) → a ≤ j → j < a + n → t j ≡ false) → missing (first t a n) ≡ 1
missing_none t a n h = go (first t a n) refl
  where
    go : (x : Option ℕ) → first t a n ≡ x → missing x ≡ 1
    go None e = refl
    go (Some j) e = let z = first_some t a n j e in absurd (both_ways _ (h j z.0 z.1) z.2)

-- how far p is after x, going round
abbrev pub dist : ℕ → ℕ → ℕ → ℕ
dist n x p = cond (ltb x p) (p - x) (p + n - x)

pub dist_cases : (n x p : ℕ) → ((x < p) × (dist n x p ≡ p - x)) ⊎ ((p ≤ x) × (dist n x p ≡ p + n - x))
dist_cases n x p = go (ltb x p) refl
  where
    go : (y : Bool) → ltb x p ≡ y → ((x < p) × (cond y (p - x) (p + n - x) ≡ p - x)) ⊎ ((p ≤ x) × (cond y (p - x) (p + n - x) ≡ p + n - x))
    go true e = inl (ltb-true x p e, refl)
    go false e = inr (ltb-false x p e, refl)

pub dist_low : (n x p : ℕ) → x < n → p < n → 1 ≤ dist n x p
dist_low n x p h g = omega (arith, dist_cases n x p)

pub dist_high : (n x p : ℕ) → x < n → p < n → dist n x p ≤ n
dist_high n x p h g = omega (arith, dist_cases n x p)

pub dist_other : (n x p : ℕ) → x < n → p < n → (x ≡ p → ⊥) → dist n x p + 1 ≤ n
dist_other n x p h g m = omega (arith, dist_cases n x p)

-- the party d after the one after x
pub round_cases : (n x d : ℕ) → x < n → d < n → ((x + 1 + d < n) × ((x + 1 + d) % n ≡ x + 1 + d)) ⊎ ((n ≤ x + 1 + d) × ((x + 1 + d) % n + n ≡ x + 1 + d))
round_cases n x d h g = go (cases_Bool (ltb (x + 1 + d) n))
  where
    go : (ltb (x + 1 + d) n ≡ true) ⊎ (ltb (x + 1 + d) n ≡ false) → ((x + 1 + d < n) × ((x + 1 + d) % n ≡ x + 1 + d)) ⊎ ((n ≤ x + 1 + d) × ((x + 1 + d) % n + n ≡ x + 1 + d))
    go (inl e) = let l = ltb-true (x + 1 + d) n e in inl (l, mod-eq_of_lt l)
    go (inr e) =
        let l = ltb-false (x + 1 + d) n e in
        let m : (x + 1 + d) % n ≡ x + 1 + d - n = mod-eq-sub-mod l ∙ mod-eq_of_lt (omega arith) in
        inr (l, omega arith)

pub dist_round : (n x d : ℕ) → x < n → d < n → dist n x ((x + 1 + d) % n) ≡ d + 1
dist_round n x d h g = omega (arith, round_cases n x d h g, dist_cases n x ((x + 1 + d) % n))

-- each party is some way after x
pub round_dist : (n x p : ℕ) → x < n → p < n → (d : ℕ) × (d < n) × ((x + 1 + d) % n ≡ p) × (dist n x p ≡ d + 1)
round_dist n x p h g =
    let d : ℕ = dist n x p - 1 in
    let small : d < n = omega (arith, dist_low n x p h g, dist_high n x p h g) in
    (d, small, omega (arith, round_cases n x d h small, dist_cases n x p), omega (arith, dist_low n x p h g))

-- a party met on the way from x to p is nearer to p
pub dist_between : (n x d e : ℕ) → x < n → d < e → e < n → dist n ((x + 1 + d) % n) ((x + 1 + e) % n) + d ≡ e
dist_between n x d e h g f = omega (arith, round_cases n x d h (omega arith), round_cases n x e h f, dist_cases n ((x + 1 + d) % n) ((x + 1 + e) % n))
