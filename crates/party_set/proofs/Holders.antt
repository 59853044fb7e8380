-- The laws of a set of parties, from its bits
use Rattle.std.proofs.Common.{◌≡◌, ℕ, ◌+◌, ◌*◌, ◌/◌, ◌%◌, ◌^◌, ◌<◌, ◌≤◌, max, true, false, eqb, Some, None, sym, refl, ap, ◌∙◌, inl, inr, ◌⊎◌, ⊎_elim, bit_and, w16, arith}
use native.Mathlib.Nat.{div-div-eq-div-mul}
use Rattle.std.specs.Int.{bit_at, bit_not}
use Rattle.std.proofs.lemmas.Bool.{cases_Bool, cases_eq, cases_lt, eqb-true, eq-eqb}
use Rattle.std.proofs.lemmas.Nat.{pow_pos, pow-add, mod_below, div-add-mod'}
use Rattle.std.proofs.lemmas.Nat.Bits.{bit_at-lt, bit_at-zero, bit_at-pow_same, bit_at-pow_other, bit_at_or, bit_at_xor, bit_at_above, bit_at_and, bit_at_clear_same, bit_at_clear_other, same_from_bits}
use Rattle.std.proofs.lemmas.Bool.Decides.{nat_tests}
use Rattle.party_set.specs.declared.PartySet.{PartySet}
use Rattle.party_set.specs.Sets.{has, nobody, with, without, lowest_from, lowest}
use Rattle.party_set.proofs.Searches.{first_some, first_none}

-- a test of a bit tells the bit
bit_told : (a b : ℕ) → a < 2 → b < 2 → eqb a 1 ≡ eqb b 1 → a ≡ b
bit_told a b la lb e = grind (arith, nat_tests)

pub set_same : (h g : PartySet) → h.members ≡ g.members → h ≡ g
set_same h g e = ap {B = PartySet} (λ (x : ℕ). record { members = x }) e

-- sets with the same members are equal
pub same_members : (h g : PartySet) → ((q : ℕ) → has h q ≡ has g q) → h ≡ g
same_members h g alike = set_same h g (same_from_bits h.members g.members (λ q. bit_told _ _ (bit_at-lt h.members q) (bit_at-lt g.members q) (alike q)))

pub has_nobody : (q : ℕ) → has nobody q ≡ false
has_nobody q = ap (λ x. eqb x 1) (bit_at-zero q)

pub no_members : (h : PartySet) → ((q : ℕ) → has h q ≡ false) → h ≡ nobody
no_members h none = same_members h nobody (λ q. none q ∙ sym (has_nobody q))

-- the bits of the set with a party, and of the set without it
bit_with : (h : PartySet) (q r b : ℕ) → bit_at (2 ^ q) r ≡ b → bit_at (with h q).members r ≡ max (bit_at h.members r) b
bit_with h q r b e = rw (← e) (bit_at_or h.members (2 ^ q) r)

bit_without : (h : PartySet) (q r b : ℕ) → bit_at (2 ^ q) r ≡ b → bit_at (without h q).members r ≡ (max (bit_at h.members r) b + b) % 2
bit_without h q r b e = bit_at_xor (with h q).members (2 ^ q) r ∙ rw (bit_with h q r b e, e) refl

pub with_same : (h : PartySet) (q : ℕ) → has (with h q) q ≡ true
with_same h q = eq-eqb _ 1 (bit_with h q q 1 (bit_at-pow_same q) ∙ omega (arith, bit_at-lt h.members q))

pub with_other : (h : PartySet) (q r : ℕ) → (r ≡ q → ⊥) → has (with h q) r ≡ has h r
with_other h q r n = ap (λ x. eqb x 1) (bit_with h q r 0 (bit_at-pow_other q r n) ∙ omega arith)

pub without_same : (h : PartySet) (q : ℕ) → has (without h q) q ≡ false
without_same h q = ap (λ x. eqb x 1) {y = 0} (bit_without h q q 1 (bit_at-pow_same q) ∙ omega (arith, bit_at-lt h.members q))

pub without_other : (h : PartySet) (q r : ℕ) → (r ≡ q → ⊥) → has (without h q) r ≡ has h r
without_other h q r n = ap (λ x. eqb x 1) (bit_without h q r 0 (bit_at-pow_other q r n) ∙ omega (arith, bit_at-lt h.members r))

-- the set without a party, by a mask of all other bits
pub without_mask : (h : PartySet) (q : ℕ) → q < 16 → h.members < 2 ^ 16 → record { members = bit_and h.members (bit_not w16 (1 * 2 ^ q % 2 ^ 16)) } ≡ without h q
without_mask h q l fits = set_same _ (without h q) (same_from_bits _ _ (λ r. bits r (cases_eq r q) (cases_lt r 16)))
  where
    others : ℕ
    others = bit_not w16 (1 * 2 ^ q % 2 ^ 16)

    kept : (r : ℕ) → (r ≡ q → ⊥) → bit_at (without h q).members r ≡ bit_at h.members r
    kept r n = bit_without h q r 0 (bit_at-pow_other q r n) ∙ omega (arith, bit_at-lt h.members r)

    bits : (r : ℕ) → (r ≡ q) ⊎ (r ≡ q → ⊥) → (r < 16) ⊎ (16 ≤ r) → bit_at (bit_and h.members others) r ≡ bit_at (without h q).members r
    bits r (inl e) _ = rw e (bit_at_clear_same w16 h.members q l ∙ sym (bit_without h q q 1 (bit_at-pow_same q) ∙ omega (arith, bit_at-lt h.members q)))
    bits r (inr n) (inl m) = bit_at_clear_other w16 h.members q l r m n ∙ sym (kept r n)
    bits r (inr n) (inr m) = omega (arith, bit_at_and h.members others r, bit_at_above h.members 16 r fits m, kept r n)

-- a set whose parties are below n is a number below 2 ^ n, and the other way round
pub parties_below : (h : PartySet) (n : ℕ) → ((q : ℕ) → has h q ≡ true → q < n) → h.members < 2 ^ n
parties_below h n f =
    let none : h.members / 2 ^ n ≡ 0 = same_from_bits (h.members / 2 ^ n) 0 (λ q. bit_told _ _ (bit_at-lt (h.members / 2 ^ n) q) (bit_at-lt 0 q) (ap (λ x. eqb (x % 2) 1) (high_bits q) ∙ high (n + q) (omega arith) ∙ sym (has_nobody q))) in
    omega (arith, div-add-mod' h.members (2 ^ n), mod_below h.members (2 ^ n) (pow_pos n), ap (λ x. x * 2 ^ n) none)
  where
    high_bits : (q : ℕ) → h.members / 2 ^ n / 2 ^ q ≡ h.members / 2 ^ (n + q)
    high_bits q = div-div-eq-div-mul h.members (2 ^ n) (2 ^ q) ∙ ap (λ x. h.members / x) (sym (pow-add 2 n q))

    high : (q : ℕ) → n ≤ q → has h q ≡ false
    high q l = ⊎_elim (λ (e : has h q ≡ true). absurd (let x : q < n = f q e in omega arith)) (λ e. e) (cases_Bool (has h q))

pub below_parties : (h : PartySet) (n : ℕ) → h.members < 2 ^ n → (q : ℕ) → has h q ≡ true → q < n
below_parties h n small q t = ⊎_elim (λ (l : q < n). l) (λ (l : n ≤ q). absurd (omega (arith, eqb-true (bit_at h.members q) 1 t, bit_at_above h.members n q small l))) (cases_lt q n)

-- what the search for the lowest party finds
pub lowest_some : (h : PartySet) (q : ℕ) → lowest h ≡ Some q → (has h q ≡ true) × ((r : ℕ) → r < q → has h r ≡ false)
unfolding lowest_from
lowest_some h q e = let f = first_some (has h) 0 16 q e in (f.2, λ r l. f.3 r (omega arith) l)

pub lowest_none : (h : PartySet) → lowest h ≡ None → (r : ℕ) → r < 16 → has h r ≡ false
unfolding lowest_from
lowest_none h e r l = first_none (has h) 0 16 e r (omega arith) (omega arith)
