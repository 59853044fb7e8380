-- Searches, tables with one place changed, and the checks
use Rattle.std.proofs.Common.{◌≡◌, ℕ, zero, suc, ◌+◌, ◌*◌, ◌<◌, ◌≤◌, Bool, true, false, cond, eqb, ◌⊎◌, List, [], ◌∷◌, length, get_or, set, Some, None, Option, sym, refl, ap, subst, inl, inr, le_of_suc-le-suc, not-suc-le-zero, mul-le-mul_right, suc-mul, arith}
use Rattle.std.proofs.lemmas.List.{get_or-set_other, get_or-set_same}
use Rattle.std.proofs.lemmas.Bool.{cases_eq, cases_order, eq-eqb, eqb-false, eqb-true, ne_eqb}
use Rattle.std.specs.Option.{option_map}
use Rattle.operation.specs.Algebra.{Algebra, applied}
use Rattle.tables.specs.declared.refusal.Refusal.{Refusal}
use Rattle.party_set.proofs.Searches.{some_no}
use Rattle.model.specs.Bench.{lookup}
use Rattle.model.specs.Reference.{put}
use Rattle.model.specs.Steps.{need}

-- what holds at each place after one is changed
pub set_all : {X : Type 0} (Q : ℕ → X → Type 0) (xs : List X) (i : ℕ) (x d : X) → i < length xs → Q i x → ((j : ℕ) → (j ≡ i → ⊥) → Q j (get_or xs j d)) → (j : ℕ) → Q j (get_or (set xs i x) j d)
set_all Q xs i x d h here there j = go (cases_eq j i)
  where
    go : (j ≡ i) ⊎ (j ≡ i → ⊥) → Q j (get_or (set xs i x) j d)
    go (inl e) = subst (λ n. Q n (get_or (set xs i x) n d)) (sym e) (subst (λ y. Q i y) (sym (get_or-set_same xs i x d h)) here)
    go (inr n) = subst (λ y. Q j y) (sym (get_or-set_other xs i j x d n)) (there j n)

-- the same for a function with one place changed
pub put_all : {X : Type 0} (Q : ℕ → X → Type 0) (f : ℕ → X) (i : ℕ) (x : X) → Q i x → ((j : ℕ) → (j ≡ i → ⊥) → Q j (f j)) → (j : ℕ) → Q j (put f i x j)
put_all Q f i x here there j = go (eqb j i) refl
  where
    go : (b : Bool) → eqb j i ≡ b → Q j (cond b x (f j))
    go true e = subst (λ n. Q n x) (sym (eqb-true j i e)) here
    go false e = there j (eqb-false j i e)

pub put_same : {X : Type 0} (f : ℕ → X) (i : ℕ) (x : X) → put f i x i ≡ x
put_same f i x = rw (eq-eqb i i refl)

pub put_other : {X : Type 0} (f : ℕ → X) (i : ℕ) (x : X) (j : ℕ) → (j ≡ i → ⊥) → put f i x j ≡ f j
put_other f i x j n = rw (ne_eqb j i n)

-- both tables change at one place
pub set_put_all : {X Y : Type 0} (Q : ℕ → X → Y → Type 0) (xs : List X) (f : ℕ → Y) (i : ℕ) (x d : X) (y : Y) → i < length xs → Q i x y → ((j : ℕ) → (j ≡ i → ⊥) → Q j (get_or xs j d) (f j)) → (j : ℕ) → Q j (get_or (set xs i x) j d) (put f i y j)
set_put_all Q xs f i x d y h here there =
    set_all (λ j z. Q j z (put f i y j)) xs i x d h (subst (λ z. Q i x z) (sym (put_same f i y)) here) (λ j n. subst (λ z. Q j (get_or xs j d) z) (sym (put_other f i y j n)) (there j n))

pub lookup_set_same : {X : Type 0} (xs : List X) (i : ℕ) (x : X) → i < length xs → lookup (set xs i x) i ≡ Some x
lookup_set_same [] i x h = absurd (not-suc-le-zero h)
lookup_set_same (y ∷ xs) zero x h = refl
lookup_set_same (y ∷ xs) (suc i) x h = lookup_set_same xs i x (le_of_suc-le-suc h)

pub lookup_set_other : {X : Type 0} (xs : List X) (i j : ℕ) (x : X) → (j ≡ i → ⊥) → lookup (set xs i x) j ≡ lookup xs j
lookup_set_other [] i j x n = refl
lookup_set_other (y ∷ xs) zero zero x n = absurd (n refl)
lookup_set_other (y ∷ xs) zero (suc j) x n = refl
lookup_set_other (y ∷ xs) (suc i) zero x n = refl
lookup_set_other (y ∷ xs) (suc i) (suc j) x n = lookup_set_other xs i j x (λ e. n (ap suc e))

pub lookup_applied_same : {V P : Type 0} (o : Algebra V P) (xs : List V) (i : ℕ) (d : P) → lookup (applied o xs i d) i ≡ option_map (λ v. o.act v d) (lookup xs i)
lookup_applied_same o [] i d = refl
lookup_applied_same o (y ∷ xs) zero d = refl
lookup_applied_same o (y ∷ xs) (suc i) d = lookup_applied_same o xs i d

pub lookup_applied_other : {V P : Type 0} (o : Algebra V P) (xs : List V) (i j : ℕ) (d : P) → (j ≡ i → ⊥) → lookup (applied o xs i d) j ≡ lookup xs j
lookup_applied_other o [] i j d n = refl
lookup_applied_other o (y ∷ xs) zero zero d n = absurd (n refl)
lookup_applied_other o (y ∷ xs) zero (suc j) d n = refl
lookup_applied_other o (y ∷ xs) (suc i) zero d n = refl
lookup_applied_other o (y ∷ xs) (suc i) (suc j) d n = lookup_applied_other o xs i j d (λ e. n (ap suc e))

pub lookup_some : {X : Type 0} (xs : List X) (i : ℕ) → i < length xs → (x : X) × (lookup xs i ≡ Some x)
lookup_some [] i h = absurd (not-suc-le-zero h)
lookup_some (y ∷ xs) zero h = (y, refl)
lookup_some (y ∷ xs) (suc i) h = lookup_some xs i (le_of_suc-le-suc h)

-- a check that passed
pub need_none : (b : Bool) (n : Refusal) (o : Option Refusal) → need b n o ≡ None → (b ≡ true) × (o ≡ None)
need_none true n o e = (refl, e)
need_none false n o e = absurd (some_no e)

-- line i is of party q
abbrev pub Owns : ℕ → ℕ → ℕ → Type 0
Owns w q i = (q * w ≤ i) × (i < q * w + w)

pub owner_below : (w q i n : ℕ) → q < n → Owns w q i → i < n * w
owner_below w q i n h o = let m : suc q * w ≤ n * w = mul-le-mul_right w h in omega (arith, suc-mul q w, o.1)

pub one_owner : (w q r i : ℕ) → Owns w q i → Owns w r i → q ≡ r
one_owner w q r i o u = go (cases_order q r)
  where
    go : (q ≡ r) ⊎ ((q < r) ⊎ (r < q)) → q ≡ r
    go (inl e) = e
    go (inr (inl h)) = absurd (let m : suc q * w ≤ r * w = mul-le-mul_right w h in omega (arith, suc-mul q w, o.1, u.0))
    go (inr (inr h)) = absurd (let m : suc r * w ≤ q * w = mul-le-mul_right w h in omega (arith, suc-mul r w, u.1, o.0))
