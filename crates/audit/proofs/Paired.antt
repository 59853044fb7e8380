-- A test of each two elements at one place of two lists, by a walk over both at once
use Rattle.std.proofs.Common.{◌≡◌, ℕ, zero, suc, ◌+◌, ◌<◌, ◌≤◌, Bool, true, List, [], ◌∷◌, length, get_or, Decides, refl, subst, arith}
use Rattle.std.proofs.lemmas.Bool.{and_from, and_parts}
use Rattle.std.specs.List.{enumerate_from, list_all, zip}
use Rattle.tables.specs.declared.register.Register.{Register}
use Rattle.tables.specs.declared.entry.Entry.{Entry}
use Rattle.party_set.specs.declared.PartySet.{PartySet}
use Rattle.party_set.specs.Sets.{nobody}
use Rattle.tables.specs.Legal.{blank}
use Rattle.audit.specs.Audit.{entry_right}

module _ {X Y : Type 0} (test : ℕ → X → Y → Bool) (dx : X) (dy : Y) where
  abbrev Each : ℕ → List X → List Y → Type 0
  Each n xs ys = (a : ℕ) → a < length xs → test (n + a) (get_or xs a dx) (get_or ys a dy) ≡ true

  each_here : (n : ℕ) (x : X) (xs : List X) (y : Y) (ys : List Y) → Each n (x ∷ xs) (y ∷ ys) → (test n x y ≡ true) × Each (n + 1) xs ys
  each_here n x xs y ys each =
      let first : n + 0 ≡ n = omega arith in (
        subst (λ k. test k x y ≡ true) first (each 0 (omega arith)),
        λ a l. let next : n + suc a ≡ n + 1 + a = omega arith in subst (λ k. test k (get_or xs a dx) (get_or ys a dy) ≡ true) next (each (suc a) (omega arith)),
      )

  each_more : (n : ℕ) (x : X) (xs : List X) (y : Y) (ys : List Y) → (test n x y ≡ true) → Each (n + 1) xs ys → Each n (x ∷ xs) (y ∷ ys)
  each_more n x xs y ys t each zero l = let first : n ≡ n + 0 = omega arith in subst (λ k. test k x y ≡ true) first t
  each_more n x xs y ys t each (suc a) l = let next : n + 1 + a ≡ n + suc a = omega arith in subst (λ k. test k (get_or xs a dx) (get_or ys a dy) ≡ true) next (each a (omega arith))

  each_decided : (n : ℕ) (xs : List X) (ys : List Y) → length xs ≤ length ys → Decides (list_all (λ (p : ℕ × (X × Y)). test p.0 p.1.0 p.1.1) (enumerate_from n (zip xs ys))) (Each n xs ys)
  each_decided n [] ys long = (λ _ a l. absurd (omega arith), λ _. refl)
  each_decided n (x ∷ xs) [] long = absurd (omega arith)
  each_decided n (x ∷ xs) (y ∷ ys) long =
      let rest = each_decided (n + 1) xs ys (omega arith) in (
        λ e. let parts = and_parts (test n x y) _ e in each_more n x xs y ys parts.0 (rest.0 parts.1),
        λ each. let parts = each_here n x xs y ys each in and_from (test n x y) _ parts.0 (rest.1 parts.1),
      )

pub each_entry : {V P : Type 0} (registers : List (Register V P)) (directory : List Entry) (found : List PartySet) → length directory ≤ length found
    → Decides (list_all (λ (p : ℕ × (Entry × PartySet)). entry_right registers p.0 p.1.0 p.1.1) (enumerate_from 0 (zip directory found))) ((a : ℕ) → a < length directory → entry_right registers a (get_or directory a (blank 0)) (get_or found a nobody) ≡ true)
each_entry registers directory found long =
    let all = each_decided (entry_right registers) (blank 0) nobody 0 directory found long in (
      λ e a l. let from : 0 + a ≡ a = omega arith in subst (λ k. entry_right registers k (get_or directory a (blank 0)) (get_or found a nobody) ≡ true) from (all.0 e a l),
      λ each. all.1 (λ a l. let from : a ≡ 0 + a = omega arith in subst (λ k. entry_right registers k (get_or directory a (blank 0)) (get_or found a nobody) ≡ true) from (each a l)),
    )
