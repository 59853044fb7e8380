-- A way is looked for in an order from the oldest on, and what stands from it on is rotated by one.
use Rattle.std.proofs.Common.{◌≡◌, ℕ, zero, suc, ◌+◌, ◌-◌, ◌<◌, ◌≤◌, List, [], ◌∷◌, ◌++◌, length, get_or, take, drop, sym, refl, ap, ◌∙◌, arith}
use borrow.Rule.Slice.PartMut.{put_mid}
use Rattle.std.proofs.lemmas.List.{append_assoc, append-nil, at_drop_more, drop_all, drop_more, take_all, take_more, take_rest, length-drop}
use Rattle.std.proofs.lemmas.Bool.{cond-true, cond-false, eq-eqb, ne_eqb}
use Rattle.std.specs.List.{AllWithin, HoldsAt}
use Rattle.victim.specs.Ages.{newest}

newest_passed : (xs : List ℕ) (i way : ℕ) → i < length xs → (get_or xs i 0 ≡ way → ⊥) → take (i + 1) xs ++ newest (drop (i + 1) xs) way ≡ take i xs ++ newest (drop i xs) way
newest_passed xs i way h ne =
    rw (take_more xs i 0 h, append_assoc) (ap (λ ys. take i xs ++ ys) (sym (at_drop_more (λ ys. newest ys way) xs i 0 h ∙ cond-false _ _ _ (ne_eqb (get_or xs i 0) way ne))))

newest_found : (xs ys : List ℕ) (i way : ℕ) → i < length xs → get_or xs i 0 ≡ way → ys ≡ drop 1 (take (length xs - i) (drop i xs)) ++ take 1 (take (length xs - i) (drop i xs)) → put_mid i (length xs - i) xs ys ≡ take i xs ++ newest (drop i xs) way
newest_found xs ys i way h e turned =
    let from : take (length xs - i) (drop i xs) ≡ way ∷ drop (i + 1) xs = rw (← e) (take_rest xs i ∙ drop_more xs i 0 h) in
    let past : drop (length xs - i) (drop i xs) ≡ [] = drop_all (length xs - i) (drop i xs) (simp length-drop (omega arith)) in
    let put : ys ++ drop (length xs - i) (drop i xs) ≡ drop (i + 1) xs ++ way ∷ [] = rw past (append-nil ys ∙ turned ∙ ap (λ zs. drop 1 zs ++ take 1 zs) from) in
    let made : newest (drop i xs) way ≡ drop (i + 1) xs ++ way ∷ [] = at_drop_more (λ zs. newest zs way) xs i 0 h ∙ cond-true _ _ _ (eq-eqb (get_or xs i 0) way e) in
    ap (λ zs. take i xs ++ zs) (put ∙ sym made)

-- what stands before the first place of the way stays
newest_skips : (xs : List ℕ) (i way : ℕ) → i ≤ length xs → AllWithin (λ x. x ≡ way → ⊥) xs 0 i → take i xs ++ newest (drop i xs) way ≡ newest xs way
newest_skips xs zero way h others = refl
newest_skips xs (suc i) way h others =
    let up : suc i ≡ i + 1 = omega arith in
    ap (λ k. take k xs ++ newest (drop k xs) way) up ∙ newest_passed xs i way (omega arith) (others i 0 (omega arith) (omega arith)) ∙ newest_skips xs i way (omega arith) (λ j d _ l. others j d (omega arith) (omega arith))

pub newest_turned : (xs ys : List ℕ) (i way : ℕ) → (i < length xs) × HoldsAt (λ x. x ≡ way) xs i × AllWithin (λ x. x ≡ way → ⊥) xs 0 i → ys ≡ drop 1 (take (length xs - i) (drop i xs)) ++ take 1 (take (length xs - i) (drop i xs)) → put_mid i (length xs - i) xs ys ≡ newest xs way
newest_turned xs ys i way (h, is, others) turned = newest_found xs ys i way h (is 0) turned ∙ newest_skips xs i way (omega arith) others

pub newest_missing : (xs : List ℕ) (way : ℕ) → AllWithin (λ x. x ≡ way → ⊥) xs 0 (length xs) → xs ≡ newest xs way
newest_missing xs way others =
    let all : length xs ≤ length xs = omega arith in
    sym (rw (take_all (length xs) xs all, drop_all (length xs) xs all) (append-nil xs)) ∙ newest_skips xs (length xs) way all others
