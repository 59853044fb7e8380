-- The values of a row that count, and those beyond: how many, what a load finds, what a write leaves.
use Rattle.std.proofs.Common.{◌≡◌, ℕ, zero, suc, ◌<◌, ◌≤◌, min, List, [], ◌∷◌, ◌++◌, length, get_or, take, set, Ok, sym, refl, ap, ◌∙◌, arith}
use native.Mathlib.Nat.{min_comm}
use Rattle.std.proofs.lemmas.List.{length-take, get_or-take, take_all, take-append-drop, take_min, drop-set-lt}
use Rattle.memory.specs.Homes.{loaded}
use Rattle.memory.specs.Row.{counted, beyond}
use Rattle.memory.proofs.Places.{loaded_within, placed_within, placed_outside, placed_from_loaded, outside_from_loaded}
use Rattle.memory.proofs.Applied.{applied_loaded}
use Rattle.operation.proofs.Applied.{applied_past}

pub length_counted : {V : Type 0} (row : List V) → length (counted row) ≡ min (length row) 65536
unfolding counted
length_counted row = length-take 65536 row ∙ min_comm 65536 (length row)

pub counted_few : {V : Type 0} (row : List V) → length row ≤ 65536 → counted row ≡ row
unfolding counted
counted_few row h = take_all 65536 row h

pub counted_beyond : {V : Type 0} (row : List V) → counted row ++ beyond row ≡ row
unfolding counted beyond
counted_beyond row = take-append-drop 65536 row

pub loaded_counted : {V : Type 0} (row : List V) (i : ℕ) (v : V) → i < length (counted row) → v ≡ get_or row i v → loaded (counted row) i ≡ Ok v
unfolding counted
loaded_counted row i v h e =
    let few : i < 65536 = omega (arith, length_counted row) in
    loaded_within (take 65536 row) i v h ∙ ap Ok (get_or-take 65536 row i v few ∙ sym e)

take_set_any : {V : Type 0} (n : ℕ) (row : List V) (i : ℕ) (v : V) → take n (set row i v) ≡ set (take n row) i v
take_set_any zero [] i v = refl
take_set_any zero (u ∷ us) zero v = refl
take_set_any zero (u ∷ us) (suc i) v = refl
take_set_any (suc n) [] i v = refl
take_set_any (suc n) (u ∷ us) zero v = refl
take_set_any (suc n) (u ∷ us) (suc i) v = ap (λ t. u ∷ t) (take_set_any n us i v)

pub counted_set : {V : Type 0} (row : List V) (i : ℕ) (v : V) → counted (set row i v) ≡ set (counted row) i v
unfolding counted
counted_set row i v = take_set_any 65536 row i v

pub beyond_set : {V : Type 0} (row : List V) (i : ℕ) (v : V) → i < 65536 → beyond (set row i v) ≡ beyond row
unfolding beyond
beyond_set row i v h = drop-set-lt 65536 row i v h

pub whole_counted : {V : Type 0} (row : List V) → take (length (counted row)) row ≡ counted row
unfolding counted
whole_counted row = ap (λ n. take n row) (length-take 65536 row) ∙ take_min 65536 row

-- what the calls of plain cells need
pub ruleset cells = (length_counted, whole_counted, counted_set, beyond_set, placed_within, placed_outside, placed_from_loaded, outside_from_loaded, applied_past, applied_loaded)
