-- What a partial that has acted at a place leaves of the other words of a home.
use Rattle.std.proofs.Common.{◌≡◌, ℕ, zero, suc, ◌≢◌, List, [], ◌∷◌, set, Ok, refl, ap}
use Rattle.operation.specs.Algebra.{Algebra, applied}
use Rattle.memory.specs.Homes.{loaded, placed}

pub applied_loaded : {V P : Type 0} (o : Algebra V P) (cs : List V) (i : ℕ) (p : P) (v : V) → loaded cs i ≡ Ok v → applied o cs i p ≡ set cs i (o.act v p)
applied_loaded o [] i p v e = refl
applied_loaded o (u ∷ vs) zero p v e = let h : u ≡ v = cc in ap (λ t. o.act t p ∷ vs) h
applied_loaded o (u ∷ vs) (suc i) p v e = ap (λ t. u ∷ t) (applied_loaded o vs i p v e)

pub placed_applied : {V P : Type 0} (o : Algebra V P) (cs : List V) (i : ℕ) (p : P) (j : ℕ) → placed (applied o cs i p) j ≡ placed cs j
placed_applied o [] i p j = refl
placed_applied o (v ∷ vs) zero p zero = refl
placed_applied o (v ∷ vs) zero p (suc j) = refl
placed_applied o (v ∷ vs) (suc i) p zero = refl
placed_applied o (v ∷ vs) (suc i) p (suc j) = placed_applied o vs i p j

pub loaded_applied_other : {V P : Type 0} (o : Algebra V P) (cs : List V) (i : ℕ) (p : P) (j : ℕ) → i ≢ j → loaded (applied o cs i p) j ≡ loaded cs j
loaded_applied_other o [] i p j ne = refl
loaded_applied_other o (v ∷ vs) zero p zero ne = absurd (ne refl)
loaded_applied_other o (v ∷ vs) zero p (suc j) ne = refl
loaded_applied_other o (v ∷ vs) (suc i) p zero ne = refl
loaded_applied_other o (v ∷ vs) (suc i) p (suc j) ne = loaded_applied_other o vs i p j (λ e. ne (ap suc e))
