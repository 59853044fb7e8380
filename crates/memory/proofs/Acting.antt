-- What the partial that a register holds leaves of the other words of a home.
use Rattle.std.proofs.Common.{◌≡◌, ℕ, List, length, Some, None, Option, refl, ap}
use Rattle.operation.specs.Algebra.{Algebra, applied}
use Rattle.memory.specs.declared.combining.Pending.{Pending}
use Rattle.memory.specs.Homes.{placed}
use Rattle.memory.specs.Register.{acting}
use Rattle.operation.proofs.Applied.{length_applied, applied_past, set_applied, set_applied_apart}
use Rattle.memory.proofs.Applied.{placed_applied, loaded_applied_other}
use Rattle.memory.proofs.Places.{placed_within, placed_outside, loaded_from_placed, is_ok_loaded, is_ok_placed}

pub length_acting : {V P : Type 0} (o : Algebra V P) (cs : List V) (h : Option (Pending P)) → length (acting o cs h) ≡ length cs
length_acting o cs None = refl
length_acting o cs (Some q) = length_applied o cs q.place q.partial

pub placed_acting : {V P : Type 0} (o : Algebra V P) (cs : List V) (h : Option (Pending P)) (j : ℕ) → placed (acting o cs h) j ≡ placed cs j
placed_acting o cs None j = refl
placed_acting o cs (Some q) j = placed_applied o cs q.place q.partial j

pub acting_at : {V P : Type 0} (o : Algebra V P) (cs : List V) {h : Option (Pending P)} {q : Pending P} → h ≡ Some q → acting o cs h ≡ applied o cs q.place q.partial
acting_at o cs e = ap (acting o cs) e

-- what a register's calls need
pub ruleset register = (length_acting, acting_at, placed_acting, placed_within, placed_outside, applied_past, set_applied, set_applied_apart, loaded_applied_other, loaded_from_placed, is_ok_loaded, is_ok_placed)
