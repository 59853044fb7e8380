-- What a load says of the list that a home means
use Rattle.std.proofs.Common.{◌≡◌, ℕ, zero, suc, List, [], ◌∷◌, Some, None, Ok, Err, sym, refl, ap, arith}
use Rattle.operation.specs.Algebra.{Algebra}
use Rattle.memory.specs.declared.Refusal.{Refusal}
use Rattle.memory.specs.Homes.{loaded}
use Rattle.tables.specs.declared.request.Request.{Request}
use Rattle.tables.specs.declared.request.Request.TheVariants.{Read}
use Rattle.tables.specs.Lines.{target}
use Rattle.model.specs.Bench.{lookup, granted_line}
use Rattle.actions.specs.Grants.{offered}

pub loaded_some : {V : Type 0} (xs : List V) (i : ℕ) (v : V) → Ok v ≡ loaded xs i → lookup xs i ≡ Some v
loaded_some [] i v e = absurd (let z : ◌≡◌ {A = ℕ} 0 1 = cc in omega arith)
loaded_some (x ∷ xs) zero v e = let z : v ≡ x = cc in ap Some (sym z)
loaded_some (x ∷ xs) (suc i) v e = loaded_some xs i v e

pub loaded_none : {V : Type 0} (xs : List V) (i : ℕ) (n : Refusal) → Err n ≡ loaded xs i → lookup xs i ≡ None
loaded_none [] i n e = refl
loaded_none (x ∷ xs) zero n e = absurd (let z : ◌≡◌ {A = ℕ} 0 1 = cc in omega arith)
loaded_none (x ∷ xs) (suc i) n e = loaded_none xs i n e

-- what a read is offered
pub offered_read : {V P : Type 0} (op : Algebra V P) (xs : List V) (r : Request V P) (a : ℕ) → r ≡ Read a → offered (granted_line op r (lookup xs (target r))) ≡ offered (granted_line op (Read a) (lookup xs a))
offered_read op xs r a e = ap (λ z. offered (granted_line op z (lookup xs (target z)))) e
