-- The words of a home
--   number_of  the number of a refusal: 13, a place outside the home's cells
--   loaded     what a load of a place answers
--   placed     what a store or an apply at a place answers
use Rattle.std.specs.Prelude.{ℕ, zero, suc, List, [], ◌∷◌, Ok, Err, Result}
use Rattle.memory.specs.declared.Refusal.{Refusal}
use Rattle.memory.specs.declared.Refusal.TheVariants.{Place}

abbrev pub number_of : Refusal → ℕ
number_of Place = 13

abbrev pub loaded : {V : Type 0} → List V → ℕ → Result V Refusal
loaded [] i = Err Place
loaded (v ∷ vs) zero = Ok v
loaded (v ∷ vs) (suc i) = loaded vs i

abbrev pub placed : {V : Type 0} → List V → ℕ → Result (Unit {0}) Refusal
placed [] i = Err Place
placed (v ∷ vs) zero = Ok tt
placed (v ∷ vs) (suc i) = placed vs i
