-- The words of a pair of operations
--   paired  two algebras side by side, part by part
use Rattle.operation.specs.Algebra.{Algebra}

abbrev pub paired : {V W P Q : Type 0} → Algebra V P → Algebra W Q → Algebra (V × W) (P × Q)
paired a b = record {
  neutral = (a.neutral, b.neutral);
  join = λ p q. (a.join p.0 q.0, b.join p.1 q.1);
  act = λ v p. (a.act v.0 p.0, b.act v.1 p.1);
}
