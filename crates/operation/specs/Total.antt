-- The words of a total
--   counted  an integer as a count: modulo 2^32
--   stepped  an integer as a delta: wrapped to a signed number of 32 bits
--   unmoved  the delta 0
--   totals   deltas are joined by their sum, and a delta is added to the count that it acts on
use Rattle.std.specs.Prelude.{ℤ, pos, ◌+ℤ◌}
use Rattle.std.specs.Int.{int_wrap, w32}
use Rattle.operation.specs.Algebra.{Algebra}
use Rattle.operation.specs.Residues.{residue, residue_small, wrapped_least, wrapped_below}
use Rattle.operation.specs.declared.count.Count.{Count}
use Rattle.operation.specs.declared.delta.Delta.{Delta}

abbrev pub counted : ℤ → Count
counted z = record { bits = residue z; small = residue_small z }

abbrev pub stepped : ℤ → Delta
stepped z = record { by = int_wrap w32 z; least = wrapped_least z; below = wrapped_below z }

abbrev pub unmoved : Delta
unmoved = record { by = pos 0; least = record { le = tt }; below = record { lt = tt } }

abbrev pub totals : Algebra Count Delta
totals = record {
  neutral = unmoved;
  join = λ a b. stepped (a.by +ℤ b.by);
  act = λ v p. counted (pos v.bits +ℤ p.by);
}
