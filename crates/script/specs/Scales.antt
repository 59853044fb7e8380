-- The words of values and partials, each read from one field
--   counts    what a total is: 0 to 2^32 - 1
--   deltas    what is added to a total: -2^31 to 2^31 - 1
--   naturals  numbers without a sign, up to a greatest
use Rattle.std.specs.Prelude.{ℕ, ◌-◌, ◌^◌, pos, neg_ℤ, Result}
use Rattle.operation.specs.Total.{counted, stepped}
use Rattle.operation.specs.declared.Count.{Count}
use Rattle.operation.specs.declared.Delta.{Delta}
use Rattle.script.specs.Lines.{Rest, number_from, natural_from, mapped}
use Rattle.script.specs.declared.faults.FieldFault.{FieldFault}

abbrev pub counts : Rest → Result Count FieldFault × Rest
counts s = mapped counted (number_from (pos 0) (pos (2 ^ 32 - 1)) s)

abbrev pub deltas : Rest → Result Delta FieldFault × Rest
deltas s = mapped stepped (number_from (neg_ℤ (pos (2 ^ 31))) (pos (2 ^ 31 - 1)) s)

abbrev pub naturals : ℕ → Rest → Result ℕ FieldFault × Rest
naturals most s = natural_from 0 most s
