-- The words of a layer that counts
--   more       a count once one more call got through; a full count stays
--   one_load   the counts after a load that was accepted, or was not
--   one_store  the counts after a store that was accepted, or was not
--   one_apply  the counts after an apply that was accepted, or was not
--   none       the counts before the first call
use Rattle.std.specs.Prelude.{ℕ, ◌+◌, ◌-◌, ◌^◌, min, Bool, true, false}
use Rattle.layering.specs.declared.counting.Counts.{Counts}

abbrev pub none : Counts
none = record { loads = 0; stores = 0; applies = 0 }

abbrev pub more : ℕ → ℕ
more n = min (n + 1) (2 ^ 64 - 1)

abbrev pub one_load : Bool → Counts → Counts
one_load true c = record { loads = more c.loads; stores = c.stores; applies = c.applies }
one_load false c = c

abbrev pub one_store : Bool → Counts → Counts
one_store true c = record { loads = c.loads; stores = more c.stores; applies = c.applies }
one_store false c = c

abbrev pub one_apply : Bool → Counts → Counts
one_apply true c = record { loads = c.loads; stores = c.stores; applies = more c.applies }
one_apply false c = c
