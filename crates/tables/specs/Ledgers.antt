-- The words of the ledger
--   counted_nothing  every count is 0
--   is_open          calls may still be made
--   counts_low       every count is below 2^63, so that none can wrap
use Rattle.std.specs.Prelude.{◌^◌, Bool, true, false, ◌&&◌, nat_lt}
use Rattle.tables.specs.declared.ledger.Status.{Status}
use Rattle.tables.specs.declared.ledger.Status.TheVariants.{Open, Closed}
use Rattle.tables.specs.declared.ledger.Ledger.{Ledger}

abbrev pub counted_nothing : Status → Ledger
counted_nothing s = record { status = s; hits = 0; grants = 0; recalls = 0; evictions = 0; yields = 0 }

abbrev pub open_status : Status → Bool
open_status Open = true
open_status Closed = false

abbrev pub is_open : Ledger → Bool
is_open g = open_status g.status

abbrev pub counts_low : Ledger → Bool
counts_low g = nat_lt g.hits (2 ^ 63) && nat_lt g.grants (2 ^ 63) && nat_lt g.recalls (2 ^ 63) && nat_lt g.evictions (2 ^ 63) && nat_lt g.yields (2 ^ 63)
