-- The nine cases, computed
use Rattle.std.proofs.Common.{replicate, refl}
use Rattle.std.specs.Int.{int_wrap}
use Rattle.operation.specs.Numbers.{same_count}
use Rattle.victim.specs.Aging.{aging}
use Rattle.victim.specs.Orders.{numbered, renewed}
use Rattle.victim.specs.Rotating.{rotating}
use Rattle.tables.specs.Legal.{legal}
use Rattle.sheet.specs.Sheet.{Forgotten, Limited, Moved, Played, SheetStands}

moved : Moved
unfolding int_wrap
moved = same_count refl

forgotten : Forgotten
unfolding int_wrap
forgotten = record { over = refl; apply = (refl, refl); store = (refl, refl); load = refl }

limited : Limited
limited = record { most = refl; parties = refl; cells = refl }

rotate : Played rotating (record { pointers = replicate 16 0 })
unfolding legal int_wrap
rotate = record {
  make = refl;
  case_1 = (refl, refl);
  case_2 = (refl, refl);
  case_3 = (refl, refl);
  case_4 = refl;
  case_5 = refl;
  case_6 = (refl, refl, refl);
}

oldest : Played aging (record { orders = replicate 16 numbered })
unfolding legal int_wrap numbered renewed
oldest = record {
  make = refl;
  case_1 = (refl, refl);
  case_2 = (refl, refl);
  case_3 = (refl, refl);
  case_4 = refl;
  case_5 = refl;
  case_6 = (refl, refl, refl);
}

pub sheet_stands : SheetStands
sheet_stands = record { rotate = rotate; oldest = oldest; case_7 = moved; case_8 = forgotten; case_9 = limited }
