-- The words of a handed row
--   counted  the values that count: the first 65,536
--   beyond   the values that lie beyond them
use Rattle.std.specs.Prelude.{List, take, drop}

unfoldable pub counted : {V : Type 0} → List V → List V
counted row = take 65536 row

unfoldable pub beyond : {V : Type 0} → List V → List V
beyond row = drop 65536 row
