-- The words of an order
--   numbered  the ways as they are numbered
--   renewed   an order once a way has been made the newest
use Rattle.std.specs.Prelude.{ℕ, [], ◌∷◌}
use Rattle.victim.specs.Ages.{newest}
use Rattle.victim.specs.Keeping.{whole_first, whole_newest}
use Rattle.victim.specs.declared.order.Order.{Order}

unfoldable pub numbered : Order
numbered = record { ways = 0 ∷ 1 ∷ 2 ∷ 3 ∷ 4 ∷ 5 ∷ 6 ∷ 7 ∷ []; whole = whole_first }

unfoldable pub renewed : Order → ℕ → Order
renewed order way = record { ways = newest order.ways way; whole = whole_newest order.ways way order.whole }
