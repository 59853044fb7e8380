-- The words of the rule that picks by age
--   order_of   the order of a party
--   ways_of    the ways of a party, the oldest first
--   oldest_of  the oldest of the party's first so many ways
--   IsAnswer   within the limits the answer is a way, the oldest of those, and outside them there is none
--   aging      the rule: a touch makes a way the newest, a pick answers the oldest and keeps the order
use Rattle.std.specs.Prelude.{ℕ, cond, List, Some, None, Option, nat_lt, slice_index_or, slice_set}
use Rattle.std.specs.Option.{unwrap_or}
use Rattle.victim.specs.Ages.{IsOldest, oldest_below}
use Rattle.victim.specs.Limits.{hears, serves}
use Rattle.victim.specs.Orders.{numbered, renewed}
use Rattle.victim.specs.Rules.{Rule, Servable}
use Rattle.victim.specs.declared.oldest.Oldest.{Oldest}
use Rattle.victim.specs.declared.order.Order.{Order}

abbrev pub order_of : Oldest → ℕ → Order
order_of x party = slice_index_or x.orders party numbered

abbrev pub ways_of : Oldest → ℕ → Option (List ℕ)
ways_of x party = cond (nat_lt party 16) (Some (order_of x party).ways) None

abbrev pub oldest_of : Oldest → ℕ → ℕ → Option ℕ
oldest_of x party ways = cond (serves party ways) (oldest_below (order_of x party).ways ways) None

abbrev pub IsAnswer : Oldest → ℕ → ℕ → Option ℕ → Type 0
IsAnswer x party ways None = Servable party ways → ⊥
IsAnswer x party ways (Some way) = Servable party ways × IsOldest (order_of x party).ways ways way

abbrev pub aging : Rule Oldest
aging = record {
  touched = λ x party way. cond (hears party way) (record { orders = slice_set x.orders party (renewed (order_of x party) way) }) x;
  picked = λ x party ways. unwrap_or (oldest_of x party ways) 0;
  after = λ x party ways. x;
}
