use Rattle.std.proofs.Common.{rules}
use Rattle.victim.specs.Orders.{numbered}
use Rattle.victim.proofs.Orders.{same_order}
use Rattle.victim.proofs.order.Order.new.Goals as goal

pub returns : goal.returns
unfolding numbered
returns c = search (rules, same_order)
