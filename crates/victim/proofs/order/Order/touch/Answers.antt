use Rattle.std.proofs.Common.{rules}
use Rattle.victim.specs.Orders.{renewed}
use Rattle.victim.proofs.Orders.{same_order, whole_renewed}
use Rattle.victim.proofs.order.Order.touch.Goals as goal

pub invariant_of-self : goal.invariant_of-self
invariant_of-self c = search (rules, whole_renewed)

pub returns : goal.returns
unfolding renewed
returns c = search (rules, same_order)
