use Rattle.std.proofs.Common.{rules}
use Rattle.std.proofs.lemmas.List.{get_or_default}
use Rattle.victim.specs.Orders.{numbered}
use Rattle.victim.proofs.Orders.{touched_renewed}
use Rattle.victim.proofs.oldest.OldestVictim.touch.Goals as goal

pub returns-then-touchable : goal.returns-then-touchable
returns-then-touchable c =
    let hears = c.if-touchable.ensures in
    let order = get_or_default c.args.self.now.orders c.args.party c.index-self-party.result numbered (search rules) in
    record { value = search rules; renewed = λ touchable. touched_renewed c.args.self.now.orders c.args.party c.args.way c.touch.new.self (search rules) (search rules) (search rules) }
