use Rattle.std.proofs.Common.{◌≡◌, rules, tests}
use Rattle.std.proofs.lemmas.Iterator.{IsFirst-from_position, YieldsList-from_slice}
use Rattle.std.proofs.lemmas.Option.{MatchOption-at_none, MatchOption-at_some}
use Rattle.victim.proofs.Renewing.{newest_missing, newest_turned}
use Rattle.victim.proofs.order.ages.renew.Goals as goal

pub returns-in-Some : goal.returns-in-Some
returns-in-Some c =
    let first = IsFirst-from_position _ _ c.position.result (λ x. x ≡ c.args.way) (λ x. x ≡ c.args.way → ⊥) c.position.ensures.ran (YieldsList-from_slice c.args.ways.now cc) (λ x q k. search (rules, tests)) (λ x q k. search (rules, tests)) in
    let at = MatchOption-at_some _ _ c.in-Some.at c.in-Some.is first in
    search (rules, newest_turned)

pub returns-in_default : goal.returns-in_default
returns-in_default c =
    let first = IsFirst-from_position _ _ c.position.result (λ x. x ≡ c.args.way) (λ x. x ≡ c.args.way → ⊥) c.position.ensures.ran (YieldsList-from_slice c.args.ways.now cc) (λ x q k. search (rules, tests)) (λ x q k. search (rules, tests)) in
    let others = MatchOption-at_none _ _ c.in_default.is first in
    search (rules, newest_missing)
