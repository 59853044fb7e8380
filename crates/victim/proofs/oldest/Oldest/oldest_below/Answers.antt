use Rattle.std.proofs.Common.{◌≡◌, sym, subst, rules}
use Rattle.std.proofs.lemmas.List.{get_or_read}
use Rattle.victim.specs.Aging.{IsAnswer, oldest_of}
use Rattle.victim.specs.Serving.{answers}
use Rattle.victim.proofs.oldest.Oldest.oldest_below.Goals as goal

pub returns-then-servable : goal.returns-then-servable
returns-then-servable c =
    let x = c.args.self.now in
    let party = c.args.party in
    let ways = c.args.ways in
    let serves = c.if-servable.ensures in
    let value : c.oldest_below.result ≡ oldest_of x party ways = search (rules, get_or_read) in
    record { value = value; oldest = subst (IsAnswer x party ways) (sym value) (answers x party ways) }
