use Rattle.std.proofs.Common.{rules}
use Rattle.party_set.proofs.Holders.{without_mask}
use Rattle.party_set.proofs.PartySet.without.Goals as goal

pub returns-then-party-lt-PARTIES : goal.returns-then-party-lt-PARTIES
returns-then-party-lt-PARTIES c = search (rules, without_mask)
