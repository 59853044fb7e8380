use Rattle.std.proofs.Common.{rules}
use Rattle.victim.proofs.Recent.{spares_recent}
use Rattle.victim.proofs.oldest.Oldest.new.Goals as goal

pub returns : goal.returns
returns c = search (rules, spares_recent)
