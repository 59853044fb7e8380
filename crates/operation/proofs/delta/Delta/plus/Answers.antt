use Rattle.std.proofs.Common.{rules}
use Rattle.std.proofs.lemmas.Int.{wraps}
use Rattle.operation.specs.Numbers.{same_delta, delta_fits}
use Rattle.operation.proofs.delta.Delta.plus.Goals as goal

pub returns : goal.returns
returns c = same_delta (search (rules, wraps, delta_fits))
