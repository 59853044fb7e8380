use Rattle.std.proofs.Common.{rules}
use Rattle.memory.proofs.Acting.{acting_at}
use Rattle.operation.proofs.Applied.{applied_twice}
use Rattle.memory.proofs.combining.CombiningHome.apply.Goals as goal

pub returns-in-Some-default-clause-after : goal.returns-in-Some-default-clause-after
returns-in-Some-default-clause-after g c = search (rules, acting_at, applied_twice g.O.Operation.algebra g.met.O.Operation.twice)
