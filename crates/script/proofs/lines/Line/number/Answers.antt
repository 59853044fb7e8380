use Rattle.std.proofs.Common.{arith}
use Rattle.std.proofs.lemmas.Grind.{common_steps}
use Rattle.script.proofs.lines.Line.number.Goals as goal

pub returns-in-Number-2-clause-value : goal.returns-in-Number-2-clause-value
returns-in-Number-2-clause-value c = grind (arith, common_steps)
