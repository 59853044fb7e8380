use Rattle.std.proofs.Common.{rules}
use Rattle.tables.specs.Lines.{is_of}
use Rattle.bench.proofs.searches.own_line.Goals as goal

pub returns : goal.returns
returns g c = c.find_line.ensures (is_of c.args.cell) (λ l b h. Prim.search rules)
