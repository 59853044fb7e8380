use Rattle.std.proofs.Common.{rules}
use Rattle.tables.specs.Lines.{hits}
use Rattle.bench.proofs.searches.own_hit.Goals as goal

pub returns : goal.returns
returns g c = c.find_line.ensures (hits c.args.request) (λ l b h. Prim.search rules)
