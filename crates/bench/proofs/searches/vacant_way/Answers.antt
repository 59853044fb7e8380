use Rattle.std.proofs.Common.{rules, not}
use Rattle.tables.specs.Lines.{is_held}
use Rattle.bench.proofs.searches.vacant_way.Goals as goal

pub returns : goal.returns
returns g c = c.find_line.ensures (λ l. not (is_held l)) (λ l b h. Prim.search rules)
