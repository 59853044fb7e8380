use Rattle.std.proofs.Common.{rules, tests, refl}
use Rattle.std.proofs.lemmas.Iterator.{YieldsList-from_slice}
use Rattle.std.proofs.lemmas.Iterator.Search.{position_from_yields_List}
use Rattle.bench.proofs.searches.place_of.Goals as goal

pub returns : goal.returns
returns g c = record { within = Prim.search rules; first = λ test agree. position_from_yields_List test _ _ c.position.result c.position.ensures.ran (YieldsList-from_slice c.args.lines.now cc) (λ x b q k. (Prim.search (rules, tests), agree x.now b (record { shown = x; shows = refl; says = record { met = Prim.search (rules, tests) } }))) }
