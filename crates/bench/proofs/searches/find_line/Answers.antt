use Rattle.std.proofs.Common.{rules, tests, ◌≡◌, ◌+◌, ◌-◌, take, drop, ap, ◌∙◌, arith}
use Rattle.std.specs.Option.{option_map}
use Rattle.std.specs.List.{position}
use Rattle.tables.specs.declared.line.Line.TheVariants.{Invalid}
use Rattle.bench.proofs.Ways.{first_place}
use Rattle.bench.proofs.searches.find_line.Goals as goal

pub returns : goal.returns
returns g c = λ test agree.
    let many : c.args.from + c.args.count - c.args.from ≡ c.args.count = omega arith in
    let found : c.place_of.result ≡ position test (take c.args.count (drop c.args.from c.args.lines.now)) = c.place_of.ensures.first test agree ∙ ap (λ n. position test (take n (drop c.args.from c.args.lines.now))) many in
    let moved : c.map.result ≡ option_map (λ w. c.args.from + w) c.place_of.result = Prim.search (rules, tests) in
    moved ∙ ap (option_map (λ w. c.args.from + w)) found ∙ first_place test Invalid c.args.lines.now c.args.from c.args.count c.requires.within
