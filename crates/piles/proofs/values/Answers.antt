use Rattle.std.proofs.Common.{◌<◌, length, sym, ap, ◌∙◌, arith}
use Rattle.std.proofs.lemmas.List.{take_more}
use Rattle.memory.specs.Homes.{loaded}
use Rattle.memory.proofs.Places.{outside_from_loaded, value_from_loaded}
use Rattle.piles.proofs.values.Goals as goal

pub unreachable-requires : goal.unreachable-requires
unreachable-requires g c =
    let vs = g.H.Home.meaning c.args.home.now in
    let i = c.loop-place.place in
    let read = ap (λ l. loaded l i) (sym c.loop-place.invariant.0) ∙ sym c.load.ensures.value ∙ c.in_default.is in
    omega (arith, outside_from_loaded vs i c.in_default.field-0 read)

pub loop-place-preserved : goal.loop-place-preserved
loop-place-preserved g c =
    let vs = g.H.Home.meaning c.args.home.now in
    let i = c.loop-place.place in
    let h : i < length vs = omega arith in
    let read = ap (λ l. loaded l i) (sym c.loop-place.invariant.0) ∙ sym c.load.ensures.value ∙ c.in-Ok.is in
    let here = value_from_loaded vs i c.in-Ok.value c.in-Ok.value read in
    let front = take_more vs i c.in-Ok.value h in
    (cc, cc, omega arith, omega arith)
