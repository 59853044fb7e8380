use Rattle.std.proofs.Common.{Ok, ap, ◌∙◌}
use Rattle.operation.specs.Total.{stepped}
use Rattle.script.specs.Lines.{as_value}
use Rattle.script.proofs.Scales.{delta_is}
use Rattle.script.proofs.scripted.TotalScripted.read_partial.Goals as goal

pub returns-clause-value : goal.returns-clause-value
returns-clause-value c =
    let got = rw (c.from.ensures, c.from-2.ensures) at c.in_ok-number.ensures in
    let is = delta_is c.in_ok-number.number c.new.result got.within.0 got.within.1 c.new.ensures in
    ap (λ v. Ok v) is ∙ ap (as_value stepped) got.value
