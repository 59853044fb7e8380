use Rattle.std.proofs.Common.{rules, tests, ◌∙◌}
use Rattle.std.proofs.lemmas.Iterator.{YieldsList-from_slice}
use Rattle.std.proofs.lemmas.Iterator.Search.{all_from_yields_List}
use Rattle.tables.specs.Lines.{is_empty}
use Rattle.settlement.proofs.Sending.{all_empty_tested}
use Rattle.settlement.proofs.settling.all_empty.Goals as goal

pub returns : goal.returns
returns g c =
    all_from_yields_List is_empty _ _ c.all.result c.all.ensures.ran (YieldsList-from_slice c.args.registers.now cc) (λ x b q k. search (rules, tests))
    ∙ all_empty_tested c.args.registers.now
