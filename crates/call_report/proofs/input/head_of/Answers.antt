use Rattle.call_report.proofs.Heads.{kept_by_map_err}
use Rattle.call_report.proofs.input.head_of.Goals as goal

pub returns-clause-head : goal.returns-clause-head
returns-clause-head c = kept_by_map_err _ _ c.read_first.result c.map_err.result c.read_first.ensures c.map_err.ensures.cases
