use Rattle.std.proofs.Common.{rules}
use Rattle.sheet.proofs.Sheet.{sheet_stands}
use Rattle.sheet.proofs.cases.Goals as goal

pub returns : goal.returns
returns c = search (rules, sheet_stands)
