use Rattle.std.proofs.Common.{leb, length, None, sym, refl, ap, ◌∙◌}
use Rattle.tables.specs.declared.refusal.Refusal.TheVariants.{LedgerClosed, HomeTooSmall, CountTooHigh, Unfinished}
use Rattle.tables.specs.Ledgers.{counts_low}
use Rattle.model.specs.declared.call.Call.TheVariants.{Settle}
use Rattle.model.specs.Bench.{all_empty}
use Rattle.model.specs.Steps.{need}
use Rattle.bench.specs.Lent.{seen, terms}
use Rattle.settlement.proofs.Sending.{settle_refused}
use Rattle.history.specs.Runs.{held}
use Rattle.history.proofs.Opening.{kept_open}
use Rattle.history.proofs.taking.settle.Goals as goal

pub returns-in_default-clause-answer : goal.returns-in_default-clause-answer
returns-in_default-clause-answer g c =
    let s = seen g.H.Home.meaning c.args.bench.now in
    let open_none = sym (ap held c.in_default.is) ∙ c.requires.held in
    let st = settle_refused g.O.Operation.algebra g.R.Victim.rule c.args.bench.now.ways s c.requires.in_order.sizes c.requires.in_order.legal LedgerClosed (ap (λ b. need b LedgerClosed (need (leb (length s.directory) (length s.home)) HomeTooSmall (need (counts_low s.ledger) CountTooHigh (need (all_empty s.registers) Unfinished None)))) (sym open_none)) in
    sym (ap (λ z. z.1) st)

pub returns-in-Err-clause-held : goal.returns-in-Err-clause-held
returns-in-Err-clause-held g c =
    sym (ap held c.in-Some.is) ∙ c.requires.held ∙ kept_open (terms g.O.Operation.algebra g.R.Victim.rule g.H.Home.meaning c.args.bench.now) (seen g.H.Home.meaning c.args.bench.now) Settle c.in-Err.ensures.state c.in-Err.ensures.answer refl
