use Rattle.std.proofs.Common.{leb, length, None, sym, ap, ◌∙◌, subst}
use Rattle.std.proofs.lemmas.Result.{err_from_is_err_and}
use Rattle.operation.proofs.Lawful.{lawful}
use Rattle.tables.specs.declared.refusal.Refusal.TheVariants.{LedgerClosed, HomeTooSmall, CountTooHigh, Unfinished}
use Rattle.tables.specs.Ledgers.{is_open, counts_low}
use Rattle.tables.specs.Legal.{Legal}
use Rattle.model.specs.declared.call.Call.TheVariants.{Settle}
use Rattle.model.specs.declared.answer.Answer.TheVariants.{Refused}
use Rattle.model.specs.Bench.{State, bench, state}
use Rattle.model.specs.Steps.{need, close}
use Rattle.settlement.specs.Tried.{tried}
use Rattle.moves.specs.Checks.{passes}
use Rattle.moves.proofs.Sounds.{sound}
use Rattle.moves.proofs.Calls.{passed, failed, stays_legal}
use Rattle.settlement.proofs.Sending.{settle_rest, settle_refused, settle_passed, settle_facts}
use Rattle.settlement.proofs.settling.settle_tables.Goals as goal

pub returns-in_err-settle_checks : goal.returns-in_err-settle_checks
returns-in_err-settle_checks g c =
    let op = g.O.Operation.algebra in
    let rule = g.R.Victim.rule in
    let ways = c.args.ways in
    let s = state c.args.lines.now c.args.directory.now c.args.registers.now c.args.ledger.now c.args.rule.now (g.H.Home.meaning c.args.home.now) in
    let rest = settle_rest op rule ways s c.requires.sizes c.requires.legal in
    let p = err_from_is_err_and c.from_residual.result c.from_residual.ensures.1 in
    let n = c.in_err-settle_checks.field-0.0 in
    let st = settle_refused op rule ways s c.requires.sizes c.requires.legal n (failed rest n c.in_err-settle_checks.ensures) in
    record { answer = ap tried p.1 ∙ ap Refused p.2 ∙ sym (ap (λ z. z.1) st); state = sym (ap (λ z. z.0) st); legal = c.requires.legal }

pub send_all-requires : goal.send_all-requires
send_all-requires g c =
    let op = g.O.Operation.algebra in
    let rule = g.R.Victim.rule in
    let ways = c.args.ways in
    let s = state c.args.lines.now c.args.directory.now c.args.registers.now c.args.ledger.now c.args.rule.now (g.H.Home.meaning c.args.home.now) in
    let rest = settle_rest op rule ways s c.requires.sizes c.requires.legal in
    record { sizes = c.requires.sizes; legal = c.requires.legal; counts = settle_facts op rule ways s c.requires.sizes c.requires.legal (passed rest c.in_ok-settle_checks.ensures) }

pub returns : goal.returns
returns g c =
    let op = g.O.Operation.algebra in
    let rule = g.R.Victim.rule in
    let ways = c.args.ways in
    let s = state c.args.lines.now c.args.directory.now c.args.registers.now c.args.ledger.now c.args.rule.now (g.H.Home.meaning c.args.home.now) in
    let rest = settle_rest op rule ways s c.requires.sizes c.requires.legal in
    let k = bench op rule ways s in
    let st = settle_passed op rule ways s c.requires.sizes c.requires.legal (passed rest c.in_ok-settle_checks.ensures) in
    let end = ap (close k) c.send_all.ensures ∙ sym (ap (λ z. z.0) st) in
    record { answer = sym (ap (λ z. z.1) st); state = end; legal = subst (λ (z : State _ _ _). Legal ways z.lines z.directory z.registers) (sym end) (stays_legal op rule ways s c.requires.sizes c.requires.legal (sound op rule ways s (lawful g.met.O.Operation) g.met.R.Victim.within) Settle) }
