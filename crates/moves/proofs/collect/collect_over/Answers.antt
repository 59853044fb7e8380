use Rattle.std.proofs.Common.{sym, ap, ◌∙◌}
use Rattle.std.proofs.lemmas.Result.{err_from_is_err_and}
use Rattle.operation.proofs.Lawful.{lawful}
use Rattle.tables.specs.declared.register.Register.TheVariants.{Empty, Waiting, Answered}
use Rattle.model.specs.declared.call.Call.TheVariants.{Collect}
use Rattle.model.specs.declared.answer.Answer.TheVariants.{Refused}
use Rattle.model.specs.Bench.{state}
use Rattle.answers.specs.Answers.{collected}
use Rattle.moves.proofs.Sounds.{sound}
use Rattle.moves.proofs.Steps.{passed, collect_rest, collect_refused, collect_passed, collect_facts, left_legal, left_fits}
use Rattle.moves.proofs.collect.collect_over.Goals as goal

pub returns-in_err-collect_checks : goal.returns-in_err-collect_checks
returns-in_err-collect_checks g c =
    let op = g.O.Operation.algebra in
    let rule = g.R.Victim.rule in
    let s = state c.args.lines.now c.args.directory.now c.args.registers.now c.args.ledger.now c.args.rule.now (g.H.Home.meaning c.args.home.now) in
    let p = err_from_is_err_and c.from_residual.result c.from_residual.ensures.1 in
    let st = collect_refused op rule c.args.ways s c.requires.sizes c.requires.legal c.args.party c.in_err-collect_checks.field-0.0 c.in_err-collect_checks.ensures in
    record { answer = ap collected p.1 ∙ ap Refused p.2 ∙ sym (ap (λ z. z.1) st); state = sym (ap (λ z. z.0) st); legal = c.requires.legal; sizes = c.requires.sizes }

pub register_at-requires : goal.register_at-requires
register_at-requires g c =
    let op = g.O.Operation.algebra in
    let rule = g.R.Victim.rule in
    let s = state c.args.lines.now c.args.directory.now c.args.registers.now c.args.ledger.now c.args.rule.now (g.H.Home.meaning c.args.home.now) in
    collect_facts op rule c.args.ways s c.requires.sizes c.requires.legal c.args.party (passed (collect_rest op rule c.args.ways s c.requires.sizes c.requires.legal c.args.party) c.in_ok-collect_checks.ensures)

pub returns-in-Empty : goal.returns-in-Empty
returns-in-Empty g c =
    let op = g.O.Operation.algebra in
    let rule = g.R.Victim.rule in
    let s = state c.args.lines.now c.args.directory.now c.args.registers.now c.args.ledger.now c.args.rule.now (g.H.Home.meaning c.args.home.now) in
    let st = collect_passed op rule c.args.ways s c.requires.sizes c.requires.legal c.args.party c.in_ok-collect_checks.ensures Empty c.in-Empty.ensures in
    record { answer = sym (ap (λ z. z.1) st); state = sym (ap (λ z. z.0) st); legal = c.requires.legal; sizes = c.requires.sizes }

pub returns-in-Waiting : goal.returns-in-Waiting
returns-in-Waiting g c =
    let op = g.O.Operation.algebra in
    let rule = g.R.Victim.rule in
    let s = state c.args.lines.now c.args.directory.now c.args.registers.now c.args.ledger.now c.args.rule.now (g.H.Home.meaning c.args.home.now) in
    let st = collect_passed op rule c.args.ways s c.requires.sizes c.requires.legal c.args.party c.in_ok-collect_checks.ensures (Waiting c.in-Waiting.field-0) c.in-Waiting.ensures in
    record { answer = sym (ap (λ z. z.1) st); state = sym (ap (λ z. z.0) st); legal = c.requires.legal; sizes = c.requires.sizes }

pub returns-in-Answered : goal.returns-in-Answered
returns-in-Answered g c =
    let op = g.O.Operation.algebra in
    let rule = g.R.Victim.rule in
    let s = state c.args.lines.now c.args.directory.now c.args.registers.now c.args.ledger.now c.args.rule.now (g.H.Home.meaning c.args.home.now) in
    let st = collect_passed op rule c.args.ways s c.requires.sizes c.requires.legal c.args.party c.in_ok-collect_checks.ensures (Answered c.in-Answered.answer) c.in-Answered.ensures in
    let e = ap (λ rs. state c.args.lines.now c.args.directory.now rs c.args.ledger.now c.args.rule.now (g.H.Home.meaning c.args.home.now)) c.set_register.ensures ∙ sym (ap (λ z. z.0) st) in
    let fine = sound op rule c.args.ways s (lawful g.met.O.Operation) g.met.R.Victim.within in
    record { answer = sym (ap (λ z. z.1) st); state = e; legal = left_legal op rule c.args.ways s c.requires.sizes c.requires.legal fine (Collect c.args.party) _ e; sizes = left_fits op rule c.args.ways s c.requires.sizes c.requires.legal fine (Collect c.args.party) _ e }
