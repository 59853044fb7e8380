use Rattle.std.proofs.Common.{Some, None, sym, ap, ◌∙◌}
use Rattle.std.proofs.lemmas.Result.{err_from_is_err_and}
use Rattle.operation.proofs.Lawful.{lawful}
use Rattle.model.specs.declared.call.Call.TheVariants.{Post}
use Rattle.model.specs.declared.answer.Answer.TheVariants.{Refused}
use Rattle.model.specs.Bench.{state}
use Rattle.model.proofs.Sized.{ways_within}
use Rattle.answers.specs.Answers.{posted}
use Rattle.moves.proofs.Aptness.{low, own_place_in}
use Rattle.moves.proofs.Sounds.{sound}
use Rattle.moves.proofs.Steps.{post_refused, post_passed, post_facts, left_legal, left_fits}
use Rattle.moves.proofs.post.post_over.Goals as goal

pub returns-in_err-post_checks : goal.returns-in_err-post_checks
returns-in_err-post_checks g c =
    let op = g.O.Operation.algebra in
    let rule = g.R.Victim.rule in
    let s = state c.args.lines.now c.args.directory.now c.args.registers.now c.args.ledger.now c.args.rule.now (g.H.Home.meaning c.args.home.now) in
    let p = err_from_is_err_and c.from_residual.result c.from_residual.ensures.1 in
    let st = post_refused op rule c.args.ways s c.requires.sizes c.requires.legal c.args.party c.args.request c.in_err-post_checks.field-0.0 c.in_err-post_checks.ensures in
    record { answer = ap posted p.1 ∙ ap Refused p.2 ∙ sym (ap (λ z. z.1) st); state = sym (ap (λ z. z.0) st); legal = c.requires.legal; sizes = c.requires.sizes }

pub own_hit-requires : goal.own_hit-requires
own_hit-requires g c =
    let op = g.O.Operation.algebra in
    let rule = g.R.Victim.rule in
    let s = state c.args.lines.now c.args.directory.now c.args.registers.now c.args.ledger.now c.args.rule.now (g.H.Home.meaning c.args.home.now) in
    let f = post_facts op rule c.args.ways s c.requires.sizes c.requires.legal c.args.party c.args.request c.in_ok-post_checks.ensures in
    (ways_within op c.args.ways c.args.lines.now c.args.directory.now c.args.registers.now c.requires.sizes c.args.party f.1).0

pub finish_hit-requires : goal.finish_hit-requires
finish_hit-requires g c =
    let op = g.O.Operation.algebra in
    let rule = g.R.Victim.rule in
    let s = state c.args.lines.now c.args.directory.now c.args.registers.now c.args.ledger.now c.args.rule.now (g.H.Home.meaning c.args.home.now) in
    let f = post_facts op rule c.args.ways s c.requires.sizes c.requires.legal c.args.party c.args.request c.in_ok-post_checks.ensures in
    let w = ways_within op c.args.ways c.args.lines.now c.args.directory.now c.args.registers.now c.requires.sizes c.args.party f.1 in
    let y = own_place_in c.args.ways c.args.lines.now c.args.party c.args.request c.in-Some.i w.0 (sym c.in-Some.ensures) in
    record { place = (y.0, (y.1, w.1)); limits = f.1; counts = (low c.args.ledger.now f.0).hits }

pub set_register-requires : goal.set_register-requires
set_register-requires g c =
    let op = g.O.Operation.algebra in
    let rule = g.R.Victim.rule in
    let s = state c.args.lines.now c.args.directory.now c.args.registers.now c.args.ledger.now c.args.rule.now (g.H.Home.meaning c.args.home.now) in
    (post_facts op rule c.args.ways s c.requires.sizes c.requires.legal c.args.party c.args.request c.in_ok-post_checks.ensures).1

pub returns-in-Some : goal.returns-in-Some
returns-in-Some g c =
    let op = g.O.Operation.algebra in
    let rule = g.R.Victim.rule in
    let s = state c.args.lines.now c.args.directory.now c.args.registers.now c.args.ledger.now c.args.rule.now (g.H.Home.meaning c.args.home.now) in
    let st = post_passed op rule c.args.ways s c.requires.sizes c.requires.legal c.args.party c.args.request c.in_ok-post_checks.ensures (Some c.in-Some.i) c.in-Some.ensures in
    let e = c.finish_hit.ensures ∙ sym (ap (λ z. z.0) st) in
    let fine = sound op rule c.args.ways s (lawful g.met.O.Operation) g.met.R.Victim.within in
    record { answer = sym (ap (λ z. z.1) st); state = e; legal = left_legal op rule c.args.ways s c.requires.sizes c.requires.legal fine (Post c.args.party c.args.request) _ e; sizes = left_fits op rule c.args.ways s c.requires.sizes c.requires.legal fine (Post c.args.party c.args.request) _ e }

pub returns-in-None : goal.returns-in-None
returns-in-None g c =
    let op = g.O.Operation.algebra in
    let rule = g.R.Victim.rule in
    let s = state c.args.lines.now c.args.directory.now c.args.registers.now c.args.ledger.now c.args.rule.now (g.H.Home.meaning c.args.home.now) in
    let st = post_passed op rule c.args.ways s c.requires.sizes c.requires.legal c.args.party c.args.request c.in_ok-post_checks.ensures None c.in-None.ensures in
    let e = ap (λ rs. state c.args.lines.now c.args.directory.now rs c.args.ledger.now c.args.rule.now (g.H.Home.meaning c.args.home.now)) c.set_register.ensures ∙ sym (ap (λ z. z.0) st) in
    let fine = sound op rule c.args.ways s (lawful g.met.O.Operation) g.met.R.Victim.within in
    record { answer = sym (ap (λ z. z.1) st); state = e; legal = left_legal op rule c.args.ways s c.requires.sizes c.requires.legal fine (Post c.args.party c.args.request) _ e; sizes = left_fits op rule c.args.ways s c.requires.sizes c.requires.legal fine (Post c.args.party c.args.request) _ e }
