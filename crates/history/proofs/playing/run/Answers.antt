use Rattle.std.proofs.Common.{vec_items, sym, ap, ◌∙◌, subst}
use Rattle.operation.proofs.Lawful.{lawful}
use Rattle.model.specs.Bench.{bench}
use Rattle.model.specs.Laws.{LawsHold}
use Rattle.model.specs.Steps.{made, final, events}
use Rattle.model.proofs.Kept.{sized_same}
use Rattle.model.proofs.Runs.{made_inv}
use Rattle.model.proofs.Whole.{whole}
use Rattle.bench.specs.Lent.{seen, terms}
use Rattle.bench.proofs.Orders.{sound}
use Rattle.history.specs.Runs.{together, answers_of}
use Rattle.history.proofs.Turns.{together_events}
use Rattle.history.proofs.playing.run.Goals as goal

pub returns-clause-ran : goal.returns-clause-ran
returns-clause-ran g c =
    let k = terms g.O.Operation.algebra g.R.Victim.rule g.H.Home.meaning c.args.bench.now in
    let s = seen g.H.Home.meaning c.args.bench.now in
    let fine = sound g.O.Operation.algebra g.R.Victim.rule g.H.Home.meaning c.args.bench.now (lawful g.met.O.Operation) g.met.R.Victim.within in
    let e = c.in_ok-ticket.ensures in
    let ok = sym e.answer in
    let calls = c.args.calls.now in
    let f = c.play_all.ensures in
    -- the bench that was made is the one that the tables were lent for
    let same = (λ i. bench g.O.Operation.algebra g.R.Victim.rule (e.lent.ways i) (e.state i)) ∙ sized_same k (made k s) (made_inv k fine s ok).tabled in
    let said = f.answers ∙ (λ i. answers_of (events (same i) (e.state i) calls)) in
    let end = f.state ∙ (λ i. final (same i) (e.state i) calls) in
    let shown = subst (λ es. LawsHold k s.home es (final k (made k s) calls)) (sym (ap (together calls) said ∙ together_events k (made k s) calls)) (whole k fine s ok calls) in
    record { accepted = ok; answers = said; state = end; laws = subst (LawsHold k s.home (together calls (vec_items c.play_all.result.answers))) (sym end) shown; ticket = f.ticket }
