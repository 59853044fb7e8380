use Rattle.std.proofs.Common.{◌≡◌, ap, ◌∙◌}
use Rattle.tables.specs.Lines.{target}
use Rattle.model.specs.declared.call.Call.TheVariants.{Post, Advance}
use Rattle.model.specs.Bench.{State, bench}
use Rattle.model.specs.Steps.{step, taken}
use Rattle.bench.specs.Lent.{seen, terms}
use Rattle.host.proofs.playing.serve.Goals as goal

-- the advance goes on from what the post left
pub returns-clause-state : goal.returns-clause-state
returns-clause-state g c =
    let k = terms g.O.Operation.algebra g.R.Victim.rule g.H.Home.meaning c.args.bench.now in
    let s = seen g.H.Home.meaning c.args.bench.now in
    let t = seen g.H.Home.meaning c.post.new.bench in
    let first : t ≡ (taken k s (Post c.args.party c.args.request)).0 = ap (λ z. z.0) c.post.ensures.step in
    ap (λ z. z.0) c.advance.ensures.step
    ∙ ap (λ n. (step (bench g.O.Operation.algebra g.R.Victim.rule n t) t (Advance c.cell.result)).0) c.post.ensures.lent.ways
    ∙ ap (λ a. (taken k t (Advance a)).0) c.cell.ensures ∙ ap (λ (z : State _ _ _). (taken k z (Advance (target c.args.request))).0) first
