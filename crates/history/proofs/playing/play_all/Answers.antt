use Rattle.std.proofs.Common.{rules, ◌<◌, ◌≤◌, ◌++◌, length, vec_items, sym, refl, ap, ◌∙◌, arith}
use Rattle.model.specs.Bench.{bench}
use Rattle.model.specs.Steps.{final, step}
use Rattle.bench.specs.Lent.{seen, terms}
use Rattle.history.proofs.Turns.{answered, turn_state, turn_answers, end_state, end_answers}
use Rattle.history.proofs.playing.play_all.Goals as goal

pub loop-call-init : goal.loop-call-init
loop-call-init g c =
    let k = terms g.O.Operation.algebra g.R.Victim.rule g.H.Home.meaning c.args.bench.now in
    let s₀ = seen g.H.Home.meaning c.args.bench.now in
    record { ends = refl; said = ap (λ xs. xs ++ answered k s₀ c.args.calls.now) c.requires.room.0; in_order = c.requires.in_order; held = sym c.requires.unsettled; counted = c.requires.room.1.0; room = c.requires.room.1.1; lent = Prim.search rules }

pub take-kept-requires : goal.take-kept-requires
take-kept-requires g c = record { in_order = c.loop-call.invariant.in_order; held = c.loop-call.invariant.held }

pub loop-call-preserved : goal.loop-call-preserved
loop-call-preserved g c =
    let op = g.O.Operation.algebra in
    let rule = g.R.Victim.rule in
    let k = terms g.O.Operation.algebra g.R.Victim.rule g.H.Home.meaning c.args.bench.now in
    let s₀ = seen g.H.Home.meaning c.args.bench.now in
    let s = seen g.H.Home.meaning c.loop-call.bench in
    let calls = c.args.calls.now in
    let i = c.loop-call.call-index in
    let inv = c.loop-call.invariant in
    let next = seen g.H.Home.meaning c.take-kept.new.bench in
    let x = c.call-item.result in
    let e = c.take-kept.ensures in
    let h : i < length calls = omega arith in
    -- the bench that the call is made on is the one that the run began with
    let same = ap (λ n. step (bench op rule n s) s x) inv.lent.ways in
    let moved = e.state ∙ ap (λ z. z.0) same in
    record {
      ends = turn_state k calls i x s next (final k s₀ calls) h c.call-item.is moved inv.ends;
      said = turn_answers k calls i x s next c.take-kept.result.1 (vec_items c.loop-call.answers) (vec_items c.push_reserved.new.self) (answered k s₀ calls) h c.call-item.is moved (e.answer ∙ ap (λ z. z.1) same) c.push_reserved.ensures.items inv.said;
      in_order = e.in_order;
      held = e.held;
      counted = omega (arith, inv.counted);
      room = omega (arith, inv.room);
      lent = Prim.search rules;
    }

pub returns : goal.returns
returns g c =
    let op = g.O.Operation.algebra in
    let rule = g.R.Victim.rule in
    let k = terms g.O.Operation.algebra g.R.Victim.rule g.H.Home.meaning c.args.bench.now in
    let s₀ = seen g.H.Home.meaning c.args.bench.now in
    let s = seen g.H.Home.meaning c.loop-call.bench in
    let calls = c.args.calls.now in
    let i = c.loop-call.call-index in
    let inv = c.loop-call.invariant in
    let h : length calls ≤ i = omega arith in
    record { answers = end_answers k calls i s (vec_items c.loop-call.answers) (answered k s₀ calls) h inv.said; state = end_state k calls i s (final k s₀ calls) h inv.ends; ticket = inv.held; in_order = inv.in_order; lent = inv.lent }
