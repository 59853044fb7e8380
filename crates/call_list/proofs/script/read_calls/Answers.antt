use Rattle.std.proofs.Common.{◌+◌, ap, ◌∙◌, inl}
use Rattle.std.specs.Str.Iter.{lines_rest}
use Rattle.std.proofs.lemmas.Result.{err_from_is_err_and}
use Rattle.call_list.proofs.Reading.{headed_by, one_more, one_fault}
use Rattle.call_list.proofs.script.read_calls.Goals as goal

pub loop-index-init : goal.loop-index-init
loop-index-init g c =
    let whole = ap lines_rest c.enumerate-lines.ensures.source ∙ c.lines.ensures.rest in
    let head = headed_by g.O.Notation.valued g.O.Notation.partialed _ _ c.args.text.now c.enumerate-lines.result c.next-head.new.self c.next-head.result c.next-head.ensures.steps whole c.enumerate-lines.ensures.count (c.next-head.ensures.goes.on tt) (λ e. e.0) (λ fits. (tt, tt, inl fits)) in
    rw (c.into_iter-index-iterator.ensures.into_iter_gives, c.new-calls.ensures.items) (head.0, tt, head.1)

pub returns-in_err-numbered : goal.returns-in_err-numbered
returns-in_err-numbered g c =
    let step = c.in-Some.ensures.steps in
    let p = err_from_is_err_and c.from_residual.result c.from_residual.ensures.1 in
    rw (p.1, p.2) (one_fault _ _ c.loop-index.invariant.2 _ _ step.0.0.0 step.0.0.2 c.in_err-numbered.field-0.0 (c.in_err-numbered.ensures ∙ ap (λ n. n + 1) step.1))

pub loop-index-preserved : goal.loop-index-preserved
loop-index-preserved g c =
    let step = c.in-Some.ensures.steps in (
      (c.in-Some.ensures.goes.on tt).0,
      tt,
      one_more _ _ c.loop-index.invariant.2 _ _ step.0.0.0 step.0.0.2 _ _ _ c.in_ok-numbered.ensures step.2 c.in_ok-push.ensures.items,
    )
