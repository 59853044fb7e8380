use Rattle.std.proofs.Common.{◌≡◌, ◌<◌, ◌+◌, ◌^◌, length, drop, inl, ap, refl, arith, length-drop}
use Rattle.std.specs.Iterator.Adapters.{enumerate_count, enumerate_source}
use Rattle.script.specs.Cuts.{lines, lines_left}
use Rattle.script.proofs.Cutting.{others, few_lines}
use Rattle.script.proofs.Scripts.{one_more}
use Rattle.script.proofs.reading.read_lines.Goals as goal

-- the loop begins at the second line
begun : (g : _) (c : goal.After-into_iter-i-iterator g) → (enumerate_count c.into_iter-i-iterator.result ≡ 0) × (lines_left (enumerate_source c.into_iter-i-iterator.result) ≡ drop 1 (lines c.args.script.now))
begun g c =
    let of = c.enumerate-i-items.ensures in
    rw c.into_iter-i-iterator.ensures.into_iter_gives (of.count, rw (of.source, ← c.new-lines.ensures) (others _ _ _ c.next-head.ensures.steps))

few : (g : _) (c : goal.After-into_iter-i-iterator g) → enumerate_count c.into_iter-i-iterator.result + length (lines_left (enumerate_source c.into_iter-i-iterator.result)) < 2 ^ 63
few g c =
    let at = begun g c in
    let script = c.args.script.now in
    omega (arith, at.0, ap length at.1, few_lines script, length-drop 1 (lines script))

pub loop-i-init-derived : goal.loop-i-init-derived
loop-i-init-derived g c = ((tt, tt, inl (omega (arith, few g c))), tt)

pub loop-i-init : goal.loop-i-init
loop-i-init g c =
    let at = begun g c in
    record { sofar = rw (at.0, at.1) (record { said = refl; stops = refl }); few = few g c }

pub loop-i-preserved : goal.loop-i-preserved
loop-i-preserved g c =
    let old = c.loop-i.invariant in
    let step = c.in-Some.ensures.steps in
    let fewer = ap length step.0 in
    record {
      sofar = rw step.2 (one_more _ _ step.0 old.sofar _ (omega (arith, step.1)) _ _ c.in_ok-read_call.ensures c.in_ok-push.ensures.items);
      few = omega (arith, fewer, step.2, old.few);
    }
