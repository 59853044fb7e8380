use Rattle.std.proofs.Common.{◌+◌, ◌<◌, ◌^◌, ◌++◌, length, vec_items}
use Rattle.std.specs.Iterator.Adapters.{enumerate_count, enumerate_source}
use Rattle.script.specs.Cuts.{lines_left}
use Rattle.script.specs.Scripts.{calls_of}
use Rattle.script.proofs.Scripts.{Sofar}
use Rattle.script.proofs.reading.read_lines.Given as goal

abbrev pub invariant-loop-i : goal.invariant-loop-i
invariant-loop-i g l =
    let whole = calls_of g.O.Scripted.values g.O.Scripted.partials l.script in
    let to_come = lines_left (enumerate_source l.i-iterator) in
    record {
      sofar : Sofar g.O.Scripted.values g.O.Scripted.partials (vec_items l.calls) (enumerate_count l.i-iterator) to_come (vec_items l.initial.calls ++ whole.0) whole.1;
      few : enumerate_count l.i-iterator + length to_come < 2 ^ 63;
    }
