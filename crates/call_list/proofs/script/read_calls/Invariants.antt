use Rattle.std.proofs.Common.{vec_items}
use Rattle.std.specs.Iterator.Adapters.{enumerate_source, enumerate_count}
use Rattle.std.specs.Str.Iter.{lines_rest}
use Rattle.call_list.proofs.Reading.{Sofar}
use Rattle.call_list.proofs.script.read_calls.Given as goal

abbrev pub invariant-loop-index : goal.invariant-loop-index
invariant-loop-index g l =
    (goal.iterator-loop-index g).can_next l.index-iterator ×
    (goal.iterator-loop-index g).is_finite l.index-iterator ×
    Sofar g.O.Notation.valued g.O.Notation.partialed l.text (lines_rest (enumerate_source l.index-iterator)) (enumerate_count l.index-iterator) (vec_items l.calls)
