-- The words of the first line
--   head_from  the bench that it describes
--   bench_of   the bench of a first line; a line with any wrong field describes none
use Rattle.std.specs.Prelude.{ℕ, List, Ok, Err, Result}
use Rattle.notation.specs.Kinds.{kind_of}
use Rattle.script.specs.Lines.{Rest, opened, word_from, natural_from, then, last}
use Rattle.script.specs.Words.{opening_of, ranking_of}
use Rattle.script.specs.declared.faults.FieldFault.{FieldFault}
use Rattle.script.specs.declared.faults.NoBench.{NoBench}
use Rattle.script.specs.declared.heads.Head.{Head}

abbrev pub head_from : Rest → Result Head FieldFault × Rest
head_from a =
    then (word_from opening_of a) (λ _ b.
    then (word_from kind_of b) (λ kind c.
    then (natural_from 1 16 c) (λ parties d.
    then (natural_from 1 8 d) (λ ways e.
    then (natural_from 1 256 e) (λ cells f.
    then (word_from ranking_of f) (λ ranking g.
    last (record { kind = kind; parties = parties; ways = ways; cells = cells; ranking = ranking }) g))))))

abbrev pub or_none : Result Head FieldFault → Result Head NoBench
or_none (Ok h) = Ok h
or_none (Err e) = Err (record {})

abbrev pub bench_of : List ℕ → Result Head NoBench
bench_of line = or_none (head_from (opened 1 line)).0
