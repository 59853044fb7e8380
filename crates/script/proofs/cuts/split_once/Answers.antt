use Rattle.std.proofs.Common.{ℕ, ◌<◌, ◌==◌, length, arith, rules}
use Rattle.std.proofs.lemmas.List.{take_rest}
use Rattle.std.proofs.lemmas.List.Splits.{slice_split_first, slice_split_none}
use Rattle.std.proofs.lemmas.List.Sums.{position_or_len_is}
use Rattle.script.proofs.cuts.split_once.Goals as goal

pub returns-in-Some-clause-parts : goal.returns-in-Some-clause-parts
returns-in-Some-clause-parts c =
    let bytes = c.args.bytes.now in
    let inside : c.in-Some.i < length bytes = search rules in
    let found = position_or_len_is (λ (b : ℕ). b == c.args.separator) bytes c.in-Some.i 0 (omega arith) (search rules) (search rules) in
    rw (slice_split_first (λ (b : ℕ). b == c.args.separator) bytes 0 (omega (arith, found)), found, take_rest)

pub returns-in-None-clause-parts : goal.returns-in-None-clause-parts
returns-in-None-clause-parts c = slice_split_none _ c.args.bytes.now (search rules)
