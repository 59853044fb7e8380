use Rattle.std.proofs.Common.{◌≡◌, ◌+◌, ◌*◌, length, get_or}
use Rattle.party_set.specs.Sets.{nobody}
use Rattle.audit.proofs.Pass.{Passed}
use Rattle.audit.proofs.is_legal.Given as goal

abbrev pub invariant-loop-party : goal.invariant-loop-party
invariant-loop-party g l =
    (length l.found ≡ 256)
    × Passed l.ways l.lines l.directory l.registers (λ a. get_or l.found a nobody) (l.party * l.ways)

abbrev pub invariant-loop-line : goal.invariant-loop-line
invariant-loop-line g l =
    (length l.found ≡ 256)
    × Passed l.ways l.lines l.directory l.registers (λ a. get_or l.found a nobody) (l.party * l.ways + l.line-index)
