-- The words of a rule that goes round
--   onward      the way after a way, in a round of so many ways
--   pointed     the way that a pointer stands for: the first where the pointer is past the ways
--   pointer_of  the pointer of a party
--   rotating    the rule: a pick answers the way at the party's pointer, and moves the pointer on
use Rattle.std.specs.Prelude.{ℕ, ◌+◌, cond, Some, None, Option, ◌==◌, nat_lt, slice_index, slice_set}
use Rattle.victim.specs.declared.rotate.Rotate.{Rotate}
use Rattle.victim.specs.Limits.{serves}
use Rattle.victim.specs.Rules.{Rule}

abbrev pub onward : ℕ → ℕ → ℕ
onward way ways = cond (way + 1 == ways) 0 (way + 1)

abbrev pub pointed : ℕ → ℕ → ℕ
pointed pointer ways = cond (nat_lt pointer ways) pointer 0

abbrev pub pointer_of : Rotate → ℕ → Option ℕ
pointer_of x party = cond (nat_lt party 16) (Some (slice_index x.pointers party)) None

abbrev pub rotating : Rule Rotate
rotating = record {
  touched = λ x party way. x;
  picked = λ x party ways. cond (serves party ways) (pointed (slice_index x.pointers party) ways) 0;
  after = λ x party ways. cond (serves party ways) (record { pointers = slice_set x.pointers party (onward (pointed (slice_index x.pointers party) ways) ways) }) x;
}
