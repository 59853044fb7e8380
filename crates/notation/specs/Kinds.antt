-- The words of an operation's name
--   kind_of  the operation that a word names; any other word names none
use Rattle.std.specs.Prelude.{ℕ, cond, List, Some, None, codes, Option}
use Rattle.std.specs.Str.{bytes_eq}
use Rattle.notation.specs.declared.kind.Kind.{Kind}
use Rattle.notation.specs.declared.kind.Kind.TheVariants as kind

abbrev pub kind_of : List ℕ → Option Kind
kind_of bs =
    cond (bytes_eq bs (codes "total")) (Some kind.Total)
    (cond (bytes_eq bs (codes "peak")) (Some kind.Peak)
    (cond (bytes_eq bs (codes "flags")) (Some kind.Flags)
    None))
