-- The words of a script, and what each means; a field that is none of them means nothing
--   opening_of  the word that a script begins with
--   ranking_of  the victim rules
--   verb_of     the calls
--   wish_of     what a post asks for
use Rattle.std.specs.Prelude.{ℕ, cond, List, Some, None, codes, Option}
use Rattle.std.specs.Str.{bytes_eq}
use Rattle.script.specs.declared.words.Opening.{Opening}
use Rattle.script.specs.declared.words.Opening.TheVariants as opening
use Rattle.script.specs.declared.words.Ranking.{Ranking}
use Rattle.script.specs.declared.words.Ranking.TheVariants as ranking
use Rattle.script.specs.declared.words.Verb.{Verb}
use Rattle.script.specs.declared.words.Verb.TheVariants as verb
use Rattle.script.specs.declared.words.Wish.{Wish}
use Rattle.script.specs.declared.words.Wish.TheVariants as wish

abbrev pub opening_of : List ℕ → Option Opening
opening_of bs = cond (bytes_eq bs (codes "bench")) (Some opening.Bench) None

abbrev pub ranking_of : List ℕ → Option Ranking
ranking_of bs =
    cond (bytes_eq bs (codes "rotate")) (Some ranking.Rotate)
    (cond (bytes_eq bs (codes "oldest")) (Some ranking.Oldest)
    None)

abbrev pub verb_of : List ℕ → Option Verb
verb_of bs =
    cond (bytes_eq bs (codes "post")) (Some verb.Post)
    (cond (bytes_eq bs (codes "advance")) (Some verb.Advance)
    (cond (bytes_eq bs (codes "collect")) (Some verb.Collect)
    (cond (bytes_eq bs (codes "yield")) (Some verb.Yield)
    (cond (bytes_eq bs (codes "settle")) (Some verb.Settle)
    None))))

abbrev pub wish_of : List ℕ → Option Wish
wish_of bs =
    cond (bytes_eq bs (codes "read")) (Some wish.Read)
    (cond (bytes_eq bs (codes "write")) (Some wish.Write)
    (cond (bytes_eq bs (codes "update")) (Some wish.Update)
    None))
