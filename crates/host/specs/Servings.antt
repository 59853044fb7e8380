-- How a host has a request served
--   served  the calls that it makes: a post, and one advance of the cell
use Rattle.std.specs.Prelude.{ℕ, List, [], ◌∷◌}
use Rattle.tables.specs.Lines.{target}
use Rattle.tables.specs.declared.request.Request.{Request}
use Rattle.model.specs.declared.call.Call.{Call}
use Rattle.model.specs.declared.call.Call.TheVariants.{Post, Advance}

abbrev pub served : {V P : Type 0} → ℕ → Request V P → List (Call V P)
served p r = Post p r ∷ Advance (target r) ∷ []
