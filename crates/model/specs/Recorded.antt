-- What the reference memory amounts to, told by the requests finished
--   finishes        the request that a call with this outcome finishes, if any
--   then            a list with what comes before it, if anything does
--   finished_in     the requests finished over some events, in the order in which they finished
--   is_written      a write of the cell is among the requests
--   last_written    the value of the last write of the cell among the requests, or else the starting value
--   partials_since  the partials of the cell's updates after that write, or of all of them without one, in order
--   Faithful        at every cell the reference memory has the last value written, or the starting value, with each partial
--                   since then having acted on it once, in whatever order; and it has counted every request finished
-- Here `fold act v ps` is v once the partials ps have acted on it in turn, and `IsPermutation ps qs` says that the list qs
-- is the list ps in some order.
use Rattle.std.specs.Prelude.{◌≡◌, ℕ, Bool, false, cond, not, ◌&&◌, ◌||◌, List, [], ◌∷◌, length, Some, None, fold, Option, ◌==◌}
use Rattle.std.specs.Option.{option_map}
use Rattle.std.specs.List.Sorted.{IsPermutation}
use Rattle.tables.specs.declared.request.Request.{Request}
use Rattle.tables.specs.declared.request.Request.TheVariants.{Read, Write, Update}
use Rattle.model.specs.declared.call.Call.{Call}
use Rattle.model.specs.declared.call.Call.TheVariants.{Post, Advance, Collect, Yield, Settle}
use Rattle.model.specs.declared.answer.Answer.{Answer}
use Rattle.model.specs.Bench.{lookup}
use Rattle.model.specs.Reference.{Reference, Outcome, refused, hit, queued, granted, other, outcome, observed, at_making, remembered}

-- a post that hits finishes its request, a grant the one that waits for its party
abbrev pub finishes : {V P : Type 0} → Reference V P → Call V P → Outcome → Option (Request V P)
finishes b (Post p r) refused = None
finishes b (Post p r) hit = Some r
finishes b (Post p r) queued = None
finishes b (Post p r) (granted q) = None
finishes b (Post p r) other = None
finishes b (Advance a) refused = None
finishes b (Advance a) hit = None
finishes b (Advance a) queued = None
finishes b (Advance a) (granted q) = b.waiting q
finishes b (Advance a) other = None
finishes b (Collect p) w = None
finishes b (Yield p a) w = None
finishes b Settle w = None

abbrev pub then : {X : Type 0} → Option X → List X → List X
then None later = later
then (Some x) later = x ∷ later

abbrev pub finished_in : {V P : Type 0} → (V → P → V) → Reference V P → List (Call V P × Answer V) → List (Request V P)
finished_in act b [] = []
finished_in act b (e ∷ es) = then (finishes b e.0 (outcome e.1)) (finished_in act (observed act b e.0 (outcome e.1)) es)

abbrev pub is_written : {V P : Type 0} → ℕ → List (Request V P) → Bool
is_written a [] = false
is_written a (Read b ∷ later) = is_written a later
is_written a (Write b v ∷ later) = a == b || is_written a later
is_written a (Update b d ∷ later) = is_written a later

abbrev pub last_written : {V P : Type 0} → ℕ → Option V → List (Request V P) → Option V
last_written a start [] = start
last_written a start (Read b ∷ later) = last_written a start later
last_written a start (Write b v ∷ later) = last_written a (cond (a == b) (Some v) start) later
last_written a start (Update b d ∷ later) = last_written a start later

-- an update of the cell counts unless a write of the cell finishes later
abbrev pub partials_since : {V P : Type 0} → ℕ → List (Request V P) → List P
partials_since a [] = []
partials_since a (Read b ∷ later) = partials_since a later
partials_since a (Write b v ∷ later) = partials_since a later
partials_since a (Update b d ∷ later) = cond (a == b && not (is_written a later)) (d ∷ partials_since a later) (partials_since a later)

pub record Faithful {V P : Type 0} (act : V → P → V) (home : List V) (es : List (Call V P × Answer V)) : Type 0 where
  pub value : (a : ℕ) → (remembered act (at_making home) es).value a
      ≡ option_map (λ v. fold act v (partials_since a (finished_in act (at_making home) es))) (last_written a (lookup home a) (finished_in act (at_making home) es))
  pub any_order : (a : ℕ) (ps : List P) → IsPermutation (partials_since a (finished_in act (at_making home) es)) ps
      → (remembered act (at_making home) es).value a ≡ option_map (λ v. fold act v ps) (last_written a (lookup home a) (finished_in act (at_making home) es))
  pub count : (remembered act (at_making home) es).finished ≡ length (finished_in act (at_making home) es)
