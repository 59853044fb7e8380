-- An advance as a decision and its performance
--   decided    whom an advance of the cell serves, and the first action that applies: a recall, an eviction or a grant
--   performed  the action, as state and answer
use Rattle.std.specs.Prelude.{ℕ, ◌+◌, ◌*◌, ◌/◌, List, get_or, Some, None, Option, slice_index_or}
use Rattle.tables.specs.declared.line.Line.{Line}
use Rattle.tables.specs.declared.request.Request.{Request}
use Rattle.tables.specs.declared.register.Register.{Register}
use Rattle.tables.specs.declared.register.Register.TheVariants.{Empty, Waiting, Answered}
use Rattle.tables.specs.declared.entry.Entry.{Entry}
use Rattle.tables.specs.Legal.{blank}
use Rattle.model.specs.declared.next.Next.{Next}
use Rattle.model.specs.declared.next.Next.TheVariants as next
use Rattle.model.specs.declared.answer.Answer.{Answer}
use Rattle.model.specs.declared.answer.Answer.TheVariants.{Idle, Recall, Evict}
use Rattle.model.specs.Searches.{conflict_in, vacant_in, served_at}
use Rattle.model.specs.Bench.{Bench, State, lookup, granted_line}
use Rattle.model.specs.Steps.{recall_more, evict_more, turn_to, send, granting}

module _ {V P : Type 0} (parties ways : ℕ) (lines : List (Line V P)) (directory : List Entry) (registers : List (Register V P)) where
  abbrev pub next_of_room : ℕ → Request V P → Option ℕ → Next V P
  next_of_room q r None = next.Evict q
  next_of_room q r (Some i) = next.Grant q r i

  abbrev pub next_of_request : ℕ → Request V P → Option ℕ → Next V P
  next_of_request q r (Some i) = next.Recall q i
  next_of_request q r None = next_of_room q r (vacant_in ways lines q)

  -- on legal tables a served party waits
  abbrev pub next_of_served : ℕ → Register V P → Next V P
  next_of_served q Empty = next.Idle
  next_of_served q (Waiting r) = next_of_request q r (conflict_in ways lines parties r)
  next_of_served q (Answered v) = next.Idle

  abbrev pub next_of_turn : Option ℕ → Next V P
  next_of_turn None = next.Idle
  next_of_turn (Some q) = next_of_served q (slice_index_or registers q Empty)

  abbrev pub decided : ℕ → Next V P
  decided a = next_of_turn (served_at parties registers a (get_or directory a (blank 0)).last (get_or directory a (blank 0)).turn)

module _ {V P R : Type 0} (k : Bench V P R) (s : State V P R) where
  abbrev pub performed : ℕ → Next V P → State V P R × Answer V
  performed a next.Idle = (s, Idle)
  performed a (next.Recall q i) = (send k (turn_to k s a q) i (recall_more s.ledger) s.rule, Recall (i / k.ways))
  performed a (next.Evict q) =
      let w : ℕ = k.victim.picked s.rule q k.ways in
      (send k (turn_to k s a q) (q * k.ways + w) (evict_more s.ledger) (k.victim.after s.rule q k.ways), Evict w)
  performed a (next.Grant q r i) = granting k (granted_line k.op r (lookup s.home a)) s a q r i
