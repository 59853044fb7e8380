-- The reference memory: a plain map from cells to values, which every run of a bench is held to
-- It is fed each call's arguments and, of its answer, only the outcome: refused, hit, queued, or granted to a party.
--   Reference   each cell's value, each party's waiting request and note (the answer that its next collect is to get),
--               and the number of requests finished
--   Outcome     all that the reference memory is told of an answer
--   finish      a request takes effect: a read notes the cell's value, a write replaces it, an update acts on it
--   observed    the reference memory after one call
--   at_making   at the making: every cell has the home's value, nobody waits, and nothing is noted
--   remembered  the reference memory after some events
use Rattle.std.specs.Prelude.{ℕ, ◌+◌, cond, List, [], ◌∷◌, Some, None, Option, ◌==◌}
use Rattle.std.specs.Option.{option_map}
use Rattle.tables.specs.declared.request.Request.{Request}
use Rattle.tables.specs.declared.request.Request.TheVariants.{Read, Write, Update}
use Rattle.model.specs.declared.call.Call.{Call}
use Rattle.model.specs.declared.call.Call.TheVariants.{Post, Advance, Collect, Yield, Settle}
use Rattle.model.specs.declared.answer.Answer.{Answer}
use Rattle.model.specs.declared.answer.Answer.TheVariants.{Refused, Hit, Queued, Idle, Recall, Evict, Grant, Collected, Yielded, Settled}
use Rattle.model.specs.Bench.{lookup}

pub record Reference (V P : Type 0) : Type 0 where
  pub value : ℕ → Option V
  pub waiting : ℕ → Option (Request V P)
  pub note : ℕ → Option (Option V)
  pub finished : ℕ

pub data Outcome : Type 0 where
  refused : Outcome
  hit : Outcome
  queued : Outcome
  granted : ℕ → Outcome
  other : Outcome

abbrev pub outcome : {V : Type 0} → Answer V → Outcome
outcome (Refused n) = refused
outcome Hit = hit
outcome Queued = queued
outcome Idle = other
outcome (Recall p) = other
outcome (Evict w) = other
outcome (Grant p) = granted p
outcome (Collected v) = other
outcome Yielded = other
outcome Settled = other

abbrev pub put : {X : Type 0} → (ℕ → X) → ℕ → X → ℕ → X
put f a x b = cond (b == a) x (f b)

abbrev pub written : {V P : Type 0} → (V → P → V) → Request V P → (ℕ → Option V) → ℕ → Option V
written act (Read a) f = f
written act (Write a v) f = put f a (Some v)
written act (Update a d) f = put f a (option_map (λ v. act v d) (f a))

abbrev pub noted : {V P : Type 0} → Request V P → (ℕ → Option V) → Option V
noted (Read a) f = f a
noted (Write a v) f = None
noted (Update a d) f = None

abbrev pub finish : {V P : Type 0} → (V → P → V) → Reference V P → ℕ → Request V P → Reference V P
finish act b p r = record { value = written act r b.value; waiting = put b.waiting p None; note = put b.note p (Some (noted r b.value)); finished = b.finished + 1 }

abbrev pub finish_waiting : {V P : Type 0} → (V → P → V) → Reference V P → ℕ → Option (Request V P) → Reference V P
finish_waiting act b p None = b
finish_waiting act b p (Some r) = finish act b p r

abbrev pub wait : {V P : Type 0} → Reference V P → ℕ → Request V P → Reference V P
wait b p r = record { value = b.value; waiting = put b.waiting p (Some r); note = b.note; finished = b.finished }

abbrev pub strike : {V P : Type 0} → Reference V P → ℕ → Reference V P
strike b p = record { value = b.value; waiting = b.waiting; note = put b.note p None; finished = b.finished }

abbrev pub observed : {V P : Type 0} → (V → P → V) → Reference V P → Call V P → Outcome → Reference V P
observed act b (Post p r) refused = b
observed act b (Post p r) hit = finish act b p r
observed act b (Post p r) queued = wait b p r
observed act b (Post p r) (granted q) = b
observed act b (Post p r) other = b
observed act b (Advance a) refused = b
observed act b (Advance a) hit = b
observed act b (Advance a) queued = b
observed act b (Advance a) (granted q) = finish_waiting act b q (b.waiting q)
observed act b (Advance a) other = b
observed act b (Collect p) refused = b
observed act b (Collect p) hit = b
observed act b (Collect p) queued = b
observed act b (Collect p) (granted q) = b
observed act b (Collect p) other = strike b p
observed act b (Yield p a) w = b
observed act b Settle w = b

abbrev pub at_making : {V P : Type 0} → List V → Reference V P
at_making home = record { value = lookup home; waiting = λ p. None; note = λ p. None; finished = 0 }

abbrev pub remembered : {V P : Type 0} → (V → P → V) → Reference V P → List (Call V P × Answer V) → Reference V P
remembered act b [] = b
remembered act b (e ∷ es) = remembered act (observed act b e.0 (outcome e.1)) es
