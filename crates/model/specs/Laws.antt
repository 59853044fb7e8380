-- What holds of every run of a bench: a list of calls, each with its answer, from an accepted make on
-- The statements speak of the calls, the answers, the reference memory, the ledger and the home; no step of the bench is in them.
--   Event      a call with its answer
--   accepted   an answer that is no refusal
--   advances   the number of accepted advances of a cell among some events
--   Coherent   (a) an accepted collect answers the reference memory's note, and an accepted settle leaves the reference
--              memory's value of each of the bench's cells in the home, and the home's other cells as they were
--   Prompt     (b) a queued post is granted within the P × (P + 1) next accepted advances of its cell
--   Counted    (c) hits + grants = requests finished, and grants = recalls + evictions + yields + lines held
--   Undamaged  a run never meets refusal 1, 2, 4 or 13: tables that only calls touch stay of their size and legal
--   LawsHold   all of these, that the reference memory is Faithful at every point, and that the tables are legal at the end
use Rattle.std.specs.Prelude.{◌≡◌, ℕ, ◌+◌, ◌*◌, ◌<◌, ◌≤◌, Bool, true, false, cond, List, [], ◌∷◌, ◌++◌, Some, None, Option, ◌==◌, ◌≢◌}
use Rattle.operation.specs.Algebra.{Algebra}
use Rattle.victim.specs.Rules.{Rule}
use Rattle.tables.specs.declared.request.Request.{Request}
use Rattle.tables.specs.declared.ledger.Ledger.{Ledger}
use Rattle.tables.specs.declared.refusal.Refusal.{Refusal}
use Rattle.tables.specs.Refusals.{number_of}
use Rattle.tables.specs.Lines.{target}
use Rattle.tables.specs.Legal.{Legal}
use Rattle.model.specs.declared.call.Call.{Call}
use Rattle.model.specs.declared.call.Call.TheVariants.{Post, Advance, Collect, Yield, Settle}
use Rattle.model.specs.declared.answer.Answer.{Answer}
use Rattle.model.specs.declared.answer.Answer.TheVariants.{Refused, Hit, Queued, Idle, Recall, Evict, Grant, Collected, Yielded, Settled}
use Rattle.model.specs.Bench.{Bench, State, lookup, held_count, bench}
use Rattle.model.specs.Recorded.{Faithful}
use Rattle.model.specs.Reference.{Reference, remembered, at_making}
use Rattle.model.specs.Steps.{events, final, made, make_refusal}

abbrev pub Event : Type 0 → Type 0 → Type 0
Event V P = Call V P × Answer V

abbrev pub accepted : {V : Type 0} → Answer V → Bool
accepted (Refused n) = false
accepted Hit = true
accepted Queued = true
accepted Idle = true
accepted (Recall p) = true
accepted (Evict w) = true
accepted (Grant p) = true
accepted (Collected v) = true
accepted Yielded = true
accepted Settled = true

-- 1 for an accepted advance of the cell
abbrev pub advanced : {V P : Type 0} → ℕ → Call V P → Answer V → ℕ
advanced a (Post p r) x = 0
advanced a (Advance b) x = cond (b == a) (cond (accepted x) 1 0) 0
advanced a (Collect p) x = 0
advanced a (Yield p b) x = 0
advanced a Settle x = 0

abbrev pub advances : {V P : Type 0} → ℕ → List (Event V P) → ℕ
advances a [] = 0
advances a (e ∷ es) = advanced a e.0 e.1 + advances a es

-- (a) over the events es of a bench of n cells whose home had the list `before` at the making and has `after` at the end
pub record Coherent {V P : Type 0} (act : V → P → V) (n : ℕ) (es : List (Event V P)) (before after : List V) : Type 0 where
  pub reads : (front back : List (Event V P)) (p : ℕ) (x : Answer V) → es ≡ front ++ ((Collect p, x) ∷ back) → accepted x ≡ true
      → (o : Option V) × ((remembered act (at_making before) front).note p ≡ Some o) × (x ≡ Collected o)
  pub settles : (front back : List (Event V P)) (x : Answer V) → es ≡ front ++ ((Settle, x) ∷ back) → accepted x ≡ true
      → (a : ℕ) → a < n → lookup after a ≡ (remembered act (at_making before) es).value a
  pub spares : (front back : List (Event V P)) (x : Answer V) → es ≡ front ++ ((Settle, x) ∷ back) → accepted x ≡ true
      → (a : ℕ) → n ≤ a → lookup after a ≡ lookup before a

-- (b) and what is granted is that very request
abbrev pub Prompt : {V P : Type 0} → (V → P → V) → Reference V P → ℕ → List (Event V P) → Type 0
Prompt {V} {P} act start parties es =
    (front stretch back : List (Event V P)) (p : ℕ) (r : Request V P)
    → es ≡ front ++ ((Post p r, Queued) ∷ (stretch ++ back))
    → advances (target r) stretch ≡ parties * (parties + 1)
    → (early : List (Event V P)) × (late : List (Event V P)) × (stretch ≡ early ++ ((Advance (target r), Grant p) ∷ late))
    × ((remembered act start (front ++ ((Post p r, Queued) ∷ early))).waiting p ≡ Some r)

-- (c)
pub record Counted (finished held : ℕ) (g : Ledger) : Type 0 where
  pub requests : g.hits + g.grants ≡ finished
  pub granted : g.grants ≡ g.recalls + g.evictions + g.yields + held

abbrev pub Possible : ℕ → Type 0
Possible n = (n ≢ 1) × (n ≢ 2) × (n ≢ 4) × (n ≢ 13)

abbrev pub Undamaged : {V P : Type 0} → List (Event V P) → Type 0
Undamaged {V} {P} es = (front back : List (Event V P)) (c : Call V P) (n : Refusal) → es ≡ front ++ ((c, Refused n) ∷ back) → Possible (number_of n)

pub record LawsHold {V P R : Type 0} (k : Bench V P R) (home : List V) (es : List (Event V P)) (end : State V P R) : Type 0 where
  pub coherent : Coherent k.op.act k.cells es home end.home
  pub prompt : Prompt k.op.act (at_making home) k.parties es
  pub counted : Counted (remembered k.op.act (at_making home) es).finished (held_count end.lines) end.ledger
  pub undamaged : Undamaged es
  pub faithful : (front back : List (Event V P)) → es ≡ front ++ back → Faithful k.op.act home front
  pub legal : Legal k.ways end.lines end.directory end.registers

-- every run over an update operation and a victim rule, whatever the tables, the ledger and the home at the making
abbrev pub EveryRun : {V P R : Type 0} → Algebra V P → Rule R → Type 0
EveryRun {V} {P} {R} op victim =
    (ways : ℕ) (s : State V P R) → make_refusal (bench op victim ways s) s ≡ None → (calls : List (Call V P))
    → let k : Bench V P R = bench op victim ways s in
    LawsHold k s.home (events k (made k s) calls) (final k (made k s) calls)
