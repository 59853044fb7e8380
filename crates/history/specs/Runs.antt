-- A run: a make, and a list of calls, each on what the one before left
--   answers_of  the answers of some events
--   together    calls with their answers
--   held        whether a ticket is still to be given up
--   Ran         what a run gives: the answers and the state that the steps give one after the other, and the laws over
--               the calls with the answers that were given
--   Spared      a run that did not take place has left all as it was
use Rattle.std.specs.Prelude.{◌≡◌, ℕ, Bool, true, false, List, [], ◌∷◌, Some, None, Option}
use Rattle.operation.specs.Algebra.{Algebra}
use Rattle.victim.specs.Rules.{Rule}
use Rattle.tables.specs.Ledgers.{is_open}
use Rattle.model.specs.declared.call.Call.{Call}
use Rattle.model.specs.declared.answer.Answer.{Answer}
use Rattle.model.specs.Bench.{State, bench}
use Rattle.model.specs.Laws.{Event, LawsHold}
use Rattle.model.specs.Steps.{events, final, made, make_refusal}
use Rattle.settlement.specs.declared.ticket.Ticket.{Ticket}
use Rattle.history.specs.declared.playing.Unplayed.{Unplayed}
use Rattle.history.specs.declared.playing.Unplayed.TheVariants.{Refused, OutOfMemory}

abbrev pub answers_of : {V P : Type 0} → List (Event V P) → List (Answer V)
answers_of [] = []
answers_of (e ∷ es) = e.1 ∷ answers_of es

abbrev pub together : {V P : Type 0} → List (Call V P) → List (Answer V) → List (Event V P)
together [] answers = []
together (c ∷ cs) [] = []
together (c ∷ cs) (x ∷ xs) = (c, x) ∷ together cs xs

abbrev pub held : Option Ticket → Bool
held None = false
held (Some t) = true

module _ {V P R : Type 0} (op : Algebra V P) (victim : Rule R) (ways : ℕ) (before after : State V P R) where
  pub record Ran (calls : List (Call V P)) (xs : List (Answer V)) (t : Option Ticket) : Type 0 where
    pub accepted : make_refusal (bench op victim ways before) before ≡ None
    pub answers : xs ≡ answers_of (events (bench op victim ways before) (made (bench op victim ways before) before) calls)
    pub state : after ≡ final (bench op victim ways before) (made (bench op victim ways before) before) calls
    pub laws : LawsHold (bench op victim ways before) before.home (together calls xs) after
    pub ticket : held t ≡ is_open after.ledger

  abbrev pub Spared : Unplayed → Type 0
  Spared (Refused n) = (make_refusal (bench op victim ways before) before ≡ Some n) × (after ≡ before)
  Spared OutOfMemory = (make_refusal (bench op victim ways before) before ≡ None) × (after ≡ before)
