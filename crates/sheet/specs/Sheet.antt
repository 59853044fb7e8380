-- Nine worked cases of the bench and its parts, as the definitions have them
--   count        a number as the value of a total
--   delta        a number as the partial of a total
--   Script       calls, each with the answer that it is to get
--   handed       what a make is handed: tables of p parties, n cells and w ways, a rule, and a home
--   one          the script of case 1, and so on; a later case goes on where an earlier one ended
--   Plays        a run from the making on gets the answers that its script says
--   left         what such a run leaves
--   Played       cases 1 to 6, under a victim rule as it is at first: a total, P = 2, W = 1, N = 2, home 10 and 20
--   Moved        case 7: -5 acting on 3
--   Forgotten    case 8: a combining register over 10 is told to apply 5 and to store 9, and then loads 9
--   refusal      the number of a make's refusal, if it refuses tables of p parties and n cells
--   Limited      case 9: 16 parties and 256 cells pass, and one more of either is refused with 1
--   SheetStands  all nine, the first six under both rules
use Rattle.std.specs.Prelude.{◌≡◌, ℕ, ◌*◌, List, [], ◌∷◌, ◌++◌, map, replicate, pos, neg_ℤ, Some, None, Ok, Option, slice_set}
use Rattle.std.specs.Option.{option_map}
use Rattle.operation.specs.Algebra.{applied}
use Rattle.operation.specs.Total.{counted, stepped, totals}
use Rattle.operation.specs.declared.count.Count.{Count}
use Rattle.operation.specs.declared.delta.Delta.{Delta}
use Rattle.memory.specs.Homes.{loaded, placed}
use Rattle.memory.specs.Register.{acting}
use Rattle.memory.specs.declared.combining.Pending.{Pending}
use Rattle.victim.specs.Aging.{aging}
use Rattle.victim.specs.Orders.{numbered}
use Rattle.victim.specs.Rotating.{rotating}
use Rattle.victim.specs.Rules.{Rule}
use Rattle.victim.specs.declared.rotate.Rotate.{Rotate}
use Rattle.tables.specs.Legal.{blank}
use Rattle.tables.specs.Refusals.{number_of}
use Rattle.tables.specs.declared.ledger.Status.TheVariants.{Closed}
use Rattle.tables.specs.declared.line.Line.TheVariants.{Invalid, UpdateOnly}
use Rattle.tables.specs.declared.register.Register.TheVariants.{Empty}
use Rattle.tables.specs.declared.request.Request.TheVariants.{Read, Update}
use Rattle.model.specs.Bench.{Bench, State, bench}
use Rattle.model.specs.Laws.{Event}
use Rattle.model.specs.Steps.{events, final, made, make_refusal}
use Rattle.model.specs.declared.answer.Answer.TheVariants.{Collected, Evict, Grant, Hit, Queued, Recall}
use Rattle.model.specs.declared.call.Call.{Call}
use Rattle.model.specs.declared.call.Call.TheVariants.{Advance, Collect, Post}

abbrev pub count : ℕ → Count
count n = counted (pos n)

abbrev pub delta : ℕ → Delta
delta n = stepped (pos n)

abbrev pub Script : Type 0
Script = List (Event Count Delta)

abbrev pub handed : {R : Type 0} → ℕ → ℕ → ℕ → R → List Count → State Count Delta R
handed p n w u home = record {
  lines = replicate (p * w) Invalid;
  directory = replicate n (blank 0);
  registers = replicate p Empty;
  ledger = record { status = Closed; hits = 0; grants = 0; recalls = 0; evictions = 0; yields = 0 };
  rule = u;
  home = home;
}

-- cases 1 to 6: each call with its answer
abbrev pub one : Script
one = (Post 0 (Update 0 (delta 5)), Queued) ∷ (Advance 0, Grant 0) ∷ []

abbrev pub two : Script
two = one ++ (Collect 0, Collected None) ∷ (Post 1 (Update 0 (delta 7)), Queued) ∷ (Advance 0, Grant 1) ∷ []

abbrev pub three : Script
three = two ++ (Collect 1, Collected None) ∷ (Post 1 (Update 0 (delta 1)), Hit) ∷ []

abbrev pub four : Script
four = three ++ (Post 0 (Read 0), Queued) ∷ (Advance 0, Recall 0) ∷ (Advance 0, Recall 1) ∷ (Advance 0, Grant 0) ∷ (Collect 0, Collected (Some (count 23))) ∷ []

-- party 1 updates between the two recalls
abbrev pub five : Script
five = three ++ (Post 0 (Read 0), Queued) ∷ (Advance 0, Recall 0) ∷ (Collect 1, Collected None) ∷ (Post 1 (Update 0 (delta 2)), Hit) ∷ (Advance 0, Recall 1) ∷ (Advance 0, Grant 0) ∷ (Collect 0, Collected (Some (count 25))) ∷ []

abbrev pub six : Script
six = one ++ (Collect 0, Collected None) ∷ (Post 0 (Read 1), Queued) ∷ (Advance 1, Evict 0) ∷ []

abbrev pub six_read : Script
six_read = six ++ (Advance 1, Grant 0) ∷ (Collect 0, Collected (Some (count 20))) ∷ []

module _ {R : Type 0} (rule : Rule R) (u : R) where
  abbrev pub given : State Count Delta R
  given = handed 2 2 1 u (count 10 ∷ count 20 ∷ [])

  abbrev pub played : Bench Count Delta R
  played = bench totals rule 1 given

  abbrev pub calls : Script → List (Call Count Delta)
  calls script = map (λ e. e.0) script

  abbrev pub Plays : Script → Type 0
  Plays script = events played (made played given) (calls script) ≡ script

  abbrev pub left : Script → State Count Delta R
  left script = final played (made played given) (calls script)

  pub record Played : Type 0 where
    pub make : make_refusal played given ≡ None
    pub case_1 : Plays one × ((left one).home ≡ count 10 ∷ count 20 ∷ [])
    pub case_2 : Plays two × ((left two).lines ≡ UpdateOnly 0 (delta 5) ∷ UpdateOnly 0 (delta 7) ∷ [])
    pub case_3 : Plays three × ((left three).lines ≡ UpdateOnly 0 (delta 5) ∷ UpdateOnly 0 (delta 8) ∷ [])
    pub case_4 : Plays four
    pub case_5 : Plays five
    pub case_6 : Plays six × ((left six).home ≡ count 15 ∷ count 20 ∷ []) × Plays six_read

abbrev pub Moved : Type 0
Moved = totals.act (count 3) (stepped (neg_ℤ (pos 5))) ≡ count 4294967294

abbrev held : ℕ → Delta → Pending Delta
held place step = record { place = place; partial = step }

-- by the register's meaning: an apply may be held back, and what a store leaves has nothing held at its place
pub record Forgotten : Type 0 where
  pub over : acting totals (count 10 ∷ []) None ≡ count 10 ∷ []
  pub apply : (placed (acting totals (count 10 ∷ []) None) 0 ≡ Ok tt) × (applied totals (acting totals (count 10 ∷ []) None) 0 (delta 5) ≡ acting totals (count 10 ∷ []) (Some (held 0 (delta 5))))
  pub store : (placed (acting totals (count 10 ∷ []) (Some (held 0 (delta 5)))) 0 ≡ Ok tt) × (slice_set (acting totals (count 10 ∷ []) (Some (held 0 (delta 5)))) 0 (count 9) ≡ acting totals (count 9 ∷ []) None)
  pub load : loaded (acting totals (count 9 ∷ []) None) 0 ≡ Ok (count 9)

-- one way each, and a home with room for the cells
abbrev pub refusal : ℕ → ℕ → Option ℕ
refusal p n =
    let s : State Count Delta Rotate = handed p n 1 (record { pointers = replicate 16 0 }) (replicate n (count 0)) in
    option_map number_of (make_refusal (bench totals rotating 1 s) s)

pub record Limited : Type 0 where
  pub most : refusal 16 256 ≡ None
  pub parties : refusal 17 256 ≡ Some 1
  pub cells : refusal 16 257 ≡ Some 1

pub record SheetStands : Type 0 where
  pub rotate : Played rotating (record { pointers = replicate 16 0 })
  pub oldest : Played aging (record { orders = replicate 16 numbered })
  pub case_7 : Moved
  pub case_8 : Forgotten
  pub case_9 : Limited
