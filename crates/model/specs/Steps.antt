-- The steps: what each call does to the state of a bench, and what it answers
-- A call makes its checks in rising order of the refusals' numbers; the first that fails refuses and leaves the state.
--   need           the first check that fails gives its refusal
--   queue, hit, turn_to, send, grant, clear, close   the moves that the steps are made of
--   own_hit, conflict, vacant, own_line, whose   the searches of a state
--   step           a call, as state and answer
--   made           the state that a make leaves
--   taken          a call on the tables as they are
--   events, final  the calls of a run with their answers, and the state that it ends in
use Rattle.std.specs.Prelude.{ℕ, zero, suc, ◌+◌, ◌-◌, ◌*◌, ◌/◌, Bool, true, false, cond, ◌&&◌, List, [], ◌∷◌, length, replicate, Some, None, Option, ◌==◌, nat_le, nat_lt, slice_set}
use Rattle.tables.specs.declared.line.Line.{Line}
use Rattle.tables.specs.declared.line.Line.TheVariants.{Invalid}
use Rattle.tables.specs.declared.request.Request.{Request}
use Rattle.tables.specs.declared.register.Register.{Register}
use Rattle.tables.specs.declared.register.Register.TheVariants.{Empty, Waiting, Answered}
use Rattle.tables.specs.declared.entry.Phase.{Phase}
use Rattle.tables.specs.declared.entry.Phase.TheVariants as phase
use Rattle.tables.specs.declared.entry.Entry.{Entry}
use Rattle.tables.specs.declared.ledger.Status.TheVariants.{Open, Closed}
use Rattle.tables.specs.declared.ledger.Ledger.{Ledger}
use Rattle.tables.specs.declared.refusal.Refusal.{Refusal}
use Rattle.tables.specs.declared.refusal.Refusal.TheVariants.{Sizes, Illegal, LedgerClosed, HomeTooSmall, CountTooHigh, NoSuchParty, NoSuchCell, RegisterInUse, RegisterEmpty, RegisterWaiting, NoLine, Unfinished, Place}
use Rattle.party_set.specs.Sets.{with, without, is_nobody}
use Rattle.tables.specs.Lines.{target, is_held, cell_of, phase_of, is_empty}
use Rattle.tables.specs.Legal.{blank, legal}
use Rattle.tables.specs.Ledgers.{is_open, counts_low}
use Rattle.model.specs.declared.call.Call.{Call}
use Rattle.model.specs.declared.call.Call.TheVariants.{Post, Advance, Collect, Yield, Settle}
use Rattle.model.specs.declared.answer.Answer.{Answer}
use Rattle.model.specs.declared.answer.Answer.TheVariants.{Refused, Hit, Queued, Idle, Recall, Evict, Grant, Collected, Yielded, Settled}
use Rattle.model.specs.Searches.{own_hit_in, conflict_in, vacant_in, own_line_in, after_last_in, served_at}
use Rattle.model.specs.Bench.{Bench, State, bench, line, register, entry, lookup, hit_line, value_in, answer_to, granted_line, sent_home, all_empty}

abbrev pub need : Bool → Refusal → Option Refusal → Option Refusal
need true n o = o
need false n o = Some n

abbrev pub hit_more : Ledger → Ledger
hit_more g = record { status = g.status; hits = g.hits + 1; grants = g.grants; recalls = g.recalls; evictions = g.evictions; yields = g.yields }

abbrev pub grant_more : Ledger → Ledger
grant_more g = record { status = g.status; hits = g.hits; grants = g.grants + 1; recalls = g.recalls; evictions = g.evictions; yields = g.yields }

abbrev pub recall_more : Ledger → Ledger
recall_more g = record { status = g.status; hits = g.hits; grants = g.grants; recalls = g.recalls + 1; evictions = g.evictions; yields = g.yields }

abbrev pub evict_more : Ledger → Ledger
evict_more g = record { status = g.status; hits = g.hits; grants = g.grants; recalls = g.recalls; evictions = g.evictions + 1; yields = g.yields }

abbrev pub yield_more : Ledger → Ledger
yield_more g = record { status = g.status; hits = g.hits; grants = g.grants; recalls = g.recalls; evictions = g.evictions; yields = g.yields + 1 }

abbrev pub shut : Ledger → Ledger
shut g = record { status = Closed; hits = g.hits; grants = g.grants; recalls = g.recalls; evictions = g.evictions; yields = g.yields }

-- an entry that loses a holder, gets a turn, is granted
abbrev pub left_by : Entry → ℕ → Entry
left_by e q = record { phase = cond (is_nobody (without e.holders q)) phase.Free e.phase; holders = without e.holders q; turn = e.turn; last = e.last }

abbrev pub with_turn : Entry → ℕ → Entry
with_turn e q = record { phase = e.phase; holders = e.holders; turn = Some q; last = e.last }

abbrev pub joined_by : Entry → Phase → ℕ → Entry
joined_by e f q = record { phase = f; holders = with e.holders q; turn = None; last = q }

module _ {V P R : Type 0} (k : Bench V P R) where
  abbrev pub fit : State V P R → Bool
  fit s = nat_le 1 k.parties && nat_le k.parties 16 && nat_le 1 k.cells && nat_le k.cells 256 && nat_le 1 k.ways && nat_le k.ways 8 && length s.lines == k.parties * k.ways

  abbrev pub legal_here : State V P R → Bool
  legal_here s = legal k.ways s.lines s.directory s.registers

  -- the moves
  abbrev pub queue : State V P R → ℕ → Request V P → State V P R
  queue s p r = record { lines = s.lines; directory = s.directory; registers = slice_set s.registers p (Waiting r); ledger = s.ledger; rule = s.rule; home = s.home }

  abbrev pub hit : State V P R → ℕ → Request V P → ℕ → State V P R
  hit s p r i = record { lines = slice_set s.lines i (hit_line k.op r (line s i)); directory = s.directory; registers = slice_set s.registers p (Answered (answer_to r (value_in (line s i)))); ledger = hit_more s.ledger; rule = k.victim.touched s.rule p (i - p * k.ways); home = s.home }

  abbrev pub turn_to : State V P R → ℕ → ℕ → State V P R
  turn_to s a q = record { lines = s.lines; directory = slice_set s.directory a (with_turn (entry s a) q); registers = s.registers; ledger = s.ledger; rule = s.rule; home = s.home }

  -- line i goes home
  abbrev pub send : State V P R → ℕ → Ledger → R → State V P R
  send s i g u = record { lines = slice_set s.lines i Invalid; directory = slice_set s.directory (cell_of (line s i)) (left_by (entry s (cell_of (line s i))) (i / k.ways)); registers = s.registers; ledger = g; rule = u; home = sent_home k.op s.home (line s i) }

  abbrev pub grant : State V P R → ℕ → ℕ → Request V P → ℕ → Line V P → State V P R
  grant s a q r i l = record { lines = slice_set s.lines i l; directory = slice_set s.directory a (joined_by (entry s a) (phase_of l) q); registers = slice_set s.registers q (Answered (answer_to r (value_in l))); ledger = grant_more s.ledger; rule = k.victim.touched s.rule q (i - q * k.ways); home = s.home }

  abbrev pub clear : State V P R → ℕ → State V P R
  clear s p = record { lines = s.lines; directory = s.directory; registers = slice_set s.registers p Empty; ledger = s.ledger; rule = s.rule; home = s.home }

  abbrev pub close : State V P R → State V P R
  close s = record { lines = s.lines; directory = s.directory; registers = s.registers; ledger = shut s.ledger; rule = s.rule; home = s.home }

  abbrev pub own_hit : State V P R → ℕ → Request V P → Option ℕ
  own_hit s p r = own_hit_in k.ways s.lines p r

  abbrev pub conflict : State V P R → Request V P → Option ℕ
  conflict s r = conflict_in k.ways s.lines k.parties r

  abbrev pub vacant : State V P R → ℕ → Option ℕ
  vacant s q = vacant_in k.ways s.lines q

  abbrev pub own_line : State V P R → ℕ → ℕ → Option ℕ
  own_line s p a = own_line_in k.ways s.lines p a

  -- post
  abbrev pub post_refusal : State V P R → ℕ → Request V P → Option Refusal
  post_refusal s p r = need (fit s) Sizes (need (legal_here s) Illegal (need (is_open s.ledger) LedgerClosed (need (counts_low s.ledger) CountTooHigh (need (nat_lt p k.parties) NoSuchParty (need (nat_lt (target r) k.cells) NoSuchCell (need (is_empty (register s p)) RegisterInUse None))))))

  abbrev pub post_by : Option ℕ → State V P R → ℕ → Request V P → State V P R × Answer V
  post_by None s p r = (queue s p r, Queued)
  post_by (Some i) s p r = (hit s p r i, Hit)

  abbrev pub post_if : Option Refusal → State V P R → ℕ → Request V P → State V P R × Answer V
  post_if (Some n) s p r = (s, Refused n)
  post_if None s p r = post_by (own_hit s p r) s p r

  -- advance
  abbrev pub advance_refusal : State V P R → ℕ → Option Refusal
  advance_refusal s a = need (fit s) Sizes (need (legal_here s) Illegal (need (is_open s.ledger) LedgerClosed (need (nat_le k.cells (length s.home)) HomeTooSmall (need (counts_low s.ledger) CountTooHigh (need (nat_lt a k.cells) NoSuchCell None)))))

  abbrev pub after_last : State V P R → ℕ → ℕ → ℕ
  after_last s a d = after_last_in k.parties (entry s a).last d

  abbrev pub whose : Option ℕ → State V P R → ℕ → Option ℕ
  whose t s a = served_at k.parties s.registers a (entry s a).last t

  abbrev pub granting : Option (Line V P) → State V P R → ℕ → ℕ → Request V P → ℕ → State V P R × Answer V
  granting None s a q r i = (s, Refused Place)
  granting (Some l) s a q r i = (grant s a q r i l, Grant q)

  abbrev pub rooming : Option ℕ → State V P R → ℕ → ℕ → Request V P → State V P R × Answer V
  rooming None s a q r =
      let w : ℕ = k.victim.picked s.rule q k.ways in
      (send (turn_to s a q) (q * k.ways + w) (evict_more s.ledger) (k.victim.after s.rule q k.ways), Evict w)
  rooming (Some i) s a q r = granting (granted_line k.op r (lookup s.home a)) s a q r i

  abbrev pub recalling : Option ℕ → State V P R → ℕ → ℕ → Request V P → State V P R × Answer V
  recalling (Some i) s a q r = (send (turn_to s a q) i (recall_more s.ledger) s.rule, Recall (i / k.ways))
  recalling None s a q r = rooming (vacant s q) s a q r

  abbrev pub serving : Register V P → State V P R → ℕ → ℕ → State V P R × Answer V
  serving Empty s a q = (s, Refused Illegal)
  serving (Waiting r) s a q = recalling (conflict s r) s a q r
  serving (Answered v) s a q = (s, Refused Illegal)

  abbrev pub advance_for : Option ℕ → State V P R → ℕ → State V P R × Answer V
  advance_for None s a = (s, Idle)
  advance_for (Some q) s a = serving (register s q) s a q

  abbrev pub advance_if : Option Refusal → State V P R → ℕ → State V P R × Answer V
  advance_if (Some n) s a = (s, Refused n)
  advance_if None s a = advance_for (whose (entry s a).turn s a) s a

  -- collect
  abbrev pub collect_refusal : State V P R → ℕ → Option Refusal
  collect_refusal s p = need (fit s) Sizes (need (legal_here s) Illegal (need (is_open s.ledger) LedgerClosed (need (nat_lt p k.parties) NoSuchParty None)))

  abbrev pub collect_by : Register V P → State V P R → ℕ → State V P R × Answer V
  collect_by Empty s p = (s, Refused RegisterEmpty)
  collect_by (Waiting r) s p = (s, Refused RegisterWaiting)
  collect_by (Answered v) s p = (clear s p, Collected v)

  abbrev pub collect_if : Option Refusal → State V P R → ℕ → State V P R × Answer V
  collect_if (Some n) s p = (s, Refused n)
  collect_if None s p = collect_by (register s p) s p

  -- yield
  abbrev pub yield_refusal : State V P R → ℕ → ℕ → Option Refusal
  yield_refusal s p a = need (fit s) Sizes (need (legal_here s) Illegal (need (is_open s.ledger) LedgerClosed (need (nat_le k.cells (length s.home)) HomeTooSmall (need (counts_low s.ledger) CountTooHigh (need (nat_lt p k.parties) NoSuchParty (need (nat_lt a k.cells) NoSuchCell None))))))

  abbrev pub yield_by : Option ℕ → State V P R → State V P R × Answer V
  yield_by None s = (s, Refused NoLine)
  yield_by (Some i) s = (send s i (yield_more s.ledger) s.rule, Yielded)

  abbrev pub yield_if : Option Refusal → State V P R → ℕ → ℕ → State V P R × Answer V
  yield_if (Some n) s p a = (s, Refused n)
  yield_if None s p a = yield_by (own_line s p a) s

  -- settle
  abbrev pub settle_refusal : State V P R → Option Refusal
  settle_refusal s = need (fit s) Sizes (need (legal_here s) Illegal (need (is_open s.ledger) LedgerClosed (need (nat_le k.cells (length s.home)) HomeTooSmall (need (counts_low s.ledger) CountTooHigh (need (all_empty s.registers) Unfinished None)))))

  abbrev pub emptied : Bool → State V P R → ℕ → State V P R
  emptied false s i = s
  emptied true s i = send s i (yield_more s.ledger) s.rule

  abbrev pub all_sent : ℕ → ℕ → State V P R → State V P R
  all_sent i zero s = s
  all_sent i (suc n) s = all_sent (suc i) n (emptied (is_held (line s i)) s i)

  abbrev pub settle_if : Option Refusal → State V P R → State V P R × Answer V
  settle_if (Some n) s = (s, Refused n)
  settle_if None s = (close (all_sent 0 (k.parties * k.ways) s), Settled)

  abbrev pub step : State V P R → Call V P → State V P R × Answer V
  step s (Post p r) = post_if (post_refusal s p r) s p r
  step s (Advance a) = advance_if (advance_refusal s a) s a
  step s (Collect p) = collect_if (collect_refusal s p) s p
  step s (Yield p a) = yield_if (yield_refusal s p a) s p a
  step s Settle = settle_if (settle_refusal s) s

  -- make
  abbrev pub new_ledger : Ledger
  new_ledger = record { status = Open; hits = 0; grants = 0; recalls = 0; evictions = 0; yields = 0 }

  abbrev pub made : State V P R → State V P R
  made s = record { lines = replicate (k.parties * k.ways) Invalid; directory = replicate k.cells (blank (k.parties - 1)); registers = replicate k.parties Empty; ledger = new_ledger; rule = s.rule; home = s.home }

  abbrev pub make_refusal : State V P R → Option Refusal
  make_refusal s = need (fit s) Sizes (need (nat_le k.cells (length s.home)) HomeTooSmall None)

-- a call on the tables as they are
abbrev pub sized : {V P R : Type 0} → Bench V P R → State V P R → Bench V P R
sized k s = bench k.op k.victim k.ways s

abbrev pub taken : {V P R : Type 0} → Bench V P R → State V P R → Call V P → State V P R × Answer V
taken k s c = step (sized k s) s c

-- a run
abbrev pub events : {V P R : Type 0} → Bench V P R → State V P R → List (Call V P) → List (Call V P × Answer V)
events k s [] = []
events k s (c ∷ cs) = (c, (taken k s c).1) ∷ events k (taken k s c).0 cs

abbrev pub final : {V P R : Type 0} → Bench V P R → State V P R → List (Call V P) → State V P R
final k s [] = s
final k s (c ∷ cs) = final k (taken k s c).0 cs
