-- The making of a bench
--   issued   what a make answers: nothing against it, or its refusal
--   made_or  the state that a make leaves: new tables and a new ledger, or all as it was
use Rattle.std.specs.Prelude.{Some, None, Ok, Err, Option, Result}
use Rattle.tables.specs.declared.refusal.Refusal.{Refusal}
use Rattle.model.specs.Bench.{Bench, State}
use Rattle.model.specs.Steps.{made}
use Rattle.settlement.specs.declared.ticket.Ticket.{Ticket}

abbrev pub issued : Result Ticket Refusal → Option Refusal
issued (Ok t) = None
issued (Err n) = Some n

abbrev pub made_or : {V P R : Type 0} → Option Refusal → Bench V P R → State V P R → State V P R
made_or None k s = made k s
made_or (Some n) k s = s
