-- What a settle answers
use Rattle.std.specs.Prelude.{Ok, Err, Result}
use Rattle.model.specs.declared.answer.Answer.{Answer}
use Rattle.model.specs.declared.answer.Answer.TheVariants as answer
use Rattle.settlement.specs.declared.ticket.Unsettled.{Unsettled}

abbrev pub settled : {V : Type 0} → Result (Unit {0}) Unsettled → Answer V
settled (Ok u) = answer.Settled
settled (Err e) = answer.Refused e.refusal
