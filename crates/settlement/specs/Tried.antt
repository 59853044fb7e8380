-- What the settlement of the tables answers
use Rattle.std.specs.Prelude.{Ok, Err, Result}
use Rattle.tables.specs.declared.refusal.Refusal.{Refusal}
use Rattle.model.specs.declared.answer.Answer.{Answer}
use Rattle.model.specs.declared.answer.Answer.TheVariants as answer

abbrev pub tried : {V : Type 0} → Result (Unit {0}) Refusal → Answer V
tried (Ok u) = answer.Settled
tried (Err n) = answer.Refused n
