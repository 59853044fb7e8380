-- What a call returns, as the answer that the steps give
use Rattle.std.specs.Prelude.{Ok, Err, Option, Result}
use Rattle.tables.specs.declared.refusal.Refusal.{Refusal}
use Rattle.model.specs.declared.answer.Answer.{Answer}
use Rattle.model.specs.declared.answer.Answer.TheVariants as answer
use Rattle.answers.specs.declared.Posted.{Posted}
use Rattle.answers.specs.declared.Posted.TheVariants as post
use Rattle.answers.specs.declared.Advanced.{Advanced}
use Rattle.answers.specs.declared.Advanced.TheVariants as advance

abbrev pub posted : {V : Type 0} → Result Posted Refusal → Answer V
posted (Ok post.Hit) = answer.Hit
posted (Ok post.Queued) = answer.Queued
posted (Err n) = answer.Refused n

abbrev pub advanced : {V : Type 0} → Result Advanced Refusal → Answer V
advanced (Ok advance.Idle) = answer.Idle
advanced (Ok (advance.Recall p)) = answer.Recall p
advanced (Ok (advance.Evict w)) = answer.Evict w
advanced (Ok (advance.Grant p)) = answer.Grant p
advanced (Err n) = answer.Refused n

abbrev pub collected : {V : Type 0} → Result (Option V) Refusal → Answer V
collected (Ok v) = answer.Collected v
collected (Err n) = answer.Refused n

abbrev pub yielded : {V : Type 0} → Result (Unit {0}) Refusal → Answer V
yielded (Ok u) = answer.Yielded
yielded (Err n) = answer.Refused n

abbrev pub settled : {V : Type 0} → Result (Unit {0}) Refusal → Answer V
settled (Ok u) = answer.Settled
settled (Err n) = answer.Refused n
