-- What a public call does
--   Takes  the call takes the bench from one state to another and gives the answer: exactly the step of the rules
use Rattle.std.specs.Prelude.{◌≡◌, ℕ}
use Rattle.operation.specs.Algebra.{Algebra}
use Rattle.victim.specs.Rules.{Rule}
use Rattle.model.specs.declared.call.Call.{Call}
use Rattle.model.specs.declared.answer.Answer.{Answer}
use Rattle.model.specs.Bench.{State, bench}
use Rattle.model.specs.Steps.{step}

abbrev pub Takes : {V P R : Type 0} → Algebra V P → Rule R → ℕ → Call V P → State V P R → State V P R → Answer V → Type 0
Takes {V} {P} {R} op victim ways call before after answer = ◌≡◌ {A = State V P R × Answer V} (after, answer) (step (bench op victim ways before) before call)
