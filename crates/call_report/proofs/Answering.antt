-- From the report on a text to the answer to an input
use Rattle.std.proofs.Common.{◌≡◌, ℕ, List, IfOk, Ok, Err, Result, sym, subst, MatchResult}
use Rattle.notation.specs.declared.Kind.{Kind}
use Rattle.call_report.specs.Inputs.{Headed, ReportOf, Answers}

pub answers : {X E : Type 0} (bytes : X → List ℕ) (input text : List ℕ) (k kind : Kind) (n : ℕ) (Q : E → Type 0) (r : Result X E) → text ≡ input → Headed text k n → k ≡ kind → MatchResult r (λ s. ReportOf kind text n (bytes s)) Q → IfOk r (λ s. Answers input (bytes s))
answers bytes input text k kind n Q (Ok s) same headed is report = subst (λ t. Answers t (bytes s)) same (k, n, headed, subst (λ j. ReportOf j text n (bytes s)) (sym is) report)
answers bytes input text k kind n Q (Err e) same headed is report = tt
