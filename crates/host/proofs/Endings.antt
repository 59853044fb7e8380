-- What the answer of a settle says of the checks and of the state, whatever the checks found
use Rattle.std.proofs.Common.{◌≡◌, ℕ, Some, None, Option, sym, refl, ap, ◌∙◌, subst, arith}
use Rattle.tables.specs.declared.refusal.Refusal.{Refusal}
use Rattle.model.specs.declared.answer.Answer.{Answer}
use Rattle.model.specs.declared.answer.Answer.TheVariants.{Refused, Settled}
use Rattle.model.specs.Bench.{Bench, State}
use Rattle.model.specs.Steps.{close, settle_if}

module _ {V P R : Type 0} (k : Bench V P R) (s after : State V P R) where
  abbrev Gives : Answer V → Option Refusal → Type 0
  Gives answer x = ◌≡◌ {A = State V P R × Answer V} (after, answer) (settle_if k x s)

  pub settled_none : (x : Option Refusal) → Gives Settled x → x ≡ None
  settled_none None e = refl
  settled_none (Some n) e = absurd (let z : ◌≡◌ {A = Answer V} Settled (Refused n) = ap (λ p. p.1) e in let y : ◌≡◌ {A = ℕ} 0 1 = cc in omega arith)

  pub refused_some : (n : Refusal) (x : Option Refusal) → Gives (Refused n) x → x ≡ Some n
  refused_some n None e = absurd (let z : ◌≡◌ {A = Answer V} (Refused n) Settled = ap (λ p. p.1) e in let y : ◌≡◌ {A = ℕ} 0 1 = cc in omega arith)
  refused_some n (Some m) e = let z : ◌≡◌ {A = Answer V} (Refused n) (Refused m) = ap (λ p. p.1) e in let y : n ≡ m = cc in ap Some (sym y)

  -- a settled bench is closed already
  pub settled_closed : (x : Option Refusal) → Gives Settled x → after ≡ close k (settle_if k x s).0
  settled_closed x e = ap (λ p. p.0) e ∙ subst (λ z. (settle_if k z s).0 ≡ close k (settle_if k z s).0) (sym (settled_none x e)) refl

  -- a refused settle leaves the state
  pub refused_still : (n : Refusal) (x : Option Refusal) → Gives (Refused n) x → after ≡ s
  refused_still n x e = ap (λ p. p.0) e ∙ ap (λ z. (settle_if k z s).0) (refused_some n x e)
