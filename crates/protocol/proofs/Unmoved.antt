-- A refused call leaves the state as it was
use Rattle.std.proofs.Common.{◌≡◌, ℕ, true, false, cond, is_ok, Some, None, Ok, Err, Option, Result, sym, refl, ap, ◌∙◌, arith}
use Rattle.tables.specs.declared.line.Line.{Line}
use Rattle.tables.specs.declared.request.Request.{Request}
use Rattle.tables.specs.declared.register.Register.{Register}
use Rattle.tables.specs.declared.register.Register.TheVariants.{Empty, Waiting, Answered}
use Rattle.tables.specs.declared.refusal.Refusal.{Refusal}
use Rattle.model.specs.declared.answer.Answer.{Answer}
use Rattle.model.specs.declared.call.Call.{Call}
use Rattle.model.specs.declared.call.Call.TheVariants.{Post, Advance, Collect, Yield, Settle}
use Rattle.model.specs.Bench.{Bench, State, lookup, granted_line, register, entry}
use Rattle.model.specs.Laws.{accepted}
use Rattle.model.specs.Steps.{step, post_if, post_by, post_refusal, own_hit, advance_if, advance_for, advance_refusal, whose, serving, recalling, conflict, rooming, vacant, granting, collect_if, collect_by, collect_refusal, yield_if, yield_by, yield_refusal, own_line, settle_if, settle_refusal}
use Rattle.answers.specs.Answers.{posted, advanced, collected, yielded}
use Rattle.answers.specs.declared.Posted.{Posted}
use Rattle.answers.specs.declared.Posted.TheVariants as post
use Rattle.answers.specs.declared.Advanced.{Advanced}
use Rattle.answers.specs.declared.Advanced.TheVariants as advance
use Rattle.settlement.specs.Answers.{settled}
use Rattle.settlement.specs.declared.ticket.Unsettled.{Unsettled}

pub no : {X : Type 0} → true ≡ false → X
no e = absurd (let z : ◌≡◌ {A = ℕ} 1 0 = ap (λ b. cond b 1 0) e in omega arith)

module _ {V P R : Type 0} (k : Bench V P R) (s : State V P R) where
  abbrev Unmoved : State V P R × Answer V → Type 0
  Unmoved x = accepted x.1 ≡ false → x.0 ≡ s

  post_by_unmoved : (x : Option ℕ) (p : ℕ) (r : Request V P) → Unmoved (post_by k x s p r)
  post_by_unmoved None p r e = no e
  post_by_unmoved (Some i) p r e = no e

  post_unmoved : (x : Option Refusal) (p : ℕ) (r : Request V P) → Unmoved (post_if k x s p r)
  post_unmoved (Some n) p r e = refl
  post_unmoved None p r e = post_by_unmoved (own_hit k s p r) p r e

  granting_unmoved : (x : Option (Line V P)) (a q : ℕ) (r : Request V P) (i : ℕ) → Unmoved (granting k x s a q r i)
  granting_unmoved None a q r i e = refl
  granting_unmoved (Some l) a q r i e = no e

  rooming_unmoved : (x : Option ℕ) (a q : ℕ) (r : Request V P) → Unmoved (rooming k x s a q r)
  rooming_unmoved None a q r e = no e
  rooming_unmoved (Some i) a q r e = granting_unmoved (granted_line k.op r (lookup s.home a)) a q r i e

  recalling_unmoved : (x : Option ℕ) (a q : ℕ) (r : Request V P) → Unmoved (recalling k x s a q r)
  recalling_unmoved (Some i) a q r e = no e
  recalling_unmoved None a q r e = rooming_unmoved (vacant k s q) a q r e

  serving_unmoved : (x : Register V P) (a q : ℕ) → Unmoved (serving k x s a q)
  serving_unmoved Empty a q e = refl
  serving_unmoved (Waiting r) a q e = recalling_unmoved (conflict k s r) a q r e
  serving_unmoved (Answered v) a q e = refl

  advance_for_unmoved : (x : Option ℕ) (a : ℕ) → Unmoved (advance_for k x s a)
  advance_for_unmoved None a e = no e
  advance_for_unmoved (Some q) a e = serving_unmoved (register s q) a q e

  advance_unmoved : (x : Option Refusal) (a : ℕ) → Unmoved (advance_if k x s a)
  advance_unmoved (Some n) a e = refl
  advance_unmoved None a e = advance_for_unmoved (whose k (entry s a).turn s a) a e

  collect_by_unmoved : (x : Register V P) (p : ℕ) → Unmoved (collect_by k x s p)
  collect_by_unmoved Empty p e = refl
  collect_by_unmoved (Waiting r) p e = refl
  collect_by_unmoved (Answered v) p e = no e

  collect_unmoved : (x : Option Refusal) (p : ℕ) → Unmoved (collect_if k x s p)
  collect_unmoved (Some n) p e = refl
  collect_unmoved None p e = collect_by_unmoved (register s p) p e

  yield_by_unmoved : (x : Option ℕ) → Unmoved (yield_by k x s)
  yield_by_unmoved None e = refl
  yield_by_unmoved (Some i) e = no e

  yield_unmoved : (x : Option Refusal) (p a : ℕ) → Unmoved (yield_if k x s p a)
  yield_unmoved (Some n) p a e = refl
  yield_unmoved None p a e = yield_by_unmoved (own_line k s p a) e

  settle_unmoved : (x : Option Refusal) → Unmoved (settle_if k x s)
  settle_unmoved (Some n) e = refl
  settle_unmoved None e = no e

  step_unmoved : (c : Call V P) → Unmoved (step k s c)
  step_unmoved (Post p r) e = post_unmoved (post_refusal k s p r) p r e
  step_unmoved (Advance a) e = advance_unmoved (advance_refusal k s a) a e
  step_unmoved (Collect p) e = collect_unmoved (collect_refusal k s p) p e
  step_unmoved (Yield p a) e = yield_unmoved (yield_refusal k s p a) p a e
  step_unmoved Settle e = settle_unmoved (settle_refusal k s) e

  -- what a call leaves and answers is what its step does, and the answer is a refusal
  pub unmoved : (c : Call V P) {t : State V P R} {x : Answer V} → t ≡ (step k s c).0 → x ≡ (step k s c).1 → accepted x ≡ false → t ≡ s
  unmoved c e f h = e ∙ step_unmoved c (ap accepted (sym f) ∙ h)

-- an answer is accepted exactly where the call returned no refusal
module _ (V : Type 0) where
  pub posts : (r : Result Posted Refusal) → accepted {V = V} (posted r) ≡ is_ok r
  posts (Ok post.Hit) = refl
  posts (Ok post.Queued) = refl
  posts (Err n) = refl

  pub advances : (r : Result Advanced Refusal) → accepted {V = V} (advanced r) ≡ is_ok r
  advances (Ok advance.Idle) = refl
  advances (Ok (advance.Recall p)) = refl
  advances (Ok (advance.Evict w)) = refl
  advances (Ok (advance.Grant p)) = refl
  advances (Err n) = refl

  pub collects : (r : Result (Option V) Refusal) → accepted (collected r) ≡ is_ok r
  collects (Ok v) = refl
  collects (Err n) = refl

  pub yields : (r : Result (Unit {0}) Refusal) → accepted {V = V} (yielded r) ≡ is_ok r
  yields (Ok u) = refl
  yields (Err n) = refl

  pub settles : (r : Result (Unit {0}) Unsettled) → accepted {V = V} (settled r) ≡ is_ok r
  settles (Ok u) = refl
  settles (Err e) = refl
