-- When a ledger is closed: by an accepted settle, and by nothing else
use Rattle.std.proofs.Common.{◌≡◌, ℕ, Bool, true, false, cond, Some, None, Ok, Err, Option, Result, sym, refl, ap, ◌∙◌}
use Rattle.tables.specs.declared.line.Line.{Line}
use Rattle.tables.specs.declared.request.Request.{Request}
use Rattle.tables.specs.declared.register.Register.{Register}
use Rattle.tables.specs.declared.register.Register.TheVariants.{Empty, Waiting, Answered}
use Rattle.tables.specs.declared.refusal.Refusal.{Refusal}
use Rattle.tables.specs.Ledgers.{is_open}
use Rattle.answers.specs.Answers.{posted, advanced, collected, yielded}
use Rattle.answers.specs.declared.Posted.{Posted}
use Rattle.answers.specs.declared.Posted.TheVariants as post
use Rattle.answers.specs.declared.Advanced.{Advanced}
use Rattle.answers.specs.declared.Advanced.TheVariants as advance
use Rattle.model.specs.declared.answer.Answer.{Answer}
use Rattle.model.specs.declared.answer.Answer.TheVariants.{Refused, Hit, Queued, Idle, Recall, Evict, Grant, Collected, Yielded, Settled}
use Rattle.model.specs.declared.call.Call.{Call}
use Rattle.model.specs.declared.call.Call.TheVariants.{Post, Advance, Collect, Yield, Settle}
use Rattle.model.specs.Bench.{Bench, State, lookup, granted_line, register, entry}
use Rattle.model.specs.Steps.{step, post_if, post_by, post_refusal, own_hit, advance_if, advance_for, advance_refusal, whose, serving, recalling, conflict, rooming, vacant, granting, collect_if, collect_by, collect_refusal, yield_if, yield_by, yield_refusal, own_line, settle_if, settle_refusal}

-- an answer that ends a bench
abbrev pub ends : {V : Type 0} → Answer V → Bool
ends (Refused n) = false
ends Hit = false
ends Queued = false
ends Idle = false
ends (Recall p) = false
ends (Evict w) = false
ends (Grant p) = false
ends (Collected v) = false
ends Yielded = false
ends Settled = true

module _ {V P R : Type 0} (k : Bench V P R) (s : State V P R) where
  abbrev pub OpenAfter : State V P R × Answer V → Type 0
  OpenAfter x = is_open x.0.ledger ≡ cond (ends x.1) false (is_open s.ledger)

  post_by_open : (x : Option ℕ) (p : ℕ) (r : Request V P) → OpenAfter (post_by k x s p r)
  post_by_open None p r = refl
  post_by_open (Some i) p r = refl

  post_open : (x : Option Refusal) (p : ℕ) (r : Request V P) → OpenAfter (post_if k x s p r)
  post_open (Some n) p r = refl
  post_open None p r = post_by_open (own_hit k s p r) p r

  granting_open : (x : Option (Line V P)) (a q : ℕ) (r : Request V P) (i : ℕ) → OpenAfter (granting k x s a q r i)
  granting_open None a q r i = refl
  granting_open (Some l) a q r i = refl

  rooming_open : (x : Option ℕ) (a q : ℕ) (r : Request V P) → OpenAfter (rooming k x s a q r)
  rooming_open None a q r = refl
  rooming_open (Some i) a q r = granting_open (granted_line k.op r (lookup s.home a)) a q r i

  recalling_open : (x : Option ℕ) (a q : ℕ) (r : Request V P) → OpenAfter (recalling k x s a q r)
  recalling_open (Some i) a q r = refl
  recalling_open None a q r = rooming_open (vacant k s q) a q r

  serving_open : (x : Register V P) (a q : ℕ) → OpenAfter (serving k x s a q)
  serving_open Empty a q = refl
  serving_open (Waiting r) a q = recalling_open (conflict k s r) a q r
  serving_open (Answered v) a q = refl

  advance_for_open : (x : Option ℕ) (a : ℕ) → OpenAfter (advance_for k x s a)
  advance_for_open None a = refl
  advance_for_open (Some q) a = serving_open (register s q) a q

  advance_open : (x : Option Refusal) (a : ℕ) → OpenAfter (advance_if k x s a)
  advance_open (Some n) a = refl
  advance_open None a = advance_for_open (whose k (entry s a).turn s a) a

  collect_by_open : (x : Register V P) (p : ℕ) → OpenAfter (collect_by k x s p)
  collect_by_open Empty p = refl
  collect_by_open (Waiting r) p = refl
  collect_by_open (Answered v) p = refl

  collect_open : (x : Option Refusal) (p : ℕ) → OpenAfter (collect_if k x s p)
  collect_open (Some n) p = refl
  collect_open None p = collect_by_open (register s p) p

  yield_by_open : (x : Option ℕ) → OpenAfter (yield_by k x s)
  yield_by_open None = refl
  yield_by_open (Some i) = refl

  yield_open : (x : Option Refusal) (p a : ℕ) → OpenAfter (yield_if k x s p a)
  yield_open (Some n) p a = refl
  yield_open None p a = yield_by_open (own_line k s p a)

  settle_open : (x : Option Refusal) → OpenAfter (settle_if k x s)
  settle_open (Some n) = refl
  settle_open None = refl

  pub step_open : (c : Call V P) → OpenAfter (step k s c)
  step_open (Post p r) = post_open (post_refusal k s p r) p r
  step_open (Advance a) = advance_open (advance_refusal k s a) a
  step_open (Collect p) = collect_open (collect_refusal k s p) p
  step_open (Yield p a) = yield_open (yield_refusal k s p a) p a
  step_open Settle = settle_open (settle_refusal k s)

  pub kept_open : (c : Call V P) {t : State V P R} {x : Answer V} → t ≡ (step k s c).0 → x ≡ (step k s c).1 → ends x ≡ false → is_open s.ledger ≡ is_open t.ledger
  kept_open c e f h = sym (ap (λ (z : State V P R). is_open z.ledger) e ∙ step_open c ∙ ap (λ (y : Answer V). cond (ends y) false (is_open s.ledger)) (sym f) ∙ ap (λ b. cond b false (is_open s.ledger)) h)

-- what the calls other than a settle answer ends no bench
module _ (V : Type 0) where
  pub post_no_end : (r : Result Posted Refusal) → ends {V = V} (posted r) ≡ false
  post_no_end (Ok post.Hit) = refl
  post_no_end (Ok post.Queued) = refl
  post_no_end (Err n) = refl

  pub advance_no_end : (r : Result Advanced Refusal) → ends {V = V} (advanced r) ≡ false
  advance_no_end (Ok advance.Idle) = refl
  advance_no_end (Ok (advance.Recall p)) = refl
  advance_no_end (Ok (advance.Evict w)) = refl
  advance_no_end (Ok (advance.Grant p)) = refl
  advance_no_end (Err n) = refl

  pub collect_no_end : (r : Result (Option V) Refusal) → ends (collected r) ≡ false
  collect_no_end (Ok v) = refl
  collect_no_end (Err n) = refl

  pub yield_no_end : (r : Result (Unit {0}) Refusal) → ends {V = V} (yielded r) ≡ false
  yield_no_end (Ok u) = refl
  yield_no_end (Err n) = refl
