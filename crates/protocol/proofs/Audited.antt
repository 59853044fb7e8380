-- A call on tables that the audit refuses
use Rattle.std.proofs.Common.{◌≡◌, ℕ, Bool, true, false, cond, Some, Ok, Err, List, Option, Result, sym, ap, arith}
use Rattle.operation.specs.Algebra.{Algebra}
use Rattle.victim.specs.Rules.{Rule}
use Rattle.tables.specs.declared.refusal.Refusal.{Refusal}
use Rattle.tables.specs.declared.refusal.Refusal.TheVariants.{Sizes, Illegal}
use Rattle.tables.specs.Legal.{fits, legal}
use Rattle.audit.specs.Audit.{audited}
use Rattle.model.specs.declared.call.Call.{Call}
use Rattle.model.specs.declared.call.Call.TheVariants.{Post, Advance, Collect, Yield, Settle}
use Rattle.model.specs.declared.answer.Answer.TheVariants.{Refused}
use Rattle.model.specs.Bench.{Bench as Terms, State, bench}
use Rattle.model.specs.Steps.{need, step, post_if, advance_if, collect_if, yield_if, settle_if}
use Rattle.bench.specs.declared.Bench.{Bench}
use Rattle.bench.specs.Lent.{seen, stepped, terms}

-- the first two checks of every call are the audit's
first_two : (x y : Bool) (n : Refusal) (o : Option Refusal) → ◌≡◌ {A = Result (Unit {0}) Refusal} (Err n) (cond x (cond y (Ok tt) (Err Illegal)) (Err Sizes)) → need x Sizes (need y Illegal o) ≡ Some n
first_two true true n o e = absurd (let z : ◌≡◌ {A = ℕ} 0 1 = cc in omega arith)
first_two true false n o e = let z : n ≡ Illegal = cc in ap Some (sym z)
first_two false y n o e = let z : n ≡ Sizes = cc in ap Some (sym z)

module _ {V P R : Type 0} (op : Algebra V P) (victim : Rule R) (ways : ℕ) (s : State V P R) where
  abbrev over : Terms V P R
  over = bench op victim ways s

  pub audit_refused_over : (c : Call V P) (n : Refusal) → ◌≡◌ {A = Result (Unit {0}) Refusal} (Err n) (audited ways s.lines s.directory s.registers) → step over s c ≡ (s, Refused n)
  audit_refused_over (Post p r) n e = ap (λ z. post_if over z s p r) (first_two (fits ways s.lines s.directory s.registers) (legal ways s.lines s.directory s.registers) n _ e)
  audit_refused_over (Advance a) n e = ap (λ z. advance_if over z s a) (first_two (fits ways s.lines s.directory s.registers) (legal ways s.lines s.directory s.registers) n _ e)
  audit_refused_over (Collect p) n e = ap (λ z. collect_if over z s p) (first_two (fits ways s.lines s.directory s.registers) (legal ways s.lines s.directory s.registers) n _ e)
  audit_refused_over (Yield p a) n e = ap (λ z. yield_if over z s p a) (first_two (fits ways s.lines s.directory s.registers) (legal ways s.lines s.directory s.registers) n _ e)
  audit_refused_over Settle n e = ap (λ z. settle_if over z s) (first_two (fits ways s.lines s.directory s.registers) (legal ways s.lines s.directory s.registers) n _ e)

module _ {O H R V P : Type 0} (op : Algebra V P) (victim : Rule R) (meaning : H → List V) (b : Bench O H R V P) where
  abbrev s : State V P R
  s = seen meaning b

  pub audit_refused : (c : Call V P) (n : Refusal) → ◌≡◌ {A = Result (Unit {0}) Refusal} (Err n) (audited b.ways s.lines s.directory s.registers) → stepped op victim meaning b c ≡ (s, Refused n)
  audit_refused c n e = audit_refused_over op victim b.ways s c n e
