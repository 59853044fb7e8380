-- A make that is accepted
use Rattle.std.proofs.Common.{◌≡◌, ℕ, ◌-◌, Bool, true, false, cond, List, length, replicate, None, Ok, Err, Result, is_ok, sym, refl, ap, ◌∙◌, arith}
use Rattle.operation.specs.Algebra.{Algebra}
use Rattle.victim.specs.Rules.{Rule}
use Rattle.tables.specs.declared.line.Line.{Line}
use Rattle.tables.specs.declared.line.Line.TheVariants.{Invalid}
use Rattle.tables.specs.declared.register.Register.{Register}
use Rattle.tables.specs.declared.register.Register.TheVariants.{Empty}
use Rattle.tables.specs.declared.entry.Entry.{Entry}
use Rattle.tables.specs.declared.ledger.Ledger.{Ledger}
use Rattle.tables.specs.Legal.{Legal, fits, blank}
use Rattle.model.specs.Bench.{Bench, Sound, State, state, bench}
use Rattle.model.specs.Steps.{made, make_refusal, new_ledger}
use Rattle.settlement.specs.declared.ticket.Ticket.{Ticket}
use Rattle.settlement.specs.Makes.{issued, made_or}
use Rattle.tables.specs.declared.refusal.Refusal.{Refusal}
use Rattle.model.proofs.Sized.{limits_of}
use Rattle.model.proofs.Legality.{tabled_legal}
use Rattle.model.proofs.Runs.{made_inv}

pub not_ok : {X : Type 0} {b : Bool} → b ≡ false → b ≡ true → X
not_ok {X} {b} e f = absurd (let z : ◌≡◌ {A = ℕ} 0 1 = ap (λ (x : Bool). cond x 1 0) (sym e ∙ f) in omega arith)

module _ {V P R : Type 0} (op : Algebra V P) (victim : Rule R) (ways : ℕ) (s : State V P R) where
  abbrev k : Bench V P R
  k = bench op victim ways s

  pub make_leaves : true ≡ fits ways s.lines s.directory s.registers → {ls : List (Line V P)} {ds : List Entry} {rs : List (Register V P)} {l : Ledger}
      → ls ≡ replicate (length s.lines) Invalid → ds ≡ replicate (length s.directory) (blank (length s.registers - 1)) → rs ≡ replicate (length s.registers) Empty → l ≡ new_ledger k
      → state ls ds rs l s.rule s.home ≡ made k s
  make_leaves e a b c d = λ i. state ((a ∙ ap (λ n. replicate n Invalid) (limits_of op victim ways s (sym e)).1) i) (b i) (c i) (d i) s.rule s.home

  pub make_legal : Sound k → make_refusal k s ≡ None → Legal ways (made k s).lines (made k s).directory (made k s).registers
  make_legal sound ok = tabled_legal k (made k s) (made_inv k sound s ok).tabled

-- what an accepted make has said: there is no refusal, and the state is that of a new bench
pub accepted : {V P R : Type 0} (k : Bench V P R) (s : State V P R) {s' : State V P R} (r : Result Ticket Refusal) → is_ok r ≡ true
    → issued r ≡ make_refusal k s → s' ≡ made_or (issued r) k s → (make_refusal k s ≡ None) × (s' ≡ made k s)
accepted k s (Ok t) h a e = (sym a, e)
accepted k s (Err n) h a e = not_ok refl h
