-- What the audit answers, from what the test of the sizes and the passes over the tables tell
use Rattle.std.proofs.Common.{◌≡◌, ℕ, true, false, List, Ok, Err, Decides, Result, sym, ◌∙◌}
use Rattle.std.proofs.lemmas.Bool.{cond-true, cond-false}
use Rattle.std.proofs.lemmas.Bool.Decides.{same_from_decides}
use Rattle.tables.specs.declared.line.Line.{Line}
use Rattle.tables.specs.declared.register.Register.{Register}
use Rattle.tables.specs.declared.entry.Entry.{Entry}
use Rattle.tables.specs.declared.refusal.Refusal.{Refusal}
use Rattle.tables.specs.declared.refusal.Refusal.TheVariants.{Sizes, Illegal}
use Rattle.tables.specs.Legal.{fits, Legal}
use Rattle.tables.proofs.Legality.{legal_decides}
use Rattle.audit.specs.Audit.{audited}

abbrev Answer : Type 0
Answer = Result (Unit {0}) Refusal

module _ {V P : Type 0} (ways : ℕ) (lines : List (Line V P)) (directory : List Entry) (registers : List (Register V P)) where
  pub answers_illegal : true ≡ fits ways lines directory registers → Decides false (Legal ways lines directory registers) → Err Illegal ≡ audited ways lines directory registers
  answers_illegal f d = sym (cond-true {A = Answer} _ _ (Err Sizes) (sym f) ∙ cond-false {A = Answer} _ (Ok tt) (Err Illegal) (sym (same_from_decides false _ d (legal_decides ways lines directory registers))))

  pub answers_legal : true ≡ fits ways lines directory registers → Decides true (Legal ways lines directory registers) → Ok tt ≡ audited ways lines directory registers
  answers_legal f d = sym (cond-true {A = Answer} _ _ (Err Sizes) (sym f) ∙ cond-true {A = Answer} _ (Ok tt) (Err Illegal) (sym (same_from_decides true _ d (legal_decides ways lines directory registers))))
