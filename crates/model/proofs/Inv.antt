-- The invariant of a bench and its reference memory
-- a register and what the reference memory has of its party
use Rattle.std.proofs.Common.{◌≡◌, ℕ, ◌+◌, ◌<◌, ◌≤◌, true, false, List, length, get_or, set, Some, None, Option, sym, refl, subst}
use Rattle.std.proofs.lemmas.List.{length-set}
use Rattle.operation.proofs.Applied.{length_applied}
use Rattle.operation.specs.Algebra.{Algebra}
use Rattle.tables.proofs.Tests.{no}
use Rattle.tables.specs.Lines.{is_empty, is_held}
use Rattle.tables.specs.declared.line.Line.{Line}
use Rattle.tables.specs.declared.line.Line.TheVariants.{Invalid, Modified, Shared, UpdateOnly}
use Rattle.tables.specs.declared.register.Register.{Register}
use Rattle.tables.specs.declared.register.Register.TheVariants.{Answered, Empty, Waiting}
use Rattle.tables.specs.declared.request.Request.{Request}
use Rattle.model.proofs.Basics.{put_other, put_same, set_put_all}
use Rattle.model.proofs.Coherence.{Values}
use Rattle.model.proofs.Tabled.{Tabled}
use Rattle.model.specs.Bench.{Bench, State, held_count, line, register, sent_home}
use Rattle.model.specs.Reference.{Reference, put}
use Rattle.tables.specs.Ledgers.{is_open}

abbrev pub Desk : {V P : Type 0} → Register V P → Option (Request V P) → Option (Option V) → Type 0
Desk Empty u o = (u ≡ None) × (o ≡ None)
Desk (Waiting r) u o = (u ≡ Some r) × (o ≡ None)
Desk (Answered v) u o = (u ≡ None) × (o ≡ Some v)

pub record Inv {V P R : Type 0} (k : Bench V P R) (s : State V P R) (b : Reference V P) : Type 0 where
  pub tabled : Tabled k s
  pub home_length : k.cells ≤ length s.home
  pub values : Values k.op s.lines s.home b.value
  pub desks : (p : ℕ) → Desk (register s p) (b.waiting p) (b.note p)
  pub closed : is_open s.ledger ≡ false → (i : ℕ) → is_held (line s i) ≡ false
  pub requests : s.ledger.hits + s.ledger.grants ≡ b.finished
  pub granted : s.ledger.grants ≡ s.ledger.recalls + s.ledger.evictions + s.ledger.yields + held_count s.lines

pub desk_empty : {V P : Type 0} (x : Register V P) (u : Option (Request V P)) (o : Option (Option V)) → is_empty x ≡ true → Desk x u o → (u ≡ None) × (o ≡ None)
desk_empty Empty u o h d = d
desk_empty (Waiting r) u o h d = absurd (no h)
desk_empty (Answered v) u o h d = absurd (no h)

-- a register and two notes of the reference memory change at one party
pub desk_all : {V P : Type 0} (rs : List (Register V P)) (u : ℕ → Option (Request V P)) (o : ℕ → Option (Option V)) (p : ℕ) (x : Register V P) (u' : Option (Request V P)) (o' : Option (Option V))
    → p < length rs → Desk x u' o' → ((j : ℕ) → Desk (get_or rs j Empty) (u j) (o j))
    → (j : ℕ) → Desk (get_or (set rs p x) j Empty) (put u p u' j) (put o p o' j)
desk_all rs u o p x u' o' h here there =
    set_put_all (λ j z y. Desk z y (put o p o' j)) rs u p x Empty u' h
    (subst (λ t. Desk x u' t) (sym (put_same o p o')) here)
    (λ j m. subst (λ t. Desk (get_or rs j Empty) (u j) t) (sym (put_other o p o' j m)) (there j))

pub length_sent : {V P : Type 0} (o : Algebra V P) (home : List V) (l : Line V P) → length (sent_home o home l) ≡ length home
length_sent o home Invalid = refl
length_sent o home (Shared b v) = refl
length_sent o home (UpdateOnly b d) = length_applied o home b d
length_sent o home (Modified b v) = length-set home b v
