-- The party that an advance serves exists, and waits for the cell
use Rattle.std.proofs.Common.{◌≡◌, ℕ, ◌<◌, true, List, length, get_or, Some, sym, ap, ◌∙◌, subst}
use Rattle.std.proofs.lemmas.Bool.{eqb-true}
use Rattle.operation.specs.Algebra.{Algebra}
use Rattle.tables.specs.declared.line.Line.{Line}
use Rattle.tables.specs.declared.request.Request.{Request}
use Rattle.tables.specs.declared.register.Register.{Register}
use Rattle.tables.specs.declared.register.Register.TheVariants.{Empty, Waiting}
use Rattle.tables.specs.declared.entry.Entry.{Entry}
use Rattle.tables.specs.Lines.{target, waits_for}
use Rattle.tables.specs.Legal.{Legal, fits, blank}
use Rattle.model.specs.Bench.{bench}
use Rattle.model.specs.Searches.{served_at}
use Rattle.model.proofs.Kept.{whose_waits}
use Rattle.model.proofs.Sized.{no_rule, bare, bare_tabled}

pub waits_for_target : {V P : Type 0} (a : ℕ) (x : Register V P) (r : Request V P) → x ≡ Waiting r → waits_for a x ≡ true → target r ≡ a
waits_for_target a x r e h = eqb-true (target r) a (subst (λ z. waits_for a z ≡ true) e h)

pub served_waits : {V P : Type 0} (op : Algebra V P) (ways : ℕ) (ls : List (Line V P)) (ds : List Entry) (rs : List (Register V P)) → fits ways ls ds rs ≡ true → Legal ways ls ds rs
    → (a : ℕ) (e : Entry) → e ≡ get_or ds a (blank 0) → (q : ℕ) → served_at (length rs) rs a e.last e.turn ≡ Some q → (q < length rs) × (waits_for a (get_or rs q Empty) ≡ true)
served_waits op ways ls ds rs sizes legal a e is q h =
    whose_waits (bench op no_rule ways (bare ls ds rs)) (bare ls ds rs) (bare_tabled op ways ls ds rs sizes legal) a (get_or ds a (blank 0)).turn q (λ _. (get_or ds a (blank 0)).turn) (ap (λ z. served_at (length rs) rs a z.last z.turn) (sym is) ∙ h)
