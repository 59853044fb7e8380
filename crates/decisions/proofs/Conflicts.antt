-- The conflicting line that the directory points to
use Rattle.std.proofs.Common.{◌≡◌, ℕ, ◌<◌, Bool, true, false, List, length, get_or, Some, None, Option, sym, ap, ◌∙◌}
use Rattle.operation.specs.Algebra.{Algebra}
use Rattle.tables.specs.declared.line.Line.{Line}
use Rattle.tables.specs.declared.request.Request.{Request}
use Rattle.tables.specs.declared.register.Register.{Register}
use Rattle.tables.specs.declared.entry.Entry.{Entry}
use Rattle.party_set.specs.Sets.{lowest}
use Rattle.tables.specs.Lines.{target, clashes}
use Rattle.tables.specs.Legal.{Legal, fits, blank}
use Rattle.party_set.proofs.Holders.{lowest_some}
use Rattle.model.specs.Bench.{bench}
use Rattle.model.specs.Searches.{conflict_in, own_line_in}
use Rattle.model.proofs.Sized.{no_rule, bare, bare_tabled}
use Rattle.model.proofs.Decisions.{conflict_found, by_directory}

module _ {V P : Type 0} (op : Algebra V P) (ways : ℕ) (ls : List (Line V P)) (ds : List Entry) (rs : List (Register V P))
    (sizes : fits ways ls ds rs ≡ true) (legal : Legal ways ls ds rs) (r : Request V P) (a : ℕ) (at : a ≡ target r) (e : Entry) (is : e ≡ get_or ds a (blank 0)) where
  -- the entry that was read is that of the request's cell
  entry_is : e ≡ get_or ds (target r) (blank 0)
  entry_is = is ∙ ap (λ (x : ℕ). get_or ds x (blank 0)) at

  pointed : Bool → Option ℕ → Option ℕ
  pointed b q = by_directory (bench op no_rule ways (bare ls ds rs)) (bare ls ds rs) (bare_tabled op ways ls ds rs sizes legal) r b q

  here : pointed (clashes r e.phase) (lowest e.holders) ≡ conflict_in ways ls (length rs) r
  unfolding pointed
  here = ap (λ z. pointed (clashes r z.phase) (lowest z.holders)) entry_is
      ∙ conflict_found (bench op no_rule ways (bare ls ds rs)) (bare ls ds rs) (bare_tabled op ways ls ds rs sizes legal) r

  pub no_clash : clashes r e.phase ≡ false → None ≡ conflict_in ways ls (length rs) r
  unfolding pointed
  no_clash h = ap (λ b. pointed b (lowest e.holders)) (sym h) ∙ here

  pub no_holder : clashes r e.phase ≡ true → lowest e.holders ≡ None → None ≡ conflict_in ways ls (length rs) r
  unfolding pointed
  no_holder h n = ap (pointed true) (sym n) ∙ ap (λ b. pointed b (lowest e.holders)) (sym h) ∙ here

  pub holder_line : (q : ℕ) → clashes r e.phase ≡ true → lowest e.holders ≡ Some q → own_line_in ways ls q a ≡ conflict_in ways ls (length rs) r
  unfolding pointed
  holder_line q h n = ap (own_line_in ways ls q) at ∙ ap (pointed true) (sym n) ∙ ap (λ b. pointed b (lowest e.holders)) (sym h) ∙ here

  pub holder_exists : (q : ℕ) → a < length ds → lowest e.holders ≡ Some q → q < length rs
  holder_exists q l n = legal.in_range.holder_parties a q l (lowest_some (get_or ds a (blank 0)).holders q (ap (λ z. lowest z.holders) (sym is) ∙ n)).0
