-- Tables in order: what is known of them, and that the steps keep them so
use Rattle.std.proofs.Common.{◌≡◌, ℕ, ◌+◌, ◌*◌, ◌<◌, ◌≤◌, true, List, length, sym, ap, ◌∙◌, subst, arith}
use Rattle.std.proofs.lemmas.Bool.{and_from, le-leb, eq-eqb}
use Rattle.operation.specs.Algebra.{Algebra, Lawful}
use Rattle.victim.specs.Rules.{Rule, Servable}
use Rattle.tables.specs.Legal.{Legal, fits}
use Rattle.model.specs.declared.call.Call.{Call}
use Rattle.model.specs.Bench.{Bench as Terms, Sound, State}
use Rattle.model.specs.Reference.{at_making}
use Rattle.model.proofs.Kept.{step_keeps, tabled_closed}
use Rattle.model.proofs.Legality.{tabled_legal}
use Rattle.model.proofs.Sized.{tabled_of, ways_within}
use Rattle.model.proofs.Tabled.{Tabled}
use Rattle.bench.specs.declared.Bench.{Bench}
use Rattle.bench.specs.Lent.{InOrder, seen, stepped, terms}

-- the sizes of such tables are within the limits
pub tabled_fits : {V P R : Type 0} (k : Terms V P R) (s : State V P R) → Tabled k s → fits k.ways s.lines s.directory s.registers ≡ true
tabled_fits k s t =
    let f = t.limits in
    let some : 1 ≤ length s.registers = omega (arith, t.registers_length, f.parties_low) in
    let few : length s.registers ≤ 16 = omega (arith, t.registers_length, f.parties_high) in
    let filled : 1 ≤ length s.directory = omega (arith, t.directory_length, f.cells_low) in
    let small : length s.directory ≤ 256 = omega (arith, t.directory_length, f.cells_high) in
    and_from _ _ (and_from _ _ (and_from _ _ (and_from _ _ (and_from _ _ (and_from _ _ (le-leb _ _ some) (le-leb _ _ few)) (le-leb _ _ filled)) (le-leb _ _ small)) (le-leb _ _ f.ways_low)) (le-leb _ _ f.ways_high)) (eq-eqb _ _ (t.lines_length ∙ ap (λ x. x * k.ways) (sym t.registers_length)))

module _ {O H R V P : Type 0} (op : Algebra V P) (victim : Rule R) (meaning : H → List V) (b : Bench O H R V P) where
  -- an operation with the laws and a rule that names an existing way make a sound bench
  pub sound : Lawful op → ((x : R) (p w : ℕ) → Servable p w → victim.picked x p w < w) → Sound (terms op victim meaning b)
  sound law picks = record { lawful = law; picks = picks }

  pub tabled : InOrder b → Tabled (terms op victim meaning b) (seen meaning b)
  tabled ok = tabled_of op victim b.ways (seen meaning b) ok.sizes ok.legal

  pub ordered : (b' : Bench O H R V P) → b'.ways ≡ b.ways → Tabled (terms op victim meaning b) (seen meaning b') → InOrder b'
  ordered b' w t = record {
    sizes = subst (λ n. fits n b'.lines.now b'.directory.now b'.registers.now ≡ true) (sym w) (tabled_fits (terms op victim meaning b) (seen meaning b') t);
    legal = subst (λ n. Legal n b'.lines.now b'.directory.now b'.registers.now) (sym w) (tabled_legal (terms op victim meaning b) (seen meaning b') t);
  }

  pub stays : Sound (terms op victim meaning b) → InOrder b → (c : Call V P) (b' : Bench O H R V P) → b'.ways ≡ b.ways → seen meaning b' ≡ (stepped op victim meaning b c).0 → InOrder b'
  stays fine ok c b' w e =
      ordered b' w (subst (Tabled (terms op victim meaning b)) (sym e) (step_keeps (terms op victim meaning b) fine (λ s m. Tabled (terms op victim meaning b) s) (tabled_closed (terms op victim meaning b)) (seen meaning b) (at_making (meaning b.home.now)) (tabled ok) c))

-- the ways of an existing party are in the table, and its first line is a small number
pub own_ways : {O H R V P : Type 0} (op : Algebra V P) (b : Bench O H R V P) → InOrder b → (p : ℕ) → p < length b.registers.now → (p * b.ways + b.ways ≤ length b.lines.now) × (p * b.ways ≤ 128)
own_ways op b ok p l = ways_within op b.ways b.lines.now b.directory.now b.registers.now ok.sizes p l
