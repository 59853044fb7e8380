-- Legal tables of the right sizes, as callers of the steps know them
use Rattle.std.proofs.Common.{◌≡◌, ℕ, ◌+◌, ◌*◌, ◌<◌, ◌≤◌, true, ◌&&◌, leb, List, [], length, refl, mul-le-mul_right, suc-mul, arith}
use Rattle.std.proofs.lemmas.Bool.{and_parts, leb-true, eqb-true}
use Rattle.operation.specs.Algebra.{Algebra}
use Rattle.victim.specs.Rules.{Rule}
use Rattle.tables.specs.declared.line.Line.{Line}
use Rattle.tables.specs.declared.register.Register.{Register}
use Rattle.tables.specs.declared.entry.Entry.{Entry}
use Rattle.tables.specs.declared.ledger.Status.TheVariants.{Closed}
use Rattle.tables.specs.Legal.{Legal, fits}
use Rattle.model.specs.Bench.{State, state, bench}
use Rattle.model.proofs.Tabled.{Limits, Tabled}
use Rattle.model.proofs.Legality.{legal_tabled}

module _ {V P R : Type 0} (op : Algebra V P) (victim : Rule R) (ways : ℕ) (s : State V P R) where
  pub limits_of : fits ways s.lines s.directory s.registers ≡ true → Limits (bench op victim ways s) × (length s.lines ≡ length s.registers * ways)
  limits_of e =
      let p = length s.registers in
      let n = length s.directory in
      let f6 = and_parts (leb 1 p && leb p 16 && leb 1 n && leb n 256 && leb 1 ways && leb ways 8) _ e in
      let f5 = and_parts (leb 1 p && leb p 16 && leb 1 n && leb n 256 && leb 1 ways) (leb ways 8) f6.0 in
      let f4 = and_parts (leb 1 p && leb p 16 && leb 1 n && leb n 256) (leb 1 ways) f5.0 in
      let f3 = and_parts (leb 1 p && leb p 16 && leb 1 n) (leb n 256) f4.0 in
      let f2 = and_parts (leb 1 p && leb p 16) (leb 1 n) f3.0 in
      let f1 = and_parts (leb 1 p) (leb p 16) f2.0 in
      (record { parties_low = leb-true 1 p f1.0; parties_high = leb-true p 16 f1.1; cells_low = leb-true 1 n f2.1; cells_high = leb-true n 256 f3.1; ways_low = leb-true 1 ways f4.1; ways_high = leb-true ways 8 f5.1 }, eqb-true _ _ f6.1)

  pub tabled_of : fits ways s.lines s.directory s.registers ≡ true → Legal ways s.lines s.directory s.registers → Tabled (bench op victim ways s) s
  tabled_of e ok = let f = limits_of e in legal_tabled (bench op victim ways s) s f.0 f.1 refl refl ok

-- the tables alone, beside a rule, a ledger and a home that do not matter
abbrev pub no_rule : Rule (Unit {0})
no_rule = record { touched = λ u p w. u; picked = λ u p w. 0; after = λ u p w. u }

abbrev pub bare : {V P : Type 0} → List (Line V P) → List Entry → List (Register V P) → State V P (Unit {0})
bare ls ds rs = state ls ds rs (record { status = Closed; hits = 0; grants = 0; recalls = 0; evictions = 0; yields = 0 }) tt []

module _ {V P : Type 0} (op : Algebra V P) (ways : ℕ) (ls : List (Line V P)) (ds : List Entry) (rs : List (Register V P)) (e : fits ways ls ds rs ≡ true) where
  pub bare_limits : Limits (bench op no_rule ways (bare ls ds rs)) × (length ls ≡ length rs * ways)
  bare_limits = limits_of op no_rule ways (bare ls ds rs) e

  pub bare_tabled : Legal ways ls ds rs → Tabled (bench op no_rule ways (bare ls ds rs)) (bare ls ds rs)
  bare_tabled ok = tabled_of op no_rule ways (bare ls ds rs) e ok

  -- the ways of an existing party are in the table, and its first line is a small number
  pub ways_within : (p : ℕ) → p < length rs → (p * ways + ways ≤ length ls) × (p * ways ≤ 128)
  ways_within p l =
      let f = bare_limits in
      let m = mul-le-mul_right ways l in
      let k : p * ways ≤ 16 * ways = mul-le-mul_right ways (omega (arith, f.0.parties_high)) in
      (omega (arith, f.1, m, suc-mul p ways), omega (arith, k, f.0.ways_high))
