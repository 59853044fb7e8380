-- A count and a delta are their numbers
use Rattle.std.specs.Prelude.{◌≡◌, ◌^◌, ◌<◌, pos, neg_ℤ, ◌≤ℤ◌, ◌<ℤ◌, FitsSigned}
use mathlib.Core.HLevel.{is_prop→PathP}
use Rattle.std.proofs.Math.Bridge.{le_prop}
use Rattle.std.proofs.Common.{arith}
use Rattle.std.specs.Int.{w32}
use Rattle.std.proofs.Props.{props}
use Rattle.std.proofs.lemmas.Int.{ints}
use Rattle.operation.specs.declared.count.Count.{Count}
use Rattle.operation.specs.declared.delta.Delta.{Delta}

pub same_count : {a b : Count} → a.bits ≡ b.bits → a ≡ b
same_count {a} {b} e = λ i. record { bits = e i; small = is_prop→PathP (λ j. e j < 2 ^ 32) (λ j. le_prop) a.small b.small i }

pub same_delta : {a b : Delta} → a.by ≡ b.by → a ≡ b
same_delta {a} {b} e = λ i. record {
  by = e i;
  least = is_prop→PathP (λ j. neg_ℤ (pos (2 ^ 31)) ≤ℤ e j) (λ j. hlevel props) a.least b.least i;
  below = is_prop→PathP (λ j. e j <ℤ pos (2 ^ 31)) (λ j. hlevel props) a.below b.below i;
}

pub delta_fits : (d : Delta) → FitsSigned w32 d.by
delta_fits d = omega (arith, ints)
