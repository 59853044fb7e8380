-- A count and a delta are made of the number that was read
use Rattle.std.proofs.Common.{◌≡◌, ◌-◌, ◌^◌, ℤ, pos, negsuc, neg_ℤ, nat_abs, ◌≤ℤ◌, sym, ◌∙◌, arith, w32, SFits, to_z, of_z}
use mir.Syntax.{w128}
use Rattle.std.proofs.lemmas.Int.{ints, int_wrap_fits}
use Rattle.operation.specs.declared.Count.{Count}
use Rattle.operation.specs.declared.Delta.{Delta}
use Rattle.operation.specs.Residues.{residue}
use Rattle.operation.specs.Total.{counted, stepped}
use Rattle.operation.specs.Numbers.{same_count, same_delta}

kept : (z : ℤ) → pos 0 ≤ℤ z → z ≤ℤ pos (2 ^ 32 - 1) → nat_abs (to_z w128 (of_z w128 z)) ≡ residue z
kept (pos n) least most = omega (arith, ints)
kept (negsuc n) least most = absurd (omega (arith, ints))

pub count_is : (z : ℤ) (c : Count) → pos 0 ≤ℤ z → z ≤ℤ pos (2 ^ 32 - 1) → c.bits ≡ nat_abs (to_z w128 (of_z w128 z)) → c ≡ counted z
count_is z c least most is = same_count (is ∙ kept z least most)

pub delta_is : (z : ℤ) (d : Delta) → neg_ℤ (pos (2 ^ 31)) ≤ℤ z → z ≤ℤ pos (2 ^ 31 - 1) → d.by ≡ to_z w32 (of_z w32 (to_z w128 (of_z w128 z))) → d ≡ stepped z
delta_is z d least most is =
    let fits : SFits w32 z = omega (arith, ints) in
    let same : to_z w32 (of_z w32 (to_z w128 (of_z w128 z))) ≡ z = omega (arith, ints) in
    same_delta (is ∙ same ∙ sym (int_wrap_fits w32 z fits))
