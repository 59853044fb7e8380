-- Sums modulo 2^32
use Rattle.std.specs.Prelude.{◌≡◌, ℕ, ◌+◌, ◌%◌, ◌^◌, ℤ, pos, negsuc, ◌+ℤ◌, FitsSigned, unsigned_abs, refl}
use Rattle.std.proofs.Common.{sym, ◌∙◌, ap, mod-eq_of_lt, arith, lit<, to_z, of_z}
use Rattle.std.proofs.Math.IntN.{+ℤ_assoc}
use Rattle.std.specs.Int.{int_wrap, w32}
use Rattle.std.proofs.lemmas.Int.{ints, of_z-to_z, int_rem_euclid_is, int_wrap-add_same, int_wrap-add_right}
use Rattle.operation.specs.Residues.{residue, residue_small}

-- integers that wrap alike have one residue
pub residue_same : (a b : ℤ) → int_wrap w32 a ≡ int_wrap w32 b → residue a ≡ residue b
unfolding int_wrap
residue_same a b e = sym (of_z-to_z w32 (residue a) (residue_small a)) ∙ ap (of_z w32) e ∙ of_z-to_z w32 (residue b) (residue_small b)

pub wrapped_residue : (z : ℤ) → int_wrap w32 (pos (residue z)) ≡ int_wrap w32 z
unfolding int_wrap
wrapped_residue z = ap (to_z w32) (mod-eq_of_lt (residue_small z))

-- to reduce on the way changes nothing
pub residue_twice : (z a b : ℤ) → residue (pos (residue (z +ℤ a)) +ℤ b) ≡ residue (z +ℤ int_wrap w32 (a +ℤ b))
residue_twice z a b =
    residue_same _ _
    (int_wrap-add_same w32 (pos (residue (z +ℤ a))) (z +ℤ a) b (wrapped_residue (z +ℤ a))
    ∙ ap (int_wrap w32) (+ℤ_assoc z a b)
    ∙ sym (int_wrap-add_right w32 z (a +ℤ b)))

-- what `wrapping_add_signed` computes
pub moved_bits : (n : ℕ) (d : ℤ) → FitsSigned w32 d → (n + of_z w32 d) % 2 ^ 32 ≡ residue (pos n +ℤ d)
moved_bits n (pos k) fits = refl
moved_bits n (negsuc k) fits =
    let up : (pos n +ℤ negsuc k) +ℤ pos (2 ^ 32) ≡ pos (n + of_z w32 (negsuc k)) = omega (arith, ints) in
    sym (ap unsigned_abs (int_rem_euclid_is _ _ (2 ^ 32) 1 (n + of_z w32 (negsuc k)) (lit< tt) refl up))
