-- The lines of a script, cut off one by one
use Rattle.std.proofs.Common.{◌≡◌, ℕ, ◌+◌, ◌<◌, ◌≤◌, ◌==◌, MatchOption, drop, List, [], ◌∷◌, ◌++◌, length, Bor, Option, Some, None, refl, ap, ◌∙◌, arith, append-nil}
use Rattle.std.specs.Option.{option_copied, unwrap_or}
use Rattle.std.proofs.lemmas.List.Sums.{count_by-le-length}
use Rattle.std.proofs.lemmas.List.Splits.{length-slice_split}
use Rattle.script.specs.Cuts.{parts, tail, tail_parts, trimmed, lines}

trimmed_more : (w : List ℕ) (ps : List (List ℕ)) → 0 < length ps → trimmed (w ∷ ps) ≡ w ∷ trimmed ps
trimmed_more w [] some = absurd (omega arith)
trimmed_more w (p ∷ ps) some = refl

trimmed_one : (w : List ℕ) → 0 < length w → trimmed (w ∷ []) ≡ w ∷ []
trimmed_one [] some = absurd (omega arith)
trimmed_one (c ∷ cs) some = refl

pub first_line : (bs line : List ℕ) (rest : Option (Bor (List ℕ))) (none after : Bor (List ℕ)) → 0 < length bs → parts 10 bs ≡ line ∷ tail_parts 10 (option_copied rest) → bs ≡ line ++ tail 10 (option_copied rest) → after ≡ unwrap_or rest none → none.now ≡ [] → lines bs ≡ line ∷ lines after.now
first_line bs line None none after some cut whole is empty = rw (cut, is, empty) (trimmed_one line (omega (arith, ap length (whole ∙ append-nil line))))
first_line bs line (Some r) none after some cut whole is empty = rw (cut, is) (trimmed_more line (parts 10 r.now) (omega (arith, length-slice_split {X = ℕ})))

-- what is left after the first line
pub others : (ls ms : List (List ℕ)) (first : Option (Bor (List ℕ))) → MatchOption first ((ls ≡ []) × (ms ≡ [])) (λ l. ls ≡ l.now ∷ ms) → ms ≡ drop 1 ls
others ls ms None h = rw (h.0, h.1)
others ls ms (Some l) h = rw h

trimmed_fewer : (ps : List (List ℕ)) → length (trimmed ps) ≤ length ps
trimmed_fewer [] = omega arith
trimmed_fewer ([] ∷ []) = omega arith
trimmed_fewer ((c ∷ cs) ∷ []) = omega arith
trimmed_fewer (w ∷ v ∷ ws) = omega (arith, trimmed_fewer (v ∷ ws))

pub few_lines : (bs : List ℕ) → length (lines bs) ≤ length bs + 1
few_lines bs = omega (arith, trimmed_fewer (parts 10 bs), length-slice_split (λ (b : ℕ). b == 10) bs, count_by-le-length (λ (b : ℕ). b == 10) bs)
