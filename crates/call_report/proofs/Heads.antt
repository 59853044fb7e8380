-- The first line of a text, where there is one
use Rattle.std.proofs.Common.{◌≡◌, ℕ, ◌<◌, List, [], ◌∷◌, length, Bor, Option, Some, None, Ok, Err, Result, IfOk, IsErrAnd, MatchResult, refl, sym, subst}
use Rattle.std.specs.Option.{ok_or}
use Rattle.std.specs.Str.Lines.{IsFirstLine}
use Rattle.std.specs.Str.Iter.{lines_rest, lines_steps}
use Rattle.std.specs.declared.str.Lines.{Lines}
use Rattle.call_list.specs.Fields.{Begins}

pub first_line : {E : Type 0} (e : E) (text : List ℕ) (s t : Lines) (r : Option (Bor (List ℕ))) (line : Bor (List ℕ)) → lines_rest s ≡ text → lines_steps s r t → ok_or r e ≡ Ok line → Begins text (line.now ∷ []) (lines_rest t)
first_line e text s t None line whole step is = absurd (cc)
first_line e text s t (Some x) line whole step is =
    let rest = lines_rest t in
    let same : x ≡ line = cc in
    (rest, subst (λ l. 0 < length l) whole step.0.0, subst (λ l. IsFirstLine l line.now rest) whole (subst (λ y. IsFirstLine (lines_rest s) y.now rest) same step.0.2), refl)

-- another error in place of an error keeps what holds of a value
pub kept_by_map_err : {X E D : Type 0} (P : X → Type 0) (Q : E → D → Type 0) (r : Result X E) (s : Result X D) → IfOk r P → MatchResult r (λ x. s ≡ Ok x) (λ e. IsErrAnd s (Q e)) → IfOk s P
kept_by_map_err P Q (Ok x) s holds is = subst (λ t. IfOk t P) (sym is) holds
kept_by_map_err P Q (Err e) (Ok x) holds is = absurd is
kept_by_map_err P Q (Err e) (Err d) holds is = tt
