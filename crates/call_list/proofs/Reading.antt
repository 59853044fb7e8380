-- One line more, and the end of the lines
use Rattle.std.proofs.Common.{◌≡◌, ℕ, ◌+◌, ◌^◌, ◌<◌, List, [], ◌∷◌, ◌++◌, length, drop, OnSome, Some, None, Option, Result, sym, refl, ap, ◌∙◌, subst, inl, inr, arith, Bor}
use Rattle.std.specs.declared.iter.Enumerate.{Enumerate}
use Rattle.std.specs.declared.str.Lines.{Lines}
use Rattle.std.specs.Str.Lines.{IsFirstLine}
use Rattle.std.specs.Iterator.Adapters.{enumerate_source, enumerate_count, enumerate_steps}
use Rattle.std.specs.Str.Iter.{lines_rest, lines_steps}
use Rattle.std.proofs.lemmas.List.{length_push}
use Rattle.std.proofs.lemmas.Bool.{cases_lt}
use Rattle.layering.specs.declared.Call.{Call}
use Rattle.call_list.specs.declared.faults.Fault.{Fault}
use Rattle.notation.specs.declared.Misread.{Misread}
use Rattle.call_list.specs.declared.faults.Stop.TheVariants.{Input}
use Rattle.call_list.specs.Fields.{Begins}
use Rattle.call_list.specs.Script.{CallLine, CallLines, Blamed}

begins_more : (bs : List ℕ) (ls : List (List ℕ)) (rest line more : List ℕ) → Begins bs ls rest → 0 < length rest → IsFirstLine rest line more → Begins bs (ls ++ line ∷ []) more
begins_more bs [] rest line more e some cut = (more, subst (λ l. 0 < length l) (sym e) some, subst (λ l. IsFirstLine l line more) (sym e) cut, refl)
begins_more bs (l ∷ ls) rest line more h some cut = (h.0, h.1, h.2, begins_more h.0 ls rest line more h.3 some cut)

drop_push : {X : Type 0} (xs : List X) (x : X) → 0 < length xs → drop 1 (xs ++ x ∷ []) ≡ drop 1 xs ++ x ∷ []
drop_push [] x some = absurd (omega arith)
drop_push (y ∷ xs) x some = refl

module _ {V P : Type 0} (value : List ℕ → Result V Misread → Type 0) (partial : List ℕ → Result P Misread → Type 0) where
  says_more : (ls : List (List ℕ)) (cs : List (Call V P)) (line : List ℕ) (c : Call V P) → CallLines value partial ls cs → CallLine value partial line c → CallLines value partial (ls ++ line ∷ []) (cs ++ c ∷ [])
  says_more [] [] line d h one = (one, tt)
  says_more [] (c ∷ cs) line d h one = absurd h
  says_more (l ∷ ls) [] line d h one = absurd h
  says_more (l ∷ ls) (c ∷ cs) line d h one = (h.0, says_more ls cs line d h.1 one)

  -- the lines so far, of which each but the first said its call
  pub record Sofar (text rest : List ℕ) (count : ℕ) (calls : List (Call V P)) : Type 0 where
    pub seen : List (List ℕ)
    pub begins : Begins text seen rest
    pub counted : length seen ≡ count
    pub headed : length seen ≡ 0 → length rest ≡ 0
    pub said : CallLines value partial (drop 1 seen) calls

  -- the numbers of the lines to come fit
  abbrev Fits : Enumerate Lines → Type 0
  Fits s = enumerate_count s + length (lines_rest (enumerate_source s)) < 2 ^ 64

  -- the first line is taken, if there is one; C says that more lines may be asked for, and holds where their numbers fit
  pub headed_by : (E C : Type 0) (text : List ℕ) (s t : Enumerate Lines) (r : Option (ℕ × Bor (List ℕ))) → enumerate_steps lines_steps s r t → lines_rest (enumerate_source s) ≡ text → enumerate_count s ≡ 0 → OnSome r E → (E → C) → (Fits t → C) → C × Sofar text (lines_rest (enumerate_source t)) (enumerate_count t) []
  headed_by E C text s t None step whole zero goes next more =
      let same = ap lines_rest step.0.0.1 in
      let none : length (lines_rest (enumerate_source t)) ≡ 0 = ap length same ∙ step.0.0.0 in
      (more (omega (arith, step.1)), record { seen = []; begins = sym (same ∙ whole); counted = sym (step.1 ∙ zero); headed = λ _. none; said = tt })
  headed_by E C text s t (Some p) step whole zero goes next more =
      let rest = lines_rest (enumerate_source t) in (
        next goes,
        record {
          seen = p.1.now ∷ [];
          begins = (rest, subst (λ l. 0 < length l) whole step.0.0.0, subst (λ l. IsFirstLine l p.1.now rest) whole step.0.0.2, refl);
          counted = sym (step.2 ∙ ap (λ n. n + 1) zero);
          headed = λ none. absurd (omega arith);
          said = tt;
        },
      )

  module _ {text rest : List ℕ} {count : ℕ} {calls : List (Call V P)} (old : Sofar text rest count calls) (line more : List ℕ) (some : 0 < length rest) (cut : IsFirstLine rest line more) where
    -- a line more, which says its call
    pub one_more : (c : Call V P) (next : ℕ) (longer : List (Call V P)) → CallLine value partial line c → next ≡ count + 1 → longer ≡ calls ++ c ∷ [] → Sofar text more next longer
    one_more c next longer one after grown =
        let headed : 0 < length old.seen = elim (cases_lt 0 (length old.seen)) [ inl h ↦ h | inr h ↦ absurd (omega (arith, old.headed (omega arith))) ] in
        record {
          seen = old.seen ++ line ∷ [];
          begins = begins_more text old.seen rest line more old.begins some cut;
          counted = length_push old.seen line ∙ ap (λ n. n + 1) old.counted ∙ sym after;
          headed = λ none. absurd (omega (arith, length_push old.seen line));
          said = subst (λ cs. CallLines value partial (drop 1 (old.seen ++ line ∷ [])) cs) (sym grown) (subst (λ ls. CallLines value partial ls (calls ++ c ∷ [])) (sym (drop_push old.seen line headed)) (says_more (drop 1 old.seen) calls line c old.said one));
        }

    -- a line more, which has a fault
    pub one_fault : (f : Fault) → f.line ≡ count + 1 → Blamed text (Input f)
    one_fault f at = (old.seen ++ line ∷ [], more, begins_more text old.seen rest line more old.begins some cut, length_push old.seen line ∙ ap (λ n. n + 1) old.counted ∙ sym at)
