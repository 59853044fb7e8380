-- What the reader of a script has read, and what is left
use Rattle.std.proofs.Common.{◌≡◌, ℕ, ◌+◌, List, [], ◌∷◌, ◌++◌, Ok, Option, Result, sym, ap, ◌∙◌, append_assoc, arith}
use Rattle.model.specs.declared.Call.{Call}
use Rattle.script.specs.Calls.{call_of}
use Rattle.script.specs.Lines.{Rest}
use Rattle.script.specs.Scripts.{after, calls_from}
use Rattle.script.specs.declared.faults.FieldFault.{FieldFault}
use Rattle.script.specs.declared.faults.LineFault.{LineFault}

module _ {V P : Type 0} (values : Rest → Result V FieldFault × Rest) (partials : Rest → Result P FieldFault × Rest) where
  -- what was read after the first line, and what the lines to come say, is the whole
  pub record Sofar (calls : List (Call V P)) (read : ℕ) (ls : List (List ℕ)) (whole : List (Call V P)) (stop : Option LineFault) : Type 0 where
    pub said : calls ++ (calls_from values partials (read + 2) ls).0 ≡ whole
    pub stops : (calls_from values partials (read + 2) ls).1 ≡ stop

  -- a line more, which says its call
  pub one_more : {calls whole : List (Call V P)} {stop : Option LineFault} {read : ℕ} {ls ms : List (List ℕ)} {l : List ℕ} → ls ≡ l ∷ ms → Sofar calls read ls whole stop → (number : ℕ) → number ≡ read + 2 → (c : Call V P) (more : List (Call V P)) → Ok c ≡ call_of values partials number l → more ≡ calls ++ c ∷ [] → Sofar more (read + 1) ms whole stop
  one_more {calls} {read = read} {ms = ms} cut old number at c more ok grown =
      let next : read + 2 + 1 ≡ read + 1 + 2 = omega arith in
      let rest = calls_from values partials (read + 2 + 1) ms in
      let e = ap (calls_from values partials (read + 2)) cut ∙ ap (λ r. after values partials r rest) (sym (rw at at ok)) in
      record {
        said = rw (← next) (ap (λ cs. cs ++ rest.0) grown ∙ append_assoc calls (c ∷ []) rest.0 ∙ ap (λ o. calls ++ o.0) (sym e) ∙ old.said);
        stops = rw (← next) (ap (λ o. o.1) (sym e) ∙ old.stops);
      }
