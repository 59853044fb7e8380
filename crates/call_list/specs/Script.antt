-- The words of a list of calls
--   verb_word  the word of a call
--   kind_word  the word of an operation
--   Place      that a field writes a place: any number of 64 bits
--   Cells      that a field writes a number of cells: from 1 to 65,536
--   HeadLine   that a line says an operation and a number of cells
--   Says       that words say a call
--   CallLine   that a line says a call
--   CallLines  that each line says its call
--   Calls      that these are the calls of a text's lines after the first
--   Blamed     that a fault has the number of a line of the text
use Rattle.std.specs.Prelude.{◌≡◌, ℕ, ◌-◌, ◌^◌, List, [], ◌∷◌, length, drop, pos, Ok, codes, Result}
use Rattle.layering.specs.declared.Call.{Call}
use Rattle.layering.specs.declared.Call.TheVariants as call
use Rattle.notation.specs.declared.Kind.{Kind}
use Rattle.notation.specs.declared.Kind.TheVariants as kind
use Rattle.notation.specs.declared.Misread.{Misread}
use Rattle.notation.specs.Scales.{natural, Reads}
use Rattle.call_list.specs.declared.faults.Stop.{Stop}
use Rattle.call_list.specs.declared.faults.Stop.TheVariants.{Input, Memory}
use Rattle.call_list.specs.declared.script.Verb.{Verb}
use Rattle.call_list.specs.declared.script.Verb.TheVariants as verb
use Rattle.call_list.specs.Fields.{Words, Begins}

abbrev pub verb_word : Verb → List ℕ
verb_word verb.Load = codes "load"
verb_word verb.Store = codes "store"
verb_word verb.Apply = codes "apply"

abbrev pub kind_word : Kind → List ℕ
kind_word kind.Total = codes "total"
kind_word kind.Peak = codes "peak"
kind_word kind.Flags = codes "flags"

abbrev pub Place : List ℕ → ℕ → Type 0
Place field i = Reads (natural (2 ^ 64 - 1)) field (Ok i)

abbrev pub Cells : List ℕ → ℕ → Type 0
Cells field n = Reads (record { number = pos; least = pos 1; most = pos 65536 }) field (Ok n)

abbrev pub HeadLine : List ℕ → Kind → ℕ → Type 0
HeadLine line k n = (f : List ℕ) × Words line (kind_word k ∷ f ∷ []) × Cells f n

-- `value` and `partial` say what a field is read as
module _ {V P : Type 0} (value : List ℕ → Result V Misread → Type 0) (partial : List ℕ → Result P Misread → Type 0) where
  abbrev pub Says : List (List ℕ) → Call V P → Type 0
  Says ws (call.Load i) = (f : List ℕ) × (ws ≡ codes "load" ∷ f ∷ []) × Place f i
  Says ws (call.Store i v) = (f g : List ℕ) × (ws ≡ codes "store" ∷ f ∷ g ∷ []) × Place f i × value g (Ok v)
  Says ws (call.Apply i p) = (f g : List ℕ) × (ws ≡ codes "apply" ∷ f ∷ g ∷ []) × Place f i × partial g (Ok p)

  abbrev pub CallLine : List ℕ → Call V P → Type 0
  CallLine line c = (ws : List (List ℕ)) × Words line ws × Says ws c

  abbrev pub CallLines : List (List ℕ) → List (Call V P) → Type 0
  CallLines [] [] = Unit {0}
  CallLines [] (c ∷ cs) = ⊥
  CallLines (l ∷ ls) [] = ⊥
  CallLines (l ∷ ls) (c ∷ cs) = CallLine l c × CallLines ls cs

  abbrev pub Calls : List ℕ → List (Call V P) → Type 0
  Calls text cs = (ls : List (List ℕ)) × Begins text ls [] × CallLines (drop 1 ls) cs

abbrev pub Blamed : List ℕ → Stop → Type 0
Blamed text (Input f) = (ls : List (List ℕ)) × (rest : List ℕ) × Begins text ls rest × (length ls ≡ f.line)
Blamed text Memory = Unit {0}
