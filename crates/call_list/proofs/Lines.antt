-- What a line says, once its fields were taken one by one
use Rattle.std.proofs.Common.{◌≡◌, ℕ, List, [], ◌∷◌, Ok, Result, sym, ap, ◌∙◌, subst}
use Rattle.layering.specs.declared.Call.{Call}
use Rattle.layering.specs.declared.Call.TheVariants as call
use Rattle.notation.specs.declared.Misread.{Misread}
use Rattle.call_list.specs.declared.script.Verb.{Verb}
use Rattle.call_list.specs.declared.script.Verb.TheVariants as verb
use Rattle.call_list.specs.Fields.{First, Words}
use Rattle.call_list.specs.Script.{verb_word, Place, Says}

-- the words w and p, and then more; `last` is what was left where the line was seen to end
module _ {line start w p rest more last : List ℕ} (whole : start ≡ line) (first : First start w rest) (second : First rest p more) (none : Words last []) where
  pub two_words : last ≡ more → Words line (w ∷ p ∷ [])
  two_words e = (rest, subst (λ l. First l w rest) whole first, (more, second, subst (λ l. Words l []) e none))

  pub three_words : {f end : List ℕ} → First more f end → last ≡ end → Words line (w ∷ p ∷ f ∷ [])
  three_words {end = end} third e = (rest, subst (λ l. First l w rest) whole first, (more, second, (end, third, subst (λ l. Words l []) e none)))

  module _ {V P : Type 0} (value : List ℕ → Result V Misread → Type 0) (partial : List ℕ → Result P Misread → Type 0) (v : Verb) (named : w ≡ verb_word v) (i : ℕ) (at : Place p i) (said : Call V P) where
    abbrev Told : Type 0
    Told = (ws : List (List ℕ)) × Words line ws × Says value partial ws said

    pub load_line : v ≡ verb.Load → said ≡ call.Load i → last ≡ more → Told
    load_line is call-is e = (
      w ∷ p ∷ [],
      two_words e,
      subst (Says value partial (w ∷ p ∷ [])) (sym call-is) (p, ap (λ u. u ∷ p ∷ []) (named ∙ ap verb_word is), at),
    )

    pub store_line : {f end : List ℕ} {x : V} → v ≡ verb.Store → said ≡ call.Store i x → First more f end → last ≡ end → value f (Ok x) → Told
    store_line {f} is call-is third e read = (
      w ∷ p ∷ f ∷ [],
      three_words third e,
      subst (Says value partial (w ∷ p ∷ f ∷ [])) (sym call-is) (p, f, ap (λ u. u ∷ p ∷ f ∷ []) (named ∙ ap verb_word is), at, read),
    )

    pub apply_line : {f end : List ℕ} {x : P} → v ≡ verb.Apply → said ≡ call.Apply i x → First more f end → last ≡ end → partial f (Ok x) → Told
    apply_line {f} is call-is third e read = (
      w ∷ p ∷ f ∷ [],
      three_words third e,
      subst (Says value partial (w ∷ p ∷ f ∷ [])) (sym call-is) (p, f, ap (λ u. u ∷ p ∷ f ∷ []) (named ∙ ap verb_word is), at, read),
    )
