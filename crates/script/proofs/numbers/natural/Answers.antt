use Rattle.std.proofs.Common.{◌∙◌, sym, subst}
use Rattle.std.specs.Str.Parse.{ParsesUnsigned}
use Rattle.script.proofs.Decimals.{plus_is, none_sign, none_padded, none_bytes, decoded, parsed, natural_is}
use Rattle.script.proofs.numbers.natural.Goals as goal
use Rattle.script.proofs.numbers.natural.Goals.{then-starts_with-via-then-starts_with, then-starts_with-via-else-starts_with+then-padded}

pub returns-then-starts_with : goal.returns-then-starts_with
returns-then-starts_with c =
    natural_is c.args.text.now _ (elim c.then-starts_with.branch [
      | then-starts_with-via-then-starts_with w ↦ none_sign _ ((plus_is c.args.text.now _ c.starts_with.ensures.value).0 w.if-starts_with.true)
      | then-starts_with-via-else-starts_with+then-padded w ↦ none_padded c.args.text.now (sym w.padded.ensures ∙ w.if-padded.true)
    ])

pub returns-in_err-ok : goal.returns-in_err-ok
returns-in_err-ok c =
    let none = decoded _ c.args.text.now _ _ c.ok.ensures.value c.from_utf8.ensures.cases in
    c.from_residual.ensures ∙ natural_is c.args.text.now _ (none_bytes _ (rw c.in_err-ok.was at none))

pub returns : goal.returns
returns c =
    let text = c.args.text.now in
    let same = decoded _ text _ _ c.ok.ensures.value c.from_utf8.ensures.cases in
    let parses = subst (λ l. ParsesUnsigned 64 10 l c.parse.result) (rw c.in_ok-ok.was at same) c.parse.ensures.value.0 in
    c.ok-2.ensures.value ∙ natural_is text _ (parsed text _ (λ z. absurd (cc ((plus_is text _ c.starts_with.ensures.value).1 z, c.if-starts_with.false))) (sym c.padded.ensures ∙ c.if-padded.false) parses)
