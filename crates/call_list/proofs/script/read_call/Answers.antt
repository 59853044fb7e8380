use Rattle.std.proofs.Common.{ap}
use Rattle.std.specs.Str.Iter.{split_whitespace_rest}
use Rattle.call_list.proofs.Lines.{load_line, store_line, apply_line}
use Rattle.call_list.proofs.script.read_call.Goals as goal
use Rattle.call_list.proofs.script.read_call.Goals.{in-Load, in-Store+in_ok-next_field-in-Store+in_ok-value-in-Store, in-Apply+in_ok-next_field-in-Apply+in_ok-partial-in-Apply}

pub returns : goal.returns
returns g c =
    let whole = c.split_whitespace-fields.ensures.rest in
    let first = c.in_ok-next_field.ensures in
    let second = c.in_ok-next_field-2.ensures in
    let none = c.in_ok-end_of_fields.ensures in
    let value = g.O.Notation.valued in
    let partial = g.O.Notation.partialed in
    let v = c.in_ok-verb.verb in
    let named = c.in_ok-verb.ensures in
    let i = c.in_ok-place.place in
    let at = c.in_ok-place.ensures in
    let said = c.match-verb.call in
    elim c.match-verb.branch [
      | in-Load way ↦ load_line whole first second none value partial v named i at said way.in-Load.is way.call-is (ap split_whitespace_rest way.fields-is)
      | in-Store+in_ok-next_field-in-Store+in_ok-value-in-Store way ↦ store_line whole first second none value partial v named i at said way.in-Store.is way.call-is way.in_ok-next_field-in-Store.ensures (ap split_whitespace_rest way.fields-is) way.in_ok-value-in-Store.ensures
      | in-Apply+in_ok-next_field-in-Apply+in_ok-partial-in-Apply way ↦ apply_line whole first second none value partial v named i at said way.in-Apply.is way.call-is way.in_ok-next_field-in-Apply.ensures (ap split_whitespace_rest way.fields-is) way.in_ok-partial-in-Apply.ensures
    ]
