use Rattle.std.proofs.Common.{◌≡◌, ◌<◌, ◌∷◌, length, refl, ap, rules}
use Rattle.script.specs.Cuts.{lines}
use Rattle.script.proofs.Cutting.{first_line}
use Rattle.script.proofs.cuts.LinesIterator.next.Goals as goal

one_more : (c : goal.After-self-1) → lines c.args.self.now.0.now ≡ c.split_once.result.0.now ∷ lines c.unwrap_or-self.result.now
one_more c =
    let some : 0 < length c.args.self.now.0.now = search rules in
    let cut = c.split_once.ensures in
    first_line c.args.self.now.0.now _ _ _ _ some cut.parts cut.whole c.unwrap_or-self.ensures refl

pub returns-clause-steps : goal.returns-clause-steps
returns-clause-steps c = one_more c

pub returns-clause-goes : goal.returns-clause-goes
returns-clause-goes c =
    let fewer = ap length (one_more c) in
    search rules
