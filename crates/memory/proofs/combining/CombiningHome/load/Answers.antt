use Rattle.std.proofs.Common.{rules}
use Rattle.memory.specs.Register.{acting}
use Rattle.memory.proofs.Acting.{acting_at, placed_acting}
use Rattle.memory.proofs.Places.{is_ok_loaded, is_ok_placed}
use Rattle.memory.proofs.combining.CombiningHome.load.Goals as goal

-- what took the partial has the place, so the load after it is not refused
pub returns-in_ok-apply-in-Some-default-clause-unmoved : goal.returns-in_ok-apply-in-Some-default-clause-unmoved
returns-in_ok-apply-in-Some-default-clause-unmoved g c =
    let cells = acting g.O.Operation.algebra (g.H.Home.meaning c.args.self.now.below) c.args.self.now.held in
    let l = is_ok_loaded cells c.args.place in
    let p = is_ok_placed cells c.args.place in
    search (rules, acting_at, placed_acting)
