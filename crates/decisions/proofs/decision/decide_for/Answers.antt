use Rattle.model.proofs.Sized.{ways_within}
use Rattle.decisions.proofs.decision.decide_for.Goals as goal

pub vacant_way-requires : goal.vacant_way-requires
vacant_way-requires g c = (ways_within g.O.Operation.algebra c.args.ways c.args.lines.now c.args.directory.now c.args.registers.now c.requires.sizes c.args.party c.requires.within.1).0
