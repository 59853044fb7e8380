use Rattle.moves.proofs.Aptness.{low, recall_apt, evict_apt, grant_apt}
use Rattle.advancing.proofs.advance.perform.Goals as goal

pub recall-requires : goal.recall-requires
recall-requires g c =
    let f = recall_apt g.O.Operation.algebra c.args.bench.now c.requires.in_order c.args.cell c.args.next c.requires.decided c.in-Recall.served c.in-Recall.line c.in-Recall.is in
    record { within = c.requires.within; sendable = f; counts = (low c.args.bench.now.ledger.now c.requires.counts).recalls }

pub evict-requires : goal.evict-requires
evict-requires g c =
    let f = evict_apt g.O.Operation.algebra c.args.bench.now c.requires.in_order c.args.cell c.args.next c.requires.decided c.in-Evict.served c.in-Evict.is in
    let y = f.2 (g.R.Victim.rule.picked c.args.bench.now.rule.now c.in-Evict.served c.args.bench.now.ways) (g.met.R.Victim.within c.args.bench.now.rule.now c.in-Evict.served c.args.bench.now.ways f.0) in
    record { limits = (f.0, (f.1, c.requires.within)); sendable = y; counts = (low c.args.bench.now.ledger.now c.requires.counts).evictions }

pub grant-requires : goal.grant-requires
grant-requires g c =
    let f = grant_apt g.O.Operation.algebra c.args.bench.now c.requires.in_order c.args.cell c.args.next c.requires.decided c.in-Grant.served c.in-Grant.request c.in-Grant.line c.in-Grant.is in
    record { place = (f.2, (f.3, f.4)); limits = (f.0, (f.1, c.requires.within)); asked = f.5; counts = (low c.args.bench.now.ledger.now c.requires.counts).grants }
