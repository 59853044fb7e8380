use Rattle.std.proofs.Common.{◌<◌, length, sym, subst, arith}
use Rattle.tables.specs.declared.entry.Entry.{Entry}
use Rattle.model.proofs.Sized.{bare_limits}
use Rattle.decisions.proofs.Served.{served_waits, waits_for_target}
use Rattle.decisions.proofs.decision.decide.Goals as goal

pub served-requires : goal.served-requires
served-requires g c = (
  subst (λ (e : Entry). e.last < length c.args.registers.now) (sym c.entry_at.ensures) (c.requires.legal.in_range.last_parties c.args.cell c.requires.within),
  omega (arith, (bare_limits g.O.Operation.algebra c.args.ways c.args.lines.now c.args.directory.now c.args.registers.now c.requires.sizes).0.parties_high),
)

pub register_at-requires : goal.register_at-requires
register_at-requires g c =
    (served_waits g.O.Operation.algebra c.args.ways c.args.lines.now c.args.directory.now c.args.registers.now c.requires.sizes c.requires.legal c.args.cell c.entry_at.result c.entry_at.ensures c.in-Some.party (sym c.in-Some.ensures)).0

pub decide_for-requires : goal.decide_for-requires
decide_for-requires g c =
    let w = served_waits g.O.Operation.algebra c.args.ways c.args.lines.now c.args.directory.now c.args.registers.now c.requires.sizes c.requires.legal c.args.cell c.entry_at.result c.entry_at.ensures c.in-Some.party (sym c.in-Some.ensures) in
    record {
      sizes = c.requires.sizes;
      legal = c.requires.legal;
      within = (omega (arith, c.requires.within, waits_for_target c.args.cell _ c.in-Waiting.request (sym c.in-Waiting.ensures) w.1), w.0);
    }
