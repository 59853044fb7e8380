use Rattle.std.proofs.Common.{◌≡◌, ◌+◌, ◌-◌, ◌*◌, ◌<◌, length, sym, refl, ap, ◌∙◌, subst, arith}
use Rattle.tables.specs.Lines.{is_held}
use Rattle.model.specs.Bench.{state, bench, line}
use Rattle.model.specs.Steps.{all_sent}
use Rattle.model.proofs.Tabled.{Tabled}
use Rattle.model.proofs.Sized.{limits_of, tabled_of}
use Rattle.moves.proofs.Aptness.{low}
use Rattle.settlement.proofs.Sending.{next_sent, none_left, emptied_tabled, emptied_yields, emptied_alike, place}
use Rattle.settlement.proofs.settling.send_all.Goals as goal

pub loop-i-init : goal.loop-i-init
loop-i-init g c =
    let op = g.O.Operation.algebra in
    let rule = g.R.Victim.rule in
    let ways = c.args.ways in
    let s₀ = state c.args.lines.now c.args.directory.now c.args.registers.now c.args.ledger.now c.args.rule.now (g.H.Home.meaning c.args.home.now) in
    let k = bench op rule ways s₀ in
    let n = length c.args.registers.now * ways in
    let e : n - 0 ≡ n = omega arith in
    (ap (λ m. all_sent k 0 m s₀) e, tabled_of op rule ways s₀ c.requires.sizes c.requires.legal, omega arith)

pub send_one-requires : goal.send_one-requires
send_one-requires g c =
    let op = g.O.Operation.algebra in
    let rule = g.R.Victim.rule in
    let ways = c.args.ways in
    let s₀ = state c.args.lines.now c.args.directory.now c.args.registers.now c.args.ledger.now c.args.rule.now (g.H.Home.meaning c.args.home.now) in
    let k = bench op rule ways s₀ in
    let n = length c.args.registers.now * ways in
    let i = c.loop-i.i in
    let s = state c.loop-i.lines c.loop-i.directory c.args.registers.now c.loop-i.ledger c.args.rule.now (g.H.Home.meaning c.loop-i.home) in
    let all = (limits_of op rule ways s₀ c.requires.sizes).1 in
    let y = place k s i c.loop-i.invariant.1 (omega (arith, all)) in
    record { place = (omega arith, (y.wide, y.party)); listed = y.listed; counts = omega (arith, (low c.args.ledger.now c.requires.counts).yields, y.few, c.loop-i.invariant.2) }

pub loop-i-preserved : goal.loop-i-preserved
loop-i-preserved g c =
    let op = g.O.Operation.algebra in
    let rule = g.R.Victim.rule in
    let ways = c.args.ways in
    let s₀ = state c.args.lines.now c.args.directory.now c.args.registers.now c.args.ledger.now c.args.rule.now (g.H.Home.meaning c.args.home.now) in
    let k = bench op rule ways s₀ in
    let n = length c.args.registers.now * ways in
    let i = c.loop-i.i in
    let s = state c.loop-i.lines c.loop-i.directory c.args.registers.now c.loop-i.ledger c.args.rule.now (g.H.Home.meaning c.loop-i.home) in
    let all = (limits_of op rule ways s₀ c.requires.sizes).1 in
    let h : i < n = omega (arith, all) in
    let e = c.send_one.ensures ∙ emptied_alike k (bench op rule ways s) s i (is_held (line s i)) refl refl in
    let m = emptied_yields k s i (is_held (line s i)) in
    let y = ap (λ z. z.ledger.yields) e in (
      ap (all_sent k (i + 1) (n - (i + 1))) e ∙ sym (next_sent k i n s h) ∙ c.loop-i.invariant.0,
      subst (Tabled k) (sym e) (emptied_tabled k s i c.loop-i.invariant.1 h (is_held (line s i)) refl),
      omega (arith, m, y, c.loop-i.invariant.2),
    )

pub returns : goal.returns
returns g c =
    let op = g.O.Operation.algebra in
    let rule = g.R.Victim.rule in
    let ways = c.args.ways in
    let s₀ = state c.args.lines.now c.args.directory.now c.args.registers.now c.args.ledger.now c.args.rule.now (g.H.Home.meaning c.args.home.now) in
    let k = bench op rule ways s₀ in
    let n = length c.args.registers.now * ways in
    let i = c.loop-i.i in
    let s = state c.loop-i.lines c.loop-i.directory c.args.registers.now c.loop-i.ledger c.args.rule.now (g.H.Home.meaning c.loop-i.home) in
    let all = (limits_of op rule ways s₀ c.requires.sizes).1 in
    sym (none_left k i n s (omega (arith, all))) ∙ c.loop-i.invariant.0
