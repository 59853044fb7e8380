use Rattle.std.proofs.Common.{is_ok, Some, sym, ap, ◌∙◌, subst}
use Rattle.std.proofs.lemmas.Result.{err_from_is_err_and}
use Rattle.operation.proofs.Lawful.{lawful}
use Rattle.tables.specs.declared.refusal.Refusal.TheVariants.{Sizes}
use Rattle.tables.specs.Legal.{Legal, fits}
use Rattle.model.specs.Bench.{State, bench, state}
use Rattle.model.specs.Steps.{make_refusal}
use Rattle.model.proofs.Basics.{need_none}
use Rattle.model.proofs.Sized.{limits_of}
use Rattle.moves.proofs.Calls.{passed, failed}
use Rattle.moves.proofs.Sounds.{sound}
use Rattle.settlement.specs.Makes.{issued, made_or}
use Rattle.settlement.proofs.Makes.{make_leaves, make_legal, not_ok}
use Rattle.settlement.proofs.making.make_over.Goals as goal

pub returns-in_err-makeable_over : goal.returns-in_err-makeable_over
returns-in_err-makeable_over g c =
    let op = g.O.Operation.algebra in
    let rule = g.R.Victim.rule in
    let ways = c.args.ways in
    let s = state c.args.lines.now c.args.directory.now c.args.registers.now c.args.ledger.now c.args.rule.now (g.H.Home.meaning c.args.home.now) in
    let k = bench op rule ways s in
    let p = err_from_is_err_and c.from_residual.result c.from_residual.ensures.1 in
    let n = c.in_err-makeable_over.field-0.0 in
    let said = ap issued p.1 ∙ ap Some p.2 in
    record {
      answer = said ∙ sym (failed (make_refusal k s) n c.in_err-makeable_over.ensures);
      state = sym (ap (λ o. made_or o k s) said);
      legal = λ e. not_ok (ap is_ok p.1) e;
    }

pub renew-requires : goal.renew-requires
renew-requires g c =
    let op = g.O.Operation.algebra in
    let rule = g.R.Victim.rule in
    let ways = c.args.ways in
    let s = state c.args.lines.now c.args.directory.now c.args.registers.now c.args.ledger.now c.args.rule.now (g.H.Home.meaning c.args.home.now) in
    let ok = passed (make_refusal (bench op rule ways s) s) c.in_ok-makeable_over.ensures in
    (limits_of op rule ways s (need_none (fits ways s.lines s.directory s.registers) Sizes _ ok).0).0.parties_low

pub returns : goal.returns
returns g c =
    let op = g.O.Operation.algebra in
    let rule = g.R.Victim.rule in
    let ways = c.args.ways in
    let s = state c.args.lines.now c.args.directory.now c.args.registers.now c.args.ledger.now c.args.rule.now (g.H.Home.meaning c.args.home.now) in
    let k = bench op rule ways s in
    let ok = passed (make_refusal k s) c.in_ok-makeable_over.ensures in
    let sized = sym (need_none (fits ways s.lines s.directory s.registers) Sizes _ ok).0 in
    let new = c.renew.ensures in
    let end = make_leaves op rule ways s sized new.lines new.directory new.registers new.ledger in
    record {
      answer = sym ok;
      state = end;
      legal = λ e. subst (λ (z : State _ _ _). Legal ways z.lines z.directory z.registers) (sym end) (make_legal op rule ways s (sound op rule ways s (lawful g.met.O.Operation) g.met.R.Victim.within) ok);
    }
