use Rattle.std.proofs.Common.{◌≡◌, ◌+◌, ◌*◌, ◌<◌, length, get_or, replicate, refl, ◌∙◌, subst, arith}
use lib.ListN.{get_or-replicate}
use Rattle.std.proofs.lemmas.Bool.{both_ways}
use Rattle.std.proofs.lemmas.List.{get_or_read}
use Rattle.tables.specs.declared.line.Line.TheVariants.{Invalid}
use Rattle.tables.specs.declared.register.Register.TheVariants.{Empty}
use Rattle.party_set.specs.Sets.{nobody}
use Rattle.audit.proofs.Pass.{Passed, pass_none, pass_step}
use Rattle.audit.proofs.Ways.{own_end, own_length, own_line}
use Rattle.audit.proofs.Verdict.{all_passed, legal_entries, not_admitted, right_legal}
use Rattle.audit.proofs.is_legal.Goals as goal
use Rattle.audit.proofs.is_legal.Goals.{else-loop-party-test, then-loop-party-test+then-loop-line-test+then-not-admit}

pub loop-party-init : goal.loop-party-init
loop-party-init g c =
    (refl, pass_none _ _ _ _ (replicate 256 c.none-found.result) _ (omega arith) (λ a l. get_or-replicate 256 a c.none-found.result nobody (omega arith) ∙ c.none-found.ensures))

pub loop-line-init : goal.loop-line-init
loop-line-init g c =
    let e : c.loop-party.party * c.args.ways ≡ c.loop-party.party * c.args.ways + 0 = omega arith in
    (c.loop-party.invariant.0, subst (Passed _ _ _ _ (λ a. get_or c.loop-party.found a nobody)) e c.loop-party.invariant.1)

pub loop-line-preserved : goal.loop-line-preserved
loop-line-preserved g c =
    let party = c.loop-party.party in
    let way = c.loop-line.line-index in
    let short : way < c.args.ways = omega (arith, c.loop-line-test.true, own_length c.args.lines.now c.args.ways (length c.args.registers.now) party c.requires.all_lines c.loop-party-test.true) in
    let l = own_line c.args.lines.now c.args.ways (length c.args.registers.now) party c.requires.all_lines c.loop-party-test.true way c.line-item.result Invalid c.loop-line-test.true c.line-item.is in
    let r = get_or_read c.args.registers.now party c.index-registers-party.result c.loop-party-test.true c.index-registers-party.is Empty in (
      omega (arith, c.loop-line.invariant.0),
      pass_step _ _ _ _ c.loop-line.found c.admit.new.found party way (party * c.args.ways + (way + 1)) c.line-item.result c.index-registers-party.result
          short (omega (arith, c.loop-line.invariant.0)) l r c.if-not-admit.ensures.right c.if-not-admit.ensures.after (omega arith) c.loop-line.invariant.1,
    )

pub loop-party-preserved : goal.loop-party-preserved
loop-party-preserved g c =
    let e = own_end c.args.lines.now c.args.ways (length c.args.registers.now) c.loop-party.party c.requires.all_lines c.loop-party-test.true c.loop-line.line-index c.loop-line-test.false c.loop-line.auto.line-index-end in
    (c.loop-line.invariant.0, subst (Passed _ _ _ _ (λ a. get_or c.loop-line.found a nobody)) e c.loop-line.invariant.1)

pub returns-then-admitted : goal.returns-then-admitted
returns-then-admitted g c = elim c.loop-party-test.branch [
  | else-loop-party-test w ↦
      let was = all_passed c.args.ways c.args.lines.now c.args.directory.now c.args.registers.now c.requires.some_way c.loop-party.found c.loop-party-test.found c.loop-party.party w.found-is (let h = w.loop-party-test.false in omega arith) c.loop-party.invariant.1 in (
        λ t. right_legal _ _ _ _ c.requires.some_way _ was (c.if-not-requests_exist.ensures.0 refl) (c.directory_right.ensures.0 t),
        λ ok. c.directory_right.ensures.1 (legal_entries _ _ _ _ c.requires.some_way ok _ was),
      )
  | then-loop-party-test+then-loop-line-test+then-not-admit w ↦ absurd (both_ways _ w.admitted-is c.if-admitted.true)
]

pub returns-else-admitted : goal.returns-else-admitted
returns-else-admitted g c = elim c.loop-party-test.branch [
  | else-loop-party-test w ↦ absurd (both_ways _ c.if-admitted.false w.admitted-is)
  | then-loop-party-test+then-loop-line-test+then-not-admit w ↦ (
    λ t. absurd (both_ways _ c.if-admitted.false t),
    λ ok. absurd (
        let party = c.loop-party.party in
        let way = w.loop-line.line-index in
        let short : way < c.args.ways = omega (arith, w.loop-line-test.true, own_length c.args.lines.now c.args.ways (length c.args.registers.now) party c.requires.all_lines w.loop-party-test.true) in
        let l = own_line c.args.lines.now c.args.ways (length c.args.registers.now) party c.requires.all_lines w.loop-party-test.true way w.line-item.result Invalid w.loop-line-test.true w.line-item.is in
        let r = get_or_read c.args.registers.now party w.index-registers-party.result w.loop-party-test.true w.index-registers-party.is Empty in
        not_admitted _ _ _ _ c.requires.some_way w.loop-line.found party way w.line-item.result w.index-registers-party.result
        w.loop-party-test.true short l r w.if-not-admit.ensures.right w.loop-line.invariant.1 ok),
  )
]
