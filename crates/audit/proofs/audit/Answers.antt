use Rattle.std.proofs.Common.{rules}
use Rattle.audit.proofs.Audited.{answers_illegal, answers_legal}
use Rattle.audit.proofs.Limits.{fits_sized}
use Rattle.audit.proofs.audit.Goals as goal

pub is_legal-requires : goal.is_legal-requires
is_legal-requires g c = fits_sized c.args.ways c.args.lines.now c.args.directory.now c.args.registers.now c.if-not-sizes_fit.ensures

pub returns-then-not-is_legal-clause-value : goal.returns-then-not-is_legal-clause-value
returns-then-not-is_legal-clause-value g c = let is = answers_illegal c.args.ways c.args.lines.now c.args.directory.now c.args.registers.now c.if-not-sizes_fit.ensures c.if-not-is_legal.ensures in search rules

pub returns-clause-value : goal.returns-clause-value
returns-clause-value g c = let is = answers_legal c.args.ways c.args.lines.now c.args.directory.now c.args.registers.now c.if-not-sizes_fit.ensures c.if-not-is_legal.ensures in search rules
