use Rattle.std.proofs.Common.{codes, rules, arith}
use Rattle.std.proofs.lemmas.Slice.Eq.{text_from_reads}
use Rattle.script.proofs.words.RankingVocabulary.named.Goals as goal

pub returns-in-rotate : goal.returns-in-rotate
returns-in-rotate c = rw (text_from_reads c.args.text.now (codes "rotate") (omega arith) (search rules))

pub returns-in-oldest : goal.returns-in-oldest
returns-in-oldest c = rw (text_from_reads c.args.text.now (codes "oldest") (omega arith) (search rules))
