use Rattle.std.proofs.Common.{codes, rules, arith}
use Rattle.std.proofs.lemmas.Slice.Eq.{text_from_reads}
use Rattle.script.proofs.words.OpeningVocabulary.named.Goals as goal

pub returns-in-bench : goal.returns-in-bench
returns-in-bench c = rw (text_from_reads c.args.text.now (codes "bench") (omega arith) (search rules))
