use Rattle.std.proofs.Common.{codes, rules, arith}
use Rattle.std.proofs.lemmas.Slice.Eq.{text_from_reads}
use Rattle.script.proofs.words.WishVocabulary.named.Goals as goal

pub returns-in-write : goal.returns-in-write
returns-in-write c = rw (text_from_reads c.args.text.now (codes "write") (omega arith) (search rules))

pub returns-in-update : goal.returns-in-update
returns-in-update c = rw (text_from_reads c.args.text.now (codes "update") (omega arith) (search rules))
