use Rattle.std.proofs.Common.{codes, rules, arith}
use Rattle.std.proofs.lemmas.Slice.Eq.{text_from_reads}
use Rattle.script.proofs.words.VerbVocabulary.named.Goals as goal

pub returns-in-advance : goal.returns-in-advance
returns-in-advance c = rw (text_from_reads c.args.text.now (codes "advance") (omega arith) (search rules))

pub returns-in-collect : goal.returns-in-collect
returns-in-collect c = rw (text_from_reads c.args.text.now (codes "collect") (omega arith) (search rules))

pub returns-in-yield : goal.returns-in-yield
returns-in-yield c = rw (text_from_reads c.args.text.now (codes "yield") (omega arith) (search rules))

pub returns-in-settle : goal.returns-in-settle
returns-in-settle c = rw (text_from_reads c.args.text.now (codes "settle") (omega arith) (search rules))
