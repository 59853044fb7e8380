use Rattle.std.proofs.Common.{eqb, sym, ap, ◌∙◌, arith}
use Rattle.std.proofs.lemmas.Bool.{le-ltb}
use Rattle.std.proofs.lemmas.Nat.Bits.{bit_at_above}
use Rattle.party_set.proofs.PartySet.has.Goals as goal

-- from bit 16 on a number of 16 bits has none
pub returns-else-party-lt-PARTIES : goal.returns-else-party-lt-PARTIES
returns-else-party-lt-PARTIES c = le-ltb c.args.party 16 (omega arith) ∙ sym (ap (λ b. eqb b 1) (bit_at_above c.args.self.members 16 c.args.party (omega arith) (omega arith)))
