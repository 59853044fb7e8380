-- Answers and counts in words
--   said   what is printed of an answer, given how a value is shown
--   tally  what is printed of a ledger's counts
use Rattle.std.specs.Prelude.{ℕ, List, ◌++◌, Some, None, codes, decimal}
use Rattle.tables.specs.Refusals.{number_of}
use Rattle.tables.specs.declared.ledger.Ledger.{Ledger}
use Rattle.model.specs.declared.answer.Answer.{Answer}
use Rattle.model.specs.declared.answer.Answer.TheVariants.{Refused, Hit, Queued, Idle, Recall, Evict, Grant, Collected, Yielded, Settled}

abbrev pub said : {V : Type 0} → (V → List ℕ) → Answer V → List ℕ
said shown (Refused n) = codes "refused " ++ decimal (number_of n)
said shown Hit = codes "hit"
said shown Queued = codes "queued"
said shown Idle = codes "idle"
said shown (Recall party) = codes "recall " ++ decimal party
said shown (Evict way) = codes "evict " ++ decimal way
said shown (Grant party) = codes "grant " ++ decimal party
said shown (Collected (Some value)) = codes "value " ++ shown value
said shown (Collected None) = codes "done"
said shown Yielded = codes "yielded"
said shown Settled = codes "settled"

abbrev pub tally : Ledger → List ℕ
tally g = codes "tally hits " ++ (decimal g.hits ++ (codes " grants " ++ (decimal g.grants ++ (codes " recalls " ++ (decimal g.recalls ++ (codes " evictions " ++ (decimal g.evictions ++ (codes " yields " ++ decimal g.yields))))))))
