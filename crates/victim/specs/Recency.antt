-- The words of what a rule by age comes to, over all touches so far, the last one first
--   touched_by    the rule after the touches
--   used          the ways that a party has used, the last one first; at first as if it had used all, by their numbers
--   ago           how many uses ago a way was used last
--   SparesRecent  a pick answers the way whose last use is the longest ago
use Rattle.std.specs.Prelude.{ℕ, ◌+◌, ◌<◌, ◌≤◌, cond, ◌&&◌, List, [], ◌∷◌, ◌==◌}
use Rattle.victim.specs.Aging.{aging}
use Rattle.victim.specs.Limits.{hears}
use Rattle.victim.specs.Rules.{Servable}
use Rattle.victim.specs.declared.oldest.Oldest.{Oldest}

abbrev pub touched_by : Oldest → List (ℕ × ℕ) → Oldest
touched_by x [] = x
touched_by x ((party, way) ∷ earlier) = aging.touched (touched_by x earlier) party way

abbrev pub used : ℕ → List (ℕ × ℕ) → List ℕ
used party [] = 7 ∷ 6 ∷ 5 ∷ 4 ∷ 3 ∷ 2 ∷ 1 ∷ 0 ∷ []
used party ((who, way) ∷ earlier) = cond (hears who way && who == party) (way ∷ used party earlier) (used party earlier)

abbrev pub ago : List ℕ → ℕ → ℕ
ago [] way = 0
ago (x ∷ xs) way = cond (x == way) 0 (1 + ago xs way)

abbrev pub SparesRecent : Oldest → Type 0
SparesRecent x = (touches : List (ℕ × ℕ)) (party ways way : ℕ) → Servable party ways → way < ways → ago (used party touches) way ≤ ago (used party touches) (aging.picked (touched_by x touches) party ways)
