-- The words of an order of ways by age, the oldest first
--   times         how often a way stands in an order
--   Whole         every way below 8 stands in the order exactly once
--   newest        the order once a way has been made the newest
--   Renewed       a later order differs only in that the way, wherever it stood, is the newest
--   oldest_below  the oldest way below a number
--   IsOldest      a way stands in the order and is below the number, and all that are older are not
use Rattle.std.specs.Prelude.{◌≡◌, ℕ, ◌<◌, ◌≤◌, cond, List, [], ◌∷◌, ◌++◌, count_by, Option, ◌==◌, nat_eq, nat_lt}
use Rattle.std.specs.List.{AllByRecursion, find}

abbrev pub times : List ℕ → ℕ → ℕ
times order way = count_by (λ x. nat_eq x way) order

abbrev pub Whole : List ℕ → Type 0
Whole order = (way : ℕ) → way < 8 → times order way ≡ 1

abbrev pub newest : List ℕ → ℕ → List ℕ
newest [] way = []
newest (x ∷ xs) way = cond (x == way) (xs ++ way ∷ []) (x ∷ newest xs way)

abbrev pub Renewed : List ℕ → ℕ → List ℕ → Type 0
Renewed order way after = (older : List ℕ) × (newer : List ℕ) × (order ≡ older ++ way ∷ newer) × (after ≡ older ++ newer ++ way ∷ [])

abbrev pub oldest_below : List ℕ → ℕ → Option ℕ
oldest_below order bound = find (λ way. nat_lt way bound) order

abbrev pub IsOldest : List ℕ → ℕ → ℕ → Type 0
IsOldest order bound way = (older : List ℕ) × (newer : List ℕ) × (order ≡ older ++ way ∷ newer) × (way < bound) × AllByRecursion (λ x. bound ≤ x) older
