-- What the search for the oldest way finds, and that within the limits it always finds one.
use Rattle.std.specs.Prelude.{ℕ, ◌≤◌, List, [], ◌∷◌, Some, None, Decides, Option, MatchOption, nat_lt, refl}
use Rattle.std.proofs.Common.{ap, arith}
use Rattle.std.proofs.lemmas.Bool.{cond_both, ltb-false, ltb-true}
use Rattle.std.proofs.lemmas.Bool.Decides.{not_from_Decides, nat_tests}
use Rattle.std.specs.Option.{unwrap_or}
use Rattle.std.specs.List.{AllByRecursion}
use Rattle.victim.specs.Ages.{IsOldest, oldest_below}
use Rattle.victim.specs.Aging.{IsAnswer, aging, oldest_of, order_of}
use Rattle.victim.specs.Limits.{serves}
use Rattle.victim.specs.Rules.{Servable}
use Rattle.victim.specs.declared.oldest.Oldest.{Oldest}
use Rattle.victim.specs.Counting.{times_below}

-- what a search answers: a way that is the oldest below the bound, or none where all are from the bound on
abbrev Found : List ℕ → ℕ → Option ℕ → Type 0
Found xs bound o = MatchOption o (AllByRecursion (λ x. bound ≤ x) xs) (IsOldest xs bound)

later : (x : ℕ) (xs : List ℕ) (bound : ℕ) → bound ≤ x → (o : Option ℕ) → Found xs bound o → Found (x ∷ xs) bound o
later x xs bound h None all = (h, all)
later x xs bound h (Some way) (older, newer, is, below, all) = (x ∷ older, newer, ap (λ ys. x ∷ ys) is, below, (h, all))

found : (xs : List ℕ) (bound : ℕ) → Found xs bound (oldest_below xs bound)
found [] bound = tt
found (x ∷ xs) bound =
    cond_both (nat_lt x bound) (Some x) (oldest_below xs bound) (Found (x ∷ xs) bound)
    (λ e. ([], xs, refl, ltb-true x bound e, tt))
    (λ e. later x xs bound (ltb-false x bound e) (oldest_below xs bound) (found xs bound))

serves_servable : (party ways : ℕ) → Decides (serves party ways) (Servable party ways)
serves_servable party ways = (λ e. grind (arith, nat_tests), λ s. grind (arith, nat_tests))

-- within the limits there is always an answer, since way 0 stands in every order
some : (x : Oldest) (party ways : ℕ) → Servable party ways → (o : Option ℕ) → Found (order_of x party).ways ways o → IsAnswer x party ways o
some x party ways s None all =
    absurd (omega (arith, (order_of x party).whole 0 (omega arith), times_below (order_of x party).ways ways 0 (omega arith) all))
some x party ways s (Some way) is = (s, is)

pub answers : (x : Oldest) (party ways : ℕ) → IsAnswer x party ways (oldest_of x party ways)
answers x party ways =
    let xs = (order_of x party).ways in
    cond_both (serves party ways) (oldest_below xs ways) None (IsAnswer x party ways)
    (λ e. some x party ways ((serves_servable party ways).0 e) (oldest_below xs ways) (found xs ways))
    (λ e. not_from_Decides (serves party ways) (serves_servable party ways) e)

answered : (x : Oldest) (party ways : ℕ) → Servable party ways → (o : Option ℕ) → IsAnswer x party ways o → IsOldest (order_of x party).ways ways (unwrap_or o 0)
answered x party ways s None none = absurd (none s)
answered x party ways s (Some way) (_, is) = is

pub picked_oldest : (x : Oldest) (party ways : ℕ) → Servable party ways → IsOldest (order_of x party).ways ways (aging.picked x party ways)
picked_oldest x party ways s = answered x party ways s (oldest_of x party ways) (answers x party ways)
