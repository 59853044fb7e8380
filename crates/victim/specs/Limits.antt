-- The limits of a rule, as tests
--   serves  whether a pick serves the party with so many ways
--   hears   whether a touch serves the way of the party
use Rattle.std.specs.Prelude.{ℕ, Bool, ◌&&◌, nat_le, nat_lt}

abbrev pub serves : ℕ → ℕ → Bool
serves party ways = nat_lt party 16 && nat_le 1 ways && nat_le ways 8

abbrev pub hears : ℕ → ℕ → Bool
hears party way = nat_lt party 16 && nat_lt way 8
