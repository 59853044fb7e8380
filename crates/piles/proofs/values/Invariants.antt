use Rattle.std.proofs.Common.{◌≡◌, ◌≤◌, take, vec_items, vec_len, vec_capacity}
use Rattle.piles.proofs.values.Given as goal

-- a load changes no value, and those so far are read
abbrev pub invariant-loop-place : goal.invariant-loop-place
invariant-loop-place g l =
    (g.H.Home.meaning l.home ≡ g.H.Home.meaning l.initial.home) ×
    (vec_items l.values ≡ take l.place (g.H.Home.meaning l.initial.home)) ×
    (vec_len l.values ≡ l.place) ×
    (l.cells ≤ vec_capacity l.values)
