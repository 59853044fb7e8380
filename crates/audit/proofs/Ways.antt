-- The lines of one party, as a piece of all lines
use Rattle.std.proofs.Common.{◌≡◌, ℕ, ◌+◌, ◌-◌, ◌*◌, ◌<◌, ◌≤◌, List, length, get_or, take, drop, ap, ◌∙◌, add-mul, arith}
use Rattle.std.proofs.lemmas.List.{get_or-drop, get_or-take, get_or_read, length-drop, length-take-le}
use Rattle.std.proofs.lemmas.Nat.{mul-add-lt, mul-le}

module _ {X : Type 0} (all : List X) (ways parties party : ℕ) (every : length all ≡ parties * ways) (inside : party < parties) where
  abbrev own : List X
  own = take ((party + 1) * ways - party * ways) (drop (party * ways) all)

  own_to : (party + 1) * ways ≡ party * ways + ways
  own_to = omega (arith, add-mul party 1 ways)

  own_room : (way : ℕ) → way < ways → party * ways + way < length all
  own_room way m = omega (arith, mul-add-lt party ways way parties inside m)

  pub own_length : length own ≡ ways
  own_length =
      let width : (party + 1) * ways - party * ways ≡ ways = omega (arith, own_to) in
      ap (λ n. length (take n (drop (party * ways) all))) width ∙ length-take-le ways (drop (party * ways) all) (rw (length-drop (party * ways) all) (omega (arith, every, own_last)))
    where
      own_last : party * ways + ways ≤ parties * ways
      own_last = omega (arith, own_to, mul-le (party + 1) ways parties ways (omega arith) (omega arith))

  pub own_end : (way : ℕ) → length own ≤ way → way ≤ length own → party * ways + way ≡ (party + 1) * ways
  own_end way low high = omega (arith, own_length, own_to)

  pub own_line : (way : ℕ) (x d : X) → way < length own → x ≡ get_or own way x → x ≡ get_or all (party * ways + way) d
  own_line way x d l e =
      let m : way < ways = omega (arith, own_length) in
      let width : way < (party + 1) * ways - party * ways = omega (arith, own_to) in
      get_or_read all (party * ways + way) x (own_room way m) (e ∙ get_or-take ((party + 1) * ways - party * ways) (drop (party * ways) all) way x width ∙ get_or-drop (party * ways) all way x) d
