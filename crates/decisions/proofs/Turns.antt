-- The round of a cell's turn, cut at the party that its loop has come to
use Rattle.std.proofs.Common.{◌≡◌, ℕ, ◌+◌, ◌-◌, ◌<◌, ◌≤◌, Bool, true, false, List, length, get_or, Some, None, sym, ap, ◌∙◌, arith}
use Rattle.std.specs.Option.{option_map}
use Rattle.tables.specs.declared.register.Register.{Register}
use Rattle.tables.specs.declared.register.Register.TheVariants.{Empty}
use Rattle.tables.specs.Lines.{waits_for}
use Rattle.party_set.specs.Searches.{first}
use Rattle.party_set.proofs.Searches.{first_here, first_next, first_past}
use Rattle.model.specs.Searches.{after_last_in, next_waiting}

module _ {V P : Type 0} (rs : List (Register V P)) (a last : ℕ) where
  -- the party d places on waits
  abbrev pub waits : ℕ → Bool
  waits d = waits_for a (get_or rs (after_last_in (length rs) last d) Empty)

  -- nobody waits among the first `passed` parties of the round
  abbrev pub Passed : ℕ → Type 0
  Passed passed = first waits (0 + passed) (length rs - passed) ≡ first waits 0 (length rs)

  pub found : (passed : ℕ) → passed < length rs → waits passed ≡ true → Passed passed → Some (after_last_in (length rs) last passed) ≡ next_waiting (length rs) rs a last
  found passed l h inv =
      let e : 0 + passed ≡ passed = omega arith in
      ap (option_map (after_last_in (length rs) last)) (sym (first_here waits 0 (length rs) passed l (ap waits e ∙ h) ∙ ap Some e) ∙ inv)

  pub onward : (passed : ℕ) → passed < length rs → waits passed ≡ false → Passed passed → Passed (passed + 1)
  onward passed l h inv =
      let e : 0 + passed ≡ passed = omega arith in
      sym (first_next waits 0 (length rs) passed l (ap waits e ∙ h)) ∙ inv

  pub nobody_waits : (passed : ℕ) → length rs ≤ passed → Passed passed → None ≡ next_waiting (length rs) rs a last
  nobody_waits passed l inv = ap (option_map (after_last_in (length rs) last)) (sym (first_past waits 0 (length rs) passed l) ∙ inv)
