-- What a line adds to the parties found, and when there is room for it
use Rattle.std.proofs.Common.{◌≡◌, ℕ, ◌<◌, Bool, true, false, not, ◌&&◌, ◌||◌, eqb, ◌⊎◌, List, length, get_or, set, sym, refl, ap, ◌∙◌, subst, inl, inr, ⊎_elim, arith, get_or-set_other, get_or-set_same}
use Rattle.std.proofs.lemmas.Bool.{cases_eq, eq-eqb, ne_eqb, eqb-true, both_ways, not-true, not_from_false, and_left, or_right}
use Rattle.tables.specs.declared.line.Line.{Line}
use Rattle.tables.specs.declared.line.Line.TheVariants.{Invalid, Shared, UpdateOnly, Modified}
use Rattle.party_set.specs.declared.PartySet.{PartySet}
use Rattle.tables.specs.declared.entry.Phase.{Phase}
use Rattle.tables.specs.declared.entry.Phase.TheVariants as phase
use Rattle.party_set.specs.Sets.{has, nobody, with}
use Rattle.tables.specs.Lines.{is_held, cell_of, is_of}
use Rattle.tables.specs.Legal.{phase_code}
use Rattle.tables.proofs.Tests.{unless}
use Rattle.party_set.proofs.Holders.{set_same, has_nobody, no_members, with_same, with_other}
use Rattle.audit.specs.Audit.{room, admitted}

or_false : (x y : Bool) → y ≡ false → (x || y) ≡ x
or_false true y e = refl
or_false false y e = e

-- room says that no member is the party itself, and that a Modified line finds nobody
apart : (s : PartySet) (p q : ℕ) → not (has s p) ≡ true → has s q ≡ true → q ≡ p → ⊥
apart s p q t h e = both_ways (has s p) (not-true (has s p) t) (subst (λ x. has s x ≡ true) e h)

pub room_at : (f : Phase) (s : PartySet) (p q : ℕ) → room f s p ≡ true → has s q ≡ true → (q ≡ p) ⊎ (f ≡ phase.Modified) → ⊥
room_at phase.Free s p q t h o = ⊎_elim (apart s p q t h) (λ e. omega (arith, ap phase_code e)) o
room_at phase.Shared s p q t h o = ⊎_elim (apart s p q t h) (λ e. omega (arith, ap phase_code e)) o
room_at phase.UpdateOnly s p q t h o = ⊎_elim (apart s p q t h) (λ e. omega (arith, ap phase_code e)) o
room_at phase.Modified s p q t h o = both_ways (has s q) (ap (λ x. has x q) (set_same s nobody (eqb-true _ 0 t)) ∙ has_nobody q) h

pub room_from : (f : Phase) (s : PartySet) (p : ℕ) → ((q : ℕ) → has s q ≡ true → (q ≡ p) ⊎ (f ≡ phase.Modified) → ⊥) → room f s p ≡ true
room_from phase.Free s p h = not_from_false (has s p) (unless (has s p) (λ t. h p t (inl refl)))
room_from phase.Shared s p h = not_from_false (has s p) (unless (has s p) (λ t. h p t (inl refl)))
room_from phase.UpdateOnly s p h = not_from_false (has s p) (unless (has s p) (λ t. h p t (inl refl)))
room_from phase.Modified s p h = eq-eqb s.members 0 (ap (λ x. x.members) (no_members s (λ q. unless (has s q) (λ t. h q t (inr refl)))))

with_has : (h : PartySet) (p q : ℕ) → has (with h p) q ≡ (has h q || eqb q p)
with_has h p q = ⊎_elim
    (λ (e : q ≡ p). subst (λ x. has (with h p) x ≡ true) (sym e) (with_same h p) ∙ sym (or_right (has h q) (eqb q p) (eq-eqb q p e)))
    (λ (n : q ≡ p → ⊥). with_other h p q n ∙ sym (or_false (has h q) (eqb q p) (ne_eqb q p n)))
    (cases_eq q p)

added_has : (found : List PartySet) (b p a q : ℕ) → b < length found
    → has (get_or (set found b (with (get_or found b nobody) p)) a nobody) q ≡ (has (get_or found a nobody) q || (eqb b a && eqb q p))
added_has found b p a q l = ⊎_elim
    (λ (e : b ≡ a). subst (λ x. has (get_or now x nobody) q ≡ (has (get_or found x nobody) q || (eqb b x && eqb q p))) e
    (ap (λ s. has s q) (get_or-set_same found b (with (get_or found b nobody) p) nobody l) ∙ with_has (get_or found b nobody) p q ∙ ap (λ t. has (get_or found b nobody) q || (t && eqb q p)) (sym (eq-eqb b b refl))))
    (λ (n : b ≡ a → ⊥). ap (λ s. has s q) (get_or-set_other found b a (with (get_or found b nobody) p) nobody (λ e. n (sym e))) ∙ sym (or_false _ (eqb b a && eqb q p) (and_left (eqb b a) (eqb q p) (ne_eqb b a n))))
    (cases_eq b a)
  where
    now : List PartySet
    now = set found b (with (get_or found b nobody) p)

-- the line adds its party at its cell, and nothing else
pub admitted_has : {V P : Type 0} (found : List PartySet) (p : ℕ) (l : Line V P) (a q : ℕ) → (is_held l ≡ true → cell_of l < length found)
    → has (get_or (admitted found p l) a nobody) q ≡ (has (get_or found a nobody) q || (is_of a l && eqb q p))
admitted_has found p Invalid a q h = sym (or_false (has (get_or found a nobody) q) false refl)
admitted_has found p (Shared b v) a q h = added_has found b p a q (h refl)
admitted_has found p (UpdateOnly b d) a q h = added_has found b p a q (h refl)
admitted_has found p (Modified b v) a q h = added_has found b p a q (h refl)
