-- What sending home, a hit and a grant leave of the lines' agreement
-- tests on lines
use Rattle.std.proofs.Common.{◌≡◌, ℕ, ◌<◌, ◌≤◌, true, false, eqb, ◌⊎◌, List, length, get_or, set, Some, None, Option, sym, refl, ap, ◌∙◌, subst, inl, inr, ⊎_elim, arith}
use Rattle.std.proofs.lemmas.List.{get_or-set_other, set-get_or}
use Rattle.std.proofs.lemmas.Bool.{both_ways, cases_Bool, cases_eq, eq-eqb, eqb-false, eqb-true, ne_eqb}
use Rattle.std.specs.Option.{option_map}
use Rattle.operation.specs.Algebra.{Algebra, Lawful, applied}
use Rattle.tables.proofs.Tests.{no}
use Rattle.tables.specs.Lines.{cell_of, conflicts, hits, is_held, is_of, phase_of, target}
use Rattle.tables.specs.declared.entry.Phase.{Phase}
use Rattle.tables.specs.declared.line.Line.{Line}
use Rattle.tables.specs.declared.line.Line.TheVariants.{Invalid, Modified, Shared, UpdateOnly}
use Rattle.tables.specs.declared.request.Request.{Request}
use Rattle.tables.specs.declared.request.Request.TheVariants.{Read, Update, Write}
use Rattle.model.proofs.Basics.{Owns, lookup_applied_other, lookup_applied_same, lookup_set_other, lookup_set_same, one_owner, put_other, put_same, set_all}
use Rattle.model.proofs.Coherence.{Apart, Good, Pair, Values, Within, not_both, not_owned, not_owned', owned, quiet_value, values_set}
use Rattle.model.proofs.Sums.{part, pend, pend_none, pend_same, pend_split}
use Rattle.model.specs.Bench.{answer_to, granted_line, hit_line, lookup, sent_home, value_in}
use Rattle.model.specs.Reference.{noted, put, written}
use Rattle.tables.specs.declared.entry.Phase.TheVariants as phase
use Rattle.party_set.proofs.Searches.{no_some, some_same}

pub of_same : (a b : ℕ) → b ≡ a → eqb b a ≡ true
of_same a b e = eq-eqb b a e

pub part_other : {V P : Type 0} (o : Algebra V P) (a : ℕ) (l : Line V P) → is_of a l ≡ false → part o a l ≡ o.neutral
part_other o a Invalid h = refl
part_other o a (Shared b v) h = refl
part_other o a (UpdateOnly b d) h = rw h
part_other o a (Modified b v) h = refl

pub owned_other : {V P : Type 0} (a : ℕ) (l : Line V P) → is_of a l ≡ false → owned a l ≡ false
owned_other a Invalid h = refl
owned_other a (Shared b v) h = refl
owned_other a (UpdateOnly b d) h = refl
owned_other a (Modified b v) h = h

pub is_of_unheld : {V P : Type 0} (a : ℕ) (l : Line V P) → is_held l ≡ false → is_of a l ≡ false
is_of_unheld a Invalid h = refl
is_of_unheld a (Shared b v) h = absurd (both_ways true h refl)
is_of_unheld a (UpdateOnly b d) h = absurd (both_ways true h refl)
is_of_unheld a (Modified b v) h = absurd (both_ways true h refl)

-- beside a line of the cell that is Shared or Update-only no other is Modified; beside one that is Shared or Modified none holds a partial
pub beside_owned : {V P : Type 0} (w i j a : ℕ) (l m : Line V P) → Pair w i j l m → is_of a l ≡ true → owned a m ≡ false
beside_owned w i j a l Invalid h e = refl
beside_owned w i j a l (Shared b v) h e = refl
beside_owned w i j a l (UpdateOnly b d) h e = refl
beside_owned w i j a l (Modified b v) h e =
    ⊎_elim (λ (t : eqb b a ≡ true). let x = h a e t in absurd (x.1 x.0)) (λ t. t) (cases_Bool (eqb b a))

pub beside_part : {V P : Type 0} (o : Algebra V P) (w i j a : ℕ) (l m : Line V P) → Pair w i j l m → is_of a l ≡ true → (phase_of l ≡ phase.UpdateOnly → ⊥) → part o a m ≡ o.neutral
beside_part o w i j a l Invalid h e f = refl
beside_part o w i j a l (Shared b v) h e f = refl
beside_part o w i j a l (UpdateOnly b d) h e f =
    ⊎_elim (λ (t : eqb b a ≡ true). absurd (f (h a e t).0)) (λ (t : eqb b a ≡ false). part_other o a (UpdateOnly b d) t) (cases_Bool (eqb b a))
beside_part o w i j a l (Modified b v) h e f = refl

pub through_twice : {V P : Type 0} (o : Algebra V P) → Lawful o → (x y : P) (u : Option V) → option_map (λ v. o.act v y) (option_map (λ v. o.act v x) u) ≡ option_map (λ v. o.act v (o.join x y)) u
through_twice o law x y None = refl
through_twice o law x y (Some v) = ap Some (law.twice v x y)

module _ {V P : Type 0} (o : Algebra V P) (law : Lawful o) (w n : ℕ) (ls : List (Line V P)) (apart : Apart w ls) (within : Within n ls) (home : List V) (value : ℕ → Option V) (vals : Values o ls home value) (i : ℕ) (short : i < length ls) (big : n ≤ length home) where
  -- the value at a line, by its case
  good_at : (l : Line V P) → get_or ls i Invalid ≡ l → Good home value l
  good_at l e = subst (λ z. Good home value z) e (vals.good i)

  pair_at : (l : Line V P) → get_or ls i Invalid ≡ l → (j : ℕ) → (j ≡ i → ⊥) → Pair w i j l (get_or ls j Invalid)
  pair_at l e j m = subst (λ z. Pair w i j z (get_or ls j Invalid)) e (apart i j (λ t. m (sym t)))

  -- everywhere, from the line itself and the others
  each : (Q : Line V P → Type 0) → Q (get_or ls i Invalid) → ((j : ℕ) → (j ≡ i → ⊥) → Q (get_or ls j Invalid)) → (j : ℕ) → Q (get_or ls j Invalid)
  each Q here there j = ⊎_elim (λ (e : j ≡ i). subst (λ t. Q (get_or ls t Invalid)) (sym e) here) (λ (m : j ≡ i → ⊥). there j m) (cases_eq j i)

  send_good : (l m : Line V P) (j : ℕ) → Pair w i j l m → Good home value m → Good (sent_home o home l) value m
  send_good l Invalid j p g = tt
  send_good Invalid (Shared b v) j p g = g
  send_good (Shared c u) (Shared b v) j p g = g
  send_good (UpdateOnly c d) (Shared b v) j p g =
      lookup_applied_other o home c b d (λ (e : b ≡ c). not_both (sym (p b (of_same b c (sym e)) (of_same b b refl)).0)) ∙ g
  send_good (Modified c u) (Shared b v) j p g =
      lookup_set_other home c b u (λ (e : b ≡ c). not_owned (sym (p b (of_same b c (sym e)) (of_same b b refl)).0)) ∙ g
  send_good l (UpdateOnly b d) j p g = g
  send_good l (Modified b v) j p g = g

  -- the sum at a cell on which the line has no say
  send_quiet : (l : Line V P) → get_or ls i Invalid ≡ l → (a : ℕ) → owned a l ≡ false → part o a l ≡ o.neutral → lookup (sent_home o home l) a ≡ lookup home a
      → ((j : ℕ) → (j ≡ i → ⊥) → owned a (get_or ls j Invalid) ≡ false)
      → value a ≡ option_map (λ v. o.act v (pend o a (set ls i Invalid))) (lookup (sent_home o home l) a)
  send_quiet l e a f p h none =
      vals.sums a (each (λ z. owned a z ≡ false) (ap (owned a) e ∙ f) none)
      ∙ ap (λ y. option_map (λ v. o.act v y) (lookup home a)) (sym (pend_same o law a ls i Invalid short (ap (part o a) e ∙ p)))
      ∙ ap (option_map (λ v. o.act v (pend o a (set ls i Invalid)))) (sym h)

  send_sums : (l : Line V P) → get_or ls i Invalid ≡ l → (a : ℕ)
      → ((j : ℕ) → (j ≡ i → ⊥) → owned a (get_or ls j Invalid) ≡ false)
      → value a ≡ option_map (λ v. o.act v (pend o a (set ls i Invalid))) (lookup (sent_home o home l) a)
  send_sums Invalid e a none = send_quiet Invalid e a refl refl refl none
  send_sums (Shared b v) e a none = send_quiet (Shared b v) e a refl refl refl none
  send_sums (UpdateOnly b d) e a none = go (cases_Bool (eqb b a))
    where
      go : (eqb b a ≡ true) ⊎ (eqb b a ≡ false) → value a ≡ option_map (λ v. o.act v (pend o a (set ls i Invalid))) (lookup (applied o home b d) a)
      go (inl t) =
          let ba : b ≡ a = eqb-true b a t in
          let sum : pend o a ls ≡ o.join d (pend o a (set ls i Invalid)) = pend_split o law a ls i short ∙ ap (λ y. o.join y (pend o a (set ls i Invalid))) (ap (part o a) e ∙ rw t) in
          vals.sums a (each (λ z. owned a z ≡ false) (ap (owned a) e) none)
          ∙ ap (λ y. option_map (λ v. o.act v y) (lookup home a)) sum
          ∙ sym (through_twice o law d (pend o a (set ls i Invalid)) (lookup home a))
          ∙ ap (option_map (λ v. o.act v (pend o a (set ls i Invalid)))) (subst (λ t. option_map (λ v. o.act v d) (lookup home t) ≡ lookup (applied o home b d) t) ba (sym (lookup_applied_same o home b d)))
      go (inr t) = send_quiet (UpdateOnly b d) e a refl (part_other o a (UpdateOnly b d) t) (lookup_applied_other o home b a d (λ (z : a ≡ b). eqb-false b a t (sym z))) none
  send_sums (Modified b u) e a none = go (cases_Bool (eqb b a))
    where
      go : (eqb b a ≡ true) ⊎ (eqb b a ≡ false) → value a ≡ option_map (λ v. o.act v (pend o a (set ls i Invalid))) (lookup (set home b u) a)
      go (inl t) =
          let ba : b ≡ a = eqb-true b a t in
          let g : value b ≡ Some u = good_at (Modified b u) e in
          let low : b < n = subst (λ z. is_held z ≡ true → cell_of z < n) e (within i) refl in
          let parts : (j : ℕ) → part o a (get_or (set ls i Invalid) j Invalid) ≡ o.neutral = set_all (λ j z. part o a z ≡ o.neutral) ls i Invalid Invalid short refl (λ j m. beside_part o w i j a (Modified b u) (get_or ls j Invalid) (pair_at (Modified b u) e j m) t (λ f. not_owned' (sym f))) in
          let home-a : lookup (set home b u) a ≡ Some u = subst (λ t. lookup (set home b u) t ≡ Some u) ba (lookup_set_same home b u (omega arith)) in
          subst (λ t. value t ≡ Some u) ba g
          ∙ ap Some (sym (law.still u))
          ∙ ap (λ y. option_map (λ v. o.act v y) (Some u)) (sym (pend_none o law a (set ls i Invalid) parts))
          ∙ ap (option_map (λ v. o.act v (pend o a (set ls i Invalid)))) (sym home-a)
      go (inr t) = send_quiet (Modified b u) e a t refl (lookup_set_other home b a u (λ (z : a ≡ b). eqb-false b a t (sym z))) none

  pub values_send : Values o (set ls i Invalid) (sent_home o home (get_or ls i Invalid)) value
  values_send = record {
    good = set_all (λ j l. Good (sent_home o home (get_or ls i Invalid)) value l) ls i Invalid Invalid short tt (λ j m. send_good (get_or ls i Invalid) (get_or ls j Invalid) j (apart i j (λ t. m (sym t))) (vals.good j));
    sums = λ a none. send_sums (get_or ls i Invalid) refl a (λ j m. subst (λ l. owned a l ≡ false) (get_or-set_other ls i j Invalid Invalid m) (none j));
  }

  -- a hit on a Modified line
  hit_owned : (b : ℕ) (v u : V) → get_or ls i Invalid ≡ Modified b v → Values o (set ls i (Modified b u)) home (put value b (Some u))
  hit_owned b v u e =
      values_set o law ls home value vals i short (Modified b u) b (put value b (Some u))
      (put_same value b (Some u))
      (λ j m. beside_owned w i j b (Modified b v) (get_or ls j Invalid) (pair_at (Modified b v) e j m) (of_same b b refl))
      (λ c m. put_other value b (Some u) c m)
      (λ c m. ap (part o c) e)
      (λ c m. ap (owned c) e)
      (λ f. absurd (both_ways (eqb b b) f (of_same b b refl)))

  hit_update : (b : ℕ) (d e : P) → get_or ls i Invalid ≡ UpdateOnly b d → Values o (set ls i (UpdateOnly b (o.join d e))) home (put value b (option_map (λ v. o.act v e) (value b)))
  hit_update b d e q =
      values_set o law ls home value vals i short (UpdateOnly b (o.join d e)) b (put value b (option_map (λ v. o.act v e) (value b)))
      tt
      alone
      (λ c m. put_other value b (option_map (λ v. o.act v e) (value b)) c m)
      (λ c m. ap (part o c) q ∙ off c d (λ t. m (sym t)) ∙ sym (off c (o.join d e) (λ t. m (sym t))))
      (λ c m. ap (owned c) q)
      (λ _. put_same value b (option_map (λ v. o.act v e) (value b)) ∙ sum)
    where
      rest : P
      rest = pend o b (set ls i Invalid)

      upd : P → Line V P
      upd x = UpdateOnly b x

      off : (c : ℕ) (x : P) → (b ≡ c → ⊥) → part o c (upd x) ≡ o.neutral
      off c x m = part_other o c (UpdateOnly b x) (ne_eqb b c m)

      on : (x : P) → part o b (upd x) ≡ x
      on x = rw (of_same b b refl)

      alone : (j : ℕ) → (j ≡ i → ⊥) → owned b (get_or ls j Invalid) ≡ false
      alone j m = beside_owned w i j b (UpdateOnly b d) (get_or ls j Invalid) (pair_at (UpdateOnly b d) q j m) (of_same b b refl)

      sum : option_map (λ v. o.act v e) (value b) ≡ option_map (λ v. o.act v (o.join (part o b (upd (o.join d e))) rest)) (lookup home b)
      sum =
          ap (option_map (λ v. o.act v e)) (vals.sums b (each (λ z. owned b z ≡ false) (ap (owned b) q) alone))
          ∙ through_twice o law (pend o b ls) e (lookup home b)
          ∙ ap (λ y. option_map (λ v. o.act v y) (lookup home b))
          (ap (λ y. o.join y e) (pend_split o law b ls i short ∙ ap (λ y. o.join y rest) (ap (part o b) q ∙ on d))
          ∙ sym (law.assoc d rest e) ∙ ap (o.join d) (law.comm rest e) ∙ law.assoc d e rest
          ∙ ap (λ y. o.join y rest) (sym (on (o.join d e))))

  hit_case : (r : Request V P) (l : Line V P) → get_or ls i Invalid ≡ l → hits r l ≡ true
      → Values o (set ls i (hit_line o r l)) home (written o.act r value) × (answer_to r (value_in l) ≡ noted r value)
  hit_case (Read a) Invalid e h = absurd (no h)
  hit_case (Read a) (Shared b v) e h = (
    subst (λ z. Values o z home value) (sym (set-get_or ls i Invalid) ∙ ap (set ls i) e) vals,
    let ba : b ≡ a = eqb-true b a h in
        subst (λ t. Some v ≡ value t) ba (sym (good_at (Shared b v) e) ∙ sym (quiet_value o law ls home value vals i short b
        (each (λ z. owned b z ≡ false) (ap (owned b) e) (λ j m. beside_owned w i j b (Shared b v) (get_or ls j Invalid) (pair_at (Shared b v) e j m) (of_same b b refl)))
        (each (λ z. part o b z ≡ o.neutral) (ap (part o b) e) (λ j m. beside_part o w i j b (Shared b v) (get_or ls j Invalid) (pair_at (Shared b v) e j m) (of_same b b refl) not_both)))),
  )
  hit_case (Read a) (UpdateOnly b d) e h = absurd (no h)
  hit_case (Read a) (Modified b v) e h = (
    subst (λ z. Values o z home value) (sym (set-get_or ls i Invalid) ∙ ap (set ls i) e) vals,
    subst (λ t. Some v ≡ value t) (eqb-true b a h) (sym (good_at (Modified b v) e)),
  )
  hit_case (Write a u) Invalid e h = absurd (no h)
  hit_case (Write a u) (Shared b v) e h = absurd (no h)
  hit_case (Write a u) (UpdateOnly b d) e h = absurd (no h)
  hit_case (Write a u) (Modified b v) e h =
      (subst (λ t. Values o (set ls i (Modified b u)) home (put value t (Some u))) (eqb-true b a h) (hit_owned b v u e), refl)
  hit_case (Update a x) Invalid e h = absurd (no h)
  hit_case (Update a x) (Shared b v) e h = absurd (no h)
  hit_case (Update a x) (UpdateOnly b d) e h =
      (subst (λ t. Values o (set ls i (UpdateOnly b (o.join d x))) home (put value t (option_map (λ v. o.act v x) (value t)))) (eqb-true b a h) (hit_update b d x e), refl)
  hit_case (Update a x) (Modified b v) e h = (
    subst (λ t. Values o (set ls i (Modified b (o.act v x))) home (put value t (option_map (λ v. o.act v x) (value t)))) (eqb-true b a h)
        (subst (λ y. Values o (set ls i (Modified b (o.act v x))) home (put value b (option_map (λ v. o.act v x) y))) (sym (good_at (Modified b v) e)) (hit_owned b v (o.act v x) e)),
    refl,
  )

  pub values_hit : (r : Request V P) → hits r (get_or ls i Invalid) ≡ true
      → Values o (set ls i (hit_line o r (get_or ls i Invalid))) home (written o.act r value) × (answer_to r (value_in (get_or ls i Invalid)) ≡ noted r value)
  values_hit r h = hit_case r (get_or ls i Invalid) refl h

-- a line of the cell that neither hits nor conflicts there is not
pub covered : {V P : Type 0} (r : Request V P) (m : Line V P) → hits r m ≡ false → conflicts r m ≡ false → is_of (target r) m ≡ false
covered (Read a) Invalid h c = refl
covered (Read a) (Shared b v) h c = h
covered (Read a) (UpdateOnly b d) h c = c
covered (Read a) (Modified b v) h c = h
covered (Write a u) Invalid h c = refl
covered (Write a u) (Shared b v) h c = c
covered (Write a u) (UpdateOnly b d) h c = c
covered (Write a u) (Modified b v) h c = h
covered (Update a e) Invalid h c = refl
covered (Update a e) (Shared b v) h c = c
covered (Update a e) (UpdateOnly b d) h c = h
covered (Update a e) (Modified b v) h c = h

abbrev pub wanted : {V P : Type 0} → Request V P → Phase
wanted (Read a) = phase.Shared
wanted (Write a u) = phase.Modified
wanted (Update a e) = phase.UpdateOnly

-- a line of the cell that does not conflict is of the kind wanted
pub agrees : {V P : Type 0} (r : Request V P) (m : Line V P) → conflicts r m ≡ false → is_of (target r) m ≡ true → (wanted r ≡ phase_of m) × (wanted r ≡ phase.Modified → ⊥)
agrees (Read a) Invalid c t = absurd (no t)
agrees (Read a) (Shared b v) c t = (refl, not_owned)
agrees (Read a) (UpdateOnly b d) c t = absurd (both_ways _ c t)
agrees (Read a) (Modified b v) c t = absurd (both_ways _ c t)
agrees (Write a u) Invalid c t = absurd (no t)
agrees (Write a u) (Shared b v) c t = absurd (both_ways _ c t)
agrees (Write a u) (UpdateOnly b d) c t = absurd (both_ways _ c t)
agrees (Write a u) (Modified b v) c t = absurd (both_ways _ c t)
agrees (Update a e) Invalid c t = absurd (no t)
agrees (Update a e) (Shared b v) c t = absurd (both_ways _ c t)
agrees (Update a e) (UpdateOnly b d) c t = (refl, not_owned')
agrees (Update a e) (Modified b v) c t = absurd (both_ways _ c t)

pub free_owned : {V P : Type 0} (r : Request V P) (m : Line V P) → conflicts r m ≡ false → owned (target r) m ≡ false
free_owned r Invalid c = refl
free_owned r (Shared b v) c = refl
free_owned r (UpdateOnly b d) c = refl
free_owned (Read a) (Modified b v) c = c
free_owned (Write a u) (Modified b v) c = c
free_owned (Update a e) (Modified b v) c = c

pub free_part : {V P : Type 0} (o : Algebra V P) (a : ℕ) (m : Line V P) → conflicts (Read a) m ≡ false → part o a m ≡ o.neutral
free_part o a Invalid c = refl
free_part o a (Shared b v) c = refl
free_part o a (UpdateOnly b d) c = part_other o a (UpdateOnly b d) c
free_part o a (Modified b v) c = refl

pub part_unheld : {V P : Type 0} (o : Algebra V P) (a : ℕ) (m : Line V P) → is_held m ≡ false → part o a m ≡ o.neutral
part_unheld o a m h = part_other o a m (is_of_unheld a m h)

pub owned_unheld : {V P : Type 0} (a : ℕ) (m : Line V P) → is_held m ≡ false → owned a m ≡ false
owned_unheld a m h = owned_other a m (is_of_unheld a m h)

-- a granted line beside those that neither conflict with the request nor are its party's own
module _ {V P : Type 0} (w : ℕ) (ls : List (Line V P)) (i : ℕ) (q : ℕ) (mine : Owns w q i) (r : Request V P)
    (calm : (j : ℕ) → conflicts r (get_or ls j Invalid) ≡ false) (miss : (j : ℕ) → Owns w q j → hits r (get_or ls j Invalid) ≡ false) where
  pub new_pair : (x : Line V P) → wanted r ≡ phase_of x → ((c : ℕ) → is_of c x ≡ true → target r ≡ c) → (j : ℕ) → (j ≡ i → ⊥) → Pair w i j x (get_or ls j Invalid)
  new_pair x e f j m c s t =
      let t' : is_of (target r) (get_or ls j Invalid) ≡ true = subst (λ z. is_of z (get_or ls j Invalid) ≡ true) (sym (f c s)) t in
      let y = agrees r (get_or ls j Invalid) (calm j) t' in
      (sym e ∙ y.0, λ z. y.1 (e ∙ z), λ p u v. both_ways _ (covered r (get_or ls j Invalid) (miss j (subst (λ z. Owns w z j) (one_owner w p q i u mine) v)) (calm j)) t')

module _ {V P : Type 0} (o : Algebra V P) (law : Lawful o) (ls : List (Line V P)) (home : List V) (value : ℕ → Option V) (vals : Values o ls home value) (i : ℕ) (short : i < length ls)
    (room : is_held (get_or ls i Invalid) ≡ false) (r : Request V P) (calm : (j : ℕ) → conflicts r (get_or ls j Invalid) ≡ false) where
  alone : (j : ℕ) → (j ≡ i → ⊥) → owned (target r) (get_or ls j Invalid) ≡ false
  alone j m = free_owned r (get_or ls j Invalid) (calm j)

  grant_read : (a : ℕ) (v : V) → r ≡ Read a → lookup home a ≡ Some v → Values o (set ls i (Shared a v)) home value × (Some v ≡ value a)
  grant_read a v e h = (
    values_set o law ls home value vals i short (Shared a v) (target r) value
        h alone (λ c m. refl)
        (λ c m. part_unheld o c (get_or ls i Invalid) room) (λ c m. owned_unheld c (get_or ls i Invalid) room)
        (λ _. vals.sums (target r) none ∙ ap (λ y. option_map (λ v. o.act v y) (lookup home (target r))) (pend_split o law (target r) ls i short ∙ ap (λ y. o.join y (pend o (target r) (set ls i Invalid))) (part_unheld o (target r) (get_or ls i Invalid) room))),
    sym (subst (λ t. value t ≡ lookup home t) (ap target e) (quiet_value o law ls home value vals i short (target r) none parts) ∙ h),
  )
    where
      none : (j : ℕ) → owned (target r) (get_or ls j Invalid) ≡ false
      none j = free_owned r (get_or ls j Invalid) (calm j)

      parts : (j : ℕ) → part o (target r) (get_or ls j Invalid) ≡ o.neutral
      parts j = subst (λ t. part o t (get_or ls j Invalid) ≡ o.neutral) (sym (ap target e)) (free_part o a (get_or ls j Invalid) (subst (λ z. conflicts z (get_or ls j Invalid) ≡ false) e (calm j)))

  grant_write : (a : ℕ) (u : V) → r ≡ Write a u → Values o (set ls i (Modified a u)) home (put value a (Some u))
  grant_write a u e =
      values_set o law ls home value vals i short (Modified a u) a (put value a (Some u))
      (put_same value a (Some u))
      (λ j m. subst (λ t. owned t (get_or ls j Invalid) ≡ false) (ap target e) (alone j m))
      (λ c m. put_other value a (Some u) c m)
      (λ c m. part_unheld o c (get_or ls i Invalid) room)
      (λ c m. owned_unheld c (get_or ls i Invalid) room ∙ sym (ne_eqb a c (λ z. m (sym z))))
      (λ f. absurd (both_ways (eqb a a) f (of_same a a refl)))

  grant_update : (a : ℕ) (d : P) → r ≡ Update a d → Values o (set ls i (UpdateOnly a (o.join o.neutral d))) home (put value a (option_map (λ v. o.act v d) (value a)))
  grant_update a d e =
      values_set o law ls home value vals i short (upd d') a (put value a (option_map (λ v. o.act v d) (value a)))
      tt
      (λ j m. none j)
      (λ c m. put_other value a (option_map (λ v. o.act v d) (value a)) c m)
      (λ c m. part_unheld o c (get_or ls i Invalid) room ∙ sym (part_other o c (upd d') (ne_eqb a c (λ z. m (sym z)))))
      (λ c m. owned_unheld c (get_or ls i Invalid) room)
      (λ _. put_same value a (option_map (λ v. o.act v d) (value a)) ∙ sum)
    where
      d' : P
      d' = o.join o.neutral d

      upd : P → Line V P
      upd x = UpdateOnly a x

      rest : P
      rest = pend o a (set ls i Invalid)

      none : (j : ℕ) → owned a (get_or ls j Invalid) ≡ false
      none j = subst (λ t. owned t (get_or ls j Invalid) ≡ false) (ap target e) (free_owned r (get_or ls j Invalid) (calm j))

      sum : option_map (λ v. o.act v d) (value a) ≡ option_map (λ v. o.act v (o.join (part o a (upd d')) rest)) (lookup home a)
      sum =
          ap (option_map (λ v. o.act v d)) (vals.sums a none)
          ∙ through_twice o law (pend o a ls) d (lookup home a)
          ∙ ap (λ y. option_map (λ v. o.act v y) (lookup home a))
          (ap (λ y. o.join y d) (pend_split o law a ls i short ∙ ap (λ y. o.join y rest) (part_unheld o a (get_or ls i Invalid) room) ∙ law.unit rest)
          ∙ law.comm rest d
          ∙ ap (λ y. o.join y rest) (sym (law.unit d) ∙ sym (on d')))
        where
          on : (x : P) → part o a (upd x) ≡ x
          on x = rw (of_same a a refl)

  grant_case : (r' : Request V P) (u : Option V) (x : Line V P) → r ≡ r' → lookup home (target r') ≡ u → granted_line o r' u ≡ Some x → Values o (set ls i x) home (written o.act r' value) × (answer_to r' (value_in x) ≡ noted r' value)
  grant_case (Read a) None x e h g = absurd (no_some g)
  grant_case (Read a) (Some v) x e h g = subst (λ z. Values o (set ls i z) home value × (value_in z ≡ value a)) (some_same g) (grant_read a v e h)
  grant_case (Write a z) u x e h g = (subst (λ y. Values o (set ls i y) home (put value a (Some z))) (some_same g) (grant_write a z e), refl)
  grant_case (Update a d) u x e h g = (subst (λ y. Values o (set ls i y) home (put value a (option_map (λ v. o.act v d) (value a)))) (some_same g) (grant_update a d e), refl)

  pub values_grant : (x : Line V P) → granted_line o r (lookup home (target r)) ≡ Some x → Values o (set ls i x) home (written o.act r value) × (answer_to r (value_in x) ≡ noted r value)
  values_grant x g = grant_case r (lookup home (target r)) x refl refl g
