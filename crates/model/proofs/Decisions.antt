-- What an advance decides on legal tables, and that performing it is the step
use Rattle.std.proofs.Common.{◌≡◌, ℕ, suc, ◌+◌, ◌*◌, ◌/◌, ◌<◌, ◌≤◌, Bool, true, false, not, ◌&&◌, eqb, ◌⊎◌, Some, None, Option, sym, refl, ap, ◌∙◌, subst, inl, inr, ⊎_elim, mul-le-mul_right, suc-mul, arith}
use Rattle.std.proofs.lemmas.Bool.{cases_Bool, cases_lt, eqb-true, not-true, not-false, both_ways, and_from}
use Rattle.std.proofs.lemmas.List.{get_or_past}
use Rattle.tables.specs.declared.line.Line.{Line}
use Rattle.tables.specs.declared.line.Line.TheVariants.{Invalid, Shared, UpdateOnly, Modified}
use Rattle.tables.specs.declared.request.Request.{Request}
use Rattle.tables.specs.declared.request.Request.TheVariants.{Read, Write, Update}
use Rattle.tables.specs.declared.register.Register.{Register}
use Rattle.tables.specs.declared.register.Register.TheVariants.{Empty, Waiting, Answered}
use Rattle.party_set.specs.Sets.{has, lowest}
use Rattle.party_set.specs.Searches.{first}
use Rattle.tables.specs.Lines.{target, is_held, is_of, phase_of, conflicts, clashes, waits_for}
use Rattle.tables.proofs.Tests.{no}
use Rattle.party_set.proofs.Searches.{first_some, first_none}
use Rattle.party_set.proofs.Holders.{lowest_some, lowest_none}
use Rattle.model.specs.declared.next.Next.{Next}
use Rattle.model.specs.declared.next.Next.TheVariants as next
use Rattle.model.specs.Bench.{Bench, State, line, register, entry}
use Rattle.model.specs.Steps.{conflict, vacant, own_line, whose, advance_for}
use Rattle.model.specs.Decisions.{next_of_room, next_of_request, next_of_served, next_of_turn, performed}
use Rattle.model.specs.Decisions as spec
use Rattle.model.proofs.Basics.{Owns, owner_below}
use Rattle.model.proofs.Tabled.{Tabled}
use Rattle.model.proofs.Kept.{whose_waits, conflicts_held}

and_true : (x : Bool) → x ≡ (x && true)
and_true true = refl
and_true false = refl

and_false : (x : Bool) → false ≡ (x && false)
and_false true = refl
and_false false = refl

-- a line conflicts with a request if it is of its cell and its phase clashes
pub conflicts_clash : {V P : Type 0} (r : Request V P) (l : Line V P) → conflicts r l ≡ (is_of (target r) l && clashes r (phase_of l))
conflicts_clash (Read a) Invalid = refl
conflicts_clash (Read a) (Shared b v) = and_false (eqb b a)
conflicts_clash (Read a) (UpdateOnly b d) = and_true (eqb b a)
conflicts_clash (Read a) (Modified b v) = and_true (eqb b a)
conflicts_clash (Write a u) Invalid = refl
conflicts_clash (Write a u) (Shared b v) = and_true (eqb b a)
conflicts_clash (Write a u) (UpdateOnly b d) = and_true (eqb b a)
conflicts_clash (Write a u) (Modified b v) = and_true (eqb b a)
conflicts_clash (Update a e) Invalid = refl
conflicts_clash (Update a e) (Shared b v) = and_true (eqb b a)
conflicts_clash (Update a e) (UpdateOnly b d) = and_false (eqb b a)
conflicts_clash (Update a e) (Modified b v) = and_true (eqb b a)

-- a search ends where nothing passes, and at the first that passes
first_nothing : (t : ℕ → Bool) (k n : ℕ) → ((j : ℕ) → k ≤ j → j < k + n → t j ≡ false) → first t k n ≡ None
first_nothing t k n none = go (first t k n) refl
  where
    go : (x : Option ℕ) → first t k n ≡ x → x ≡ None
    go None e = refl
    go (Some i) e = let f = first_some t k n i e in absurd (both_ways _ (none i f.0 f.1) f.2)

first_at : (t : ℕ → Bool) (k n i : ℕ) → k ≤ i → i < k + n → t i ≡ true → ((j : ℕ) → k ≤ j → j < i → t j ≡ false) → first t k n ≡ Some i
first_at t k n i low high here before = go (first t k n) refl
  where
    same : (j : ℕ) → (k ≤ j) × (j < k + n) × (t j ≡ true) × ((m : ℕ) → k ≤ m → m < j → t m ≡ false) → j ≡ i
    same j f = ⊎_elim (λ (l : j < i). absurd (both_ways _ (before j f.0 l) f.2))
        (λ (l : i ≤ j). ⊎_elim (λ (m : i < j). absurd (both_ways _ (f.3 i low m) here)) (λ (m : j ≤ i). omega arith) (cases_lt i j)) (cases_lt j i)

    go : (x : Option ℕ) → first t k n ≡ x → x ≡ Some i
    go None e = absurd (both_ways _ (first_none t k n e i low high) here)
    go (Some j) e = ap Some (same j (first_some t k n j e))

module _ {V P R : Type 0} (k : Bench V P R) (s : State V P R) where
  abbrev room_next : ℕ → Request V P → Option ℕ → Next V P
  room_next = next_of_room k.parties k.ways s.lines s.directory s.registers

  abbrev request_next : ℕ → Request V P → Option ℕ → Next V P
  request_next = next_of_request k.parties k.ways s.lines s.directory s.registers

  abbrev served_next : ℕ → Register V P → Next V P
  served_next = next_of_served k.parties k.ways s.lines s.directory s.registers

  abbrev turn_next : Option ℕ → Next V P
  turn_next = next_of_turn k.parties k.ways s.lines s.directory s.registers

  abbrev pub decided : ℕ → Next V P
  decided = spec.decided k.parties k.ways s.lines s.directory s.registers

module _ {V P R : Type 0} (k : Bench V P R) (s : State V P R) (ok : Tabled k s) where
  -- the lowest party with a conflicting line is the lowest holder, if the phase clashes: the directory tells it
  abbrev pub by_directory : Request V P → Bool → Option ℕ → Option ℕ
  by_directory r false q = None
  by_directory r true None = None
  by_directory r true (Some q) = own_line k s q (target r)

  clash_at : (r : Request V P) (j : ℕ) → conflicts r (line s j) ≡ true → (is_of (target r) (line s j) ≡ true) × (clashes r (entry s (target r)).phase ≡ true)
  clash_at r j h = go (is_of (target r) (line s j)) refl (clashes r (phase_of (line s j))) refl (sym (conflicts_clash r (line s j)) ∙ h)
    where
      go : (x : Bool) → is_of (target r) (line s j) ≡ x → (y : Bool) → clashes r (phase_of (line s j)) ≡ y → (x && y) ≡ true → (x ≡ true) × (clashes r (entry s (target r)).phase ≡ true)
      go true e true f z = (refl, ap (clashes r) (sym ((ok.listed (target r)).phased j e)) ∙ f)
      go true e false f z = absurd (no z)
      go false e true f z = absurd (no z)
      go false e false f z = absurd (no z)

  conflict_at : (r : Request V P) (j : ℕ) → is_of (target r) (line s j) ≡ true → clashes r (entry s (target r)).phase ≡ true → conflicts r (line s j) ≡ true
  conflict_at r j h c = conflicts_clash r (line s j) ∙ and_from _ _ h (ap (clashes r) ((ok.listed (target r)).phased j h) ∙ c)

  pub below : (i q : ℕ) → Owns k.ways q i → i < k.parties * k.ways → q < k.parties
  below i q o l = ⊎_elim (λ z. z) (λ (z : k.parties ≤ q). absurd (let m : k.parties * k.ways ≤ q * k.ways = mul-le-mul_right k.ways z in omega (arith, o.0))) (cases_lt q k.parties)

  in_table : (a i : ℕ) → is_of a (line s i) ≡ true → i < k.parties * k.ways
  in_table a i h = ⊎_elim (λ z. z) (λ (z : k.parties * k.ways ≤ i). absurd (no (sym (ap (is_of a) (get_or_past s.lines i Invalid (omega (arith, ok.lines_length)))) ∙ h))) (cases_lt i (k.parties * k.ways))

  holder_low : (a q : ℕ) → has (entry s a).holders q ≡ true → q < 16
  holder_low a q h = let t = (ok.listed a).from q h in omega (arith, below t.0 q t.1 (in_table a t.0 t.2), ok.limits.parties_high)

  pub conflict_found : (r : Request V P) → by_directory r (clashes r (entry s (target r)).phase) (lowest (entry s (target r)).holders) ≡ conflict k s r
  conflict_found r = go (clashes r (entry s (target r)).phase) refl (lowest (entry s (target r)).holders) refl
    where
      a : ℕ
      a = target r

      n : ℕ
      n = k.parties * k.ways

      test : ℕ → Bool
      test i = conflicts r (line s i)

      -- the lowest holder's line is the first of the cell
      at_own : (q i : ℕ) → lowest (entry s a).holders ≡ Some q → clashes r (entry s a).phase ≡ true → own_line k s q a ≡ Some i → first test 0 n ≡ Some i
      at_own q i e c own =
          let f = first_some (λ i. is_of a (line s i)) (q * k.ways) k.ways i own in
          let l = lowest_some (entry s a).holders q e in
          first_at test 0 n i (omega arith) (omega (arith, in_table a i f.2)) (conflict_at r i f.2 c)
          (λ j _ lt. not-before q i (f.0, f.1) f.2 l.1 j lt (cases_Bool (test j)))
        where
          not-before : (q i : ℕ) → Owns k.ways q i → is_of a (line s i) ≡ true → ((p : ℕ) → p < q → has (entry s a).holders p ≡ false) → (j : ℕ) → j < i → (test j ≡ true) ⊎ (test j ≡ false) → test j ≡ false
          not-before q i o h lower j lt (inr t) = t
          not-before q i o h lower j lt (inl t) =
              let of-j = (clash_at r j t).0 in
              let p : ℕ = j / k.ways in
              let mine = Rattle.model.proofs.Directory.owns_div k.ways j ok.limits.ways_low in
              ⊎_elim
              (λ (z : p < q). absurd (both_ways _ (lower p z) ((ok.listed a).into p j mine of-j)))
              (λ (z : q ≤ p). ⊎_elim
              (λ (y : q < p). absurd (let m : suc q * k.ways ≤ p * k.ways = mul-le-mul_right k.ways y in omega (arith, suc-mul q k.ways, o.1, mine.0)))
              (λ (y : p ≤ q). absurd (let e : p ≡ q = omega arith in (ok.apart j i (λ w. absurd (omega arith)) a of-j h).2 q (subst (λ w. Owns k.ways w j) e mine) o))
              (cases_lt q p))
              (cases_lt p q)

      own : (q : ℕ) → lowest (entry s a).holders ≡ Some q → clashes r (entry s a).phase ≡ true → (x : Option ℕ) → own_line k s q a ≡ x → x ≡ first test 0 n
      own q e c (Some i) h = sym (at_own q i e c h)
      own q e c None h =
          let l = lowest_some (entry s a).holders q e in
          let t = (ok.listed a).from q l.0 in
          absurd (both_ways _ (first_none (λ i. is_of a (line s i)) (q * k.ways) k.ways h t.0 t.1.0 t.1.1) t.2)

      go : (x : Bool) → clashes r (entry s a).phase ≡ x → (y : Option ℕ) → lowest (entry s a).holders ≡ y → by_directory r x y ≡ first test 0 n
      go false c y e = sym (first_nothing test 0 n (λ j _ _. ⊎_elim (λ (t : test j ≡ true). absurd (both_ways _ c (clash_at r j t).1)) (λ t. t) (cases_Bool (test j))))
      go true c None e = sym (first_nothing test 0 n (λ j _ _. ⊎_elim
          (λ (t : test j ≡ true).
          let h = (clash_at r j t).0 in
          let mine = Rattle.model.proofs.Directory.owns_div k.ways j ok.limits.ways_low in
          let has-it = (ok.listed a).into (j / k.ways) j mine h in
          absurd (both_ways _ (lowest_none (entry s a).holders e (j / k.ways) (holder_low a (j / k.ways) has-it)) has-it))
          (λ t. t) (cases_Bool (test j))))
      go true c (Some q) e = own q e c (own_line k s q a) refl

  -- performing what is decided is the advance
  pub performs : (a : ℕ) → performed k s a (decided k s a) ≡ advance_for k (whose k (entry s a).turn s a) s a
  performs a = go (whose k (entry s a).turn s a) refl
    where
      rooms : (q : ℕ) (r : Request V P) (x : Option ℕ) → performed k s a (room_next k s q r x) ≡ Rattle.model.specs.Steps.rooming k x s a q r
      rooms q r None = refl
      rooms q r (Some i) = refl

      recalls : (q : ℕ) (r : Request V P) (x : Option ℕ) → performed k s a (request_next k s q r x) ≡ Rattle.model.specs.Steps.recalling k x s a q r
      recalls q r (Some i) = refl
      recalls q r None = rooms q r (vacant k s q)

      serves : (q : ℕ) (x : Register V P) → waits_for a x ≡ true → performed k s a (served_next k s q x) ≡ Rattle.model.specs.Steps.serving k x s a q
      serves q Empty h = absurd (no h)
      serves q (Waiting r) h = recalls q r (conflict k s r)
      serves q (Answered v) h = absurd (no h)

      go : (x : Option ℕ) → whose k (entry s a).turn s a ≡ x → performed k s a (turn_next k s x) ≡ advance_for k x s a
      go None e = refl
      go (Some q) e = serves q (register s q) (whose_waits k s ok a (entry s a).turn q refl e).1

  -- what is known of the action that is decided
  abbrev pub Apt : ℕ → Next V P → Type 0
  Apt a next.Idle = Unit {0}
  Apt a (next.Recall q i) = (q < k.parties) × (i < k.parties * k.ways) × (is_held (line s i) ≡ true)
  Apt a (next.Evict q) = (q < k.parties) × ((w : ℕ) → w < k.ways → is_held (line s (q * k.ways + w)) ≡ true)
  Apt a (next.Grant q r i) = (q < k.parties) × Owns k.ways q i × (i < k.parties * k.ways) × (is_held (line s i) ≡ false) × (register s q ≡ Waiting r) × (target r ≡ a) × (conflict k s r ≡ None)

  pub apt : (a : ℕ) → Apt a (decided k s a)
  apt a = go (whose k (entry s a).turn s a) refl
    where
      rooms : (q : ℕ) (r : Request V P) → q < k.parties → register s q ≡ Waiting r → target r ≡ a → conflict k s r ≡ None → (x : Option ℕ) → vacant k s q ≡ x → Apt a (room_next k s q r x)
      rooms q r low w same c None e = (low, λ v h. not-false _ (first_none (λ i. not (is_held (line s i))) (q * k.ways) k.ways e (q * k.ways + v) (omega arith) (omega arith)))
      rooms q r low w same c (Some i) e =
          let f = first_some (λ i. not (is_held (line s i))) (q * k.ways) k.ways i e in
          (low, (f.0, f.1), owner_below k.ways q i k.parties low (f.0, f.1), not-true _ f.2, w, same, c)

      recalls : (q : ℕ) (r : Request V P) → q < k.parties → register s q ≡ Waiting r → target r ≡ a → (x : Option ℕ) → conflict k s r ≡ x → Apt a (request_next k s q r x)
      recalls q r low w same (Some i) e =
          let f = first_some (λ i. conflicts r (line s i)) 0 (k.parties * k.ways) i e in
          (low, omega (arith, f.1), conflicts_held r (line s i) f.2)
      recalls q r low w same None e = rooms q r low w same e (vacant k s q) refl

      serves : (q : ℕ) → q < k.parties → (x : Register V P) → register s q ≡ x → waits_for a x ≡ true → Apt a (served_next k s q x)
      serves q low Empty e h = tt
      serves q low (Waiting r) e h = recalls q r low e (eqb-true (target r) a h) (conflict k s r) refl
      serves q low (Answered v) e h = tt

      go : (x : Option ℕ) → whose k (entry s a).turn s a ≡ x → Apt a (turn_next k s x)
      go None e = tt
      go (Some q) e = let u = whose_waits k s ok a (entry s a).turn q refl e in serves q u.0 (register s q) refl u.1
