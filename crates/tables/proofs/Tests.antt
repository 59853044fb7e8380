-- Tests over ranges, implications as tests, phases by their codes, what a line is of, and what misses it
use Rattle.std.proofs.Common.{◌≡◌, ℕ, zero, suc, ◌<◌, Bool, true, false, not, ◌||◌, eqb, ◌⊎◌, sym, refl, ap, subst, inl, inr, ⊎_elim, arith}
use Rattle.std.proofs.lemmas.Bool.{cases_eq, cases_Bool, eqb-true, eq-eqb, ltb-true, lt-ltb, both_ways, not-true, and_from, and_parts, or_cases, or_left, or_right}
use Rattle.std.proofs.lemmas.Bool.Decides.{same_from_decides}
use Rattle.tables.specs.declared.line.Line.{Line}
use Rattle.tables.specs.declared.line.Line.TheVariants.{Invalid, Shared, UpdateOnly, Modified}
use Rattle.tables.specs.declared.request.Request.{Request}
use Rattle.tables.specs.declared.request.Request.TheVariants.{Read, Write, Update}
use Rattle.tables.specs.declared.register.Register.{Register}
use Rattle.tables.specs.declared.register.Register.TheVariants.{Empty, Waiting, Answered}
use Rattle.party_set.specs.declared.PartySet.{PartySet}
use Rattle.tables.specs.declared.entry.Phase.{Phase}
use Rattle.tables.specs.declared.entry.Phase.TheVariants as phase
use Rattle.party_set.specs.Sets.{nobody, is_nobody}
use Rattle.tables.specs.Lines.{target, is_held, cell_of, is_of, hits}
use Rattle.tables.specs.Legal.{every, any, phase_code, same, asks_within, misses}
use Rattle.party_set.proofs.Holders.{set_same}

pub no : false ≡ true → ⊥
no e = both_ways false refl e

pub unless : (b : Bool) → (b ≡ true → ⊥) → b ≡ false
unless b h = ⊎_elim (λ (t : b ≡ true). absurd (h t)) (λ f. f) (cases_Bool b)

pub same_tests : (x y : Bool) → (x ≡ true → y ≡ true) → (y ≡ true → x ≡ true) → x ≡ y
same_tests x y f g = same_from_decides x y (f, g) (λ e. e, λ e. e)

pub every_from : (t : ℕ → Bool) (n : ℕ) → ((i : ℕ) → i < n → t i ≡ true) → every t n ≡ true
every_from t zero h = refl
every_from t (suc n) h = and_from (t n) (every t n) (h n (omega arith)) (every_from t n (λ i l. h i (omega arith)))

pub every_at : (t : ℕ → Bool) (n : ℕ) → every t n ≡ true → (i : ℕ) → i < n → t i ≡ true
every_at t zero h i l = absurd (omega arith)
every_at t (suc n) h i l =
    let x = and_parts (t n) (every t n) h in
    ⊎_elim (λ (e : i ≡ n). subst (λ z. t z ≡ true) (sym e) x.0) (λ (e : i ≡ n → ⊥). every_at t n x.1 i (omega arith)) (cases_eq i n)

pub any_from : (t : ℕ → Bool) (n i : ℕ) → i < n → t i ≡ true → any t n ≡ true
any_from t zero i l h = absurd (omega arith)
any_from t (suc n) i l h =
    ⊎_elim (λ (e : i ≡ n). or_left (t n) (any t n) (subst (λ z. t z ≡ true) e h)) (λ (e : i ≡ n → ⊥). or_right (t n) (any t n) (any_from t n i (omega arith) h)) (cases_eq i n)

pub any_at : (t : ℕ → Bool) (n : ℕ) → any t n ≡ true → (i : ℕ) × (i < n) × (t i ≡ true)
any_at t zero h = absurd (no h)
any_at t (suc n) h = go (or_cases (t n) (any t n) h) (any_at t n)
  where
    go : (t n ≡ true) ⊎ (any t n ≡ true) → (any t n ≡ true → (i : ℕ) × (i < n) × (t i ≡ true)) → (i : ℕ) × (i < suc n) × (t i ≡ true)
    go (inl e) rec = (n, omega arith, e)
    go (inr e) rec = let x = rec e in (x.0, omega (arith, x.1), x.2)

-- an implication as a test
pub imply : (a b : Bool) → (a ≡ true → b ≡ true) → (not a || b) ≡ true
imply true b h = h refl
imply false b h = refl

pub imply_at : (a b : Bool) → (not a || b) ≡ true → a ≡ true → b ≡ true
imply_at true b h e = h
imply_at false b h e = absurd (no e)

pub code_same : (x y : Phase) → phase_code x ≡ phase_code y → x ≡ y
code_same phase.Free phase.Free e = refl
code_same phase.Free phase.Shared e = absurd (omega arith)
code_same phase.Free phase.UpdateOnly e = absurd (omega arith)
code_same phase.Free phase.Modified e = absurd (omega arith)
code_same phase.Shared phase.Free e = absurd (omega arith)
code_same phase.Shared phase.Shared e = refl
code_same phase.Shared phase.UpdateOnly e = absurd (omega arith)
code_same phase.Shared phase.Modified e = absurd (omega arith)
code_same phase.UpdateOnly phase.Free e = absurd (omega arith)
code_same phase.UpdateOnly phase.Shared e = absurd (omega arith)
code_same phase.UpdateOnly phase.UpdateOnly e = refl
code_same phase.UpdateOnly phase.Modified e = absurd (omega arith)
code_same phase.Modified phase.Free e = absurd (omega arith)
code_same phase.Modified phase.Shared e = absurd (omega arith)
code_same phase.Modified phase.UpdateOnly e = absurd (omega arith)
code_same phase.Modified phase.Modified e = refl

same_true : (x y : Bool) → same x y ≡ true → (x ≡ true → y ≡ true) × (y ≡ true → x ≡ true)
same_true true y h = (λ _. h, λ _. refl)
same_true false true h = absurd (no h)
same_true false false h = (λ e. e, λ e. e)

same_from : (x y : Bool) → (x ≡ true → y ≡ true) → (y ≡ true → x ≡ true) → same x y ≡ true
same_from true y f g = f refl
same_from false true f g = absurd (no (g refl))
same_from false false f g = refl

pub is_of_held : {V P : Type 0} (a : ℕ) (l : Line V P) → is_of a l ≡ true → is_held l ≡ true
is_of_held a Invalid h = h
is_of_held a (Shared b v) h = refl
is_of_held a (UpdateOnly b d) h = refl
is_of_held a (Modified b v) h = refl

pub is_of_own : {V P : Type 0} (l : Line V P) → is_held l ≡ true → is_of (cell_of l) l ≡ true
is_of_own Invalid h = absurd (no h)
is_of_own (Shared b v) h = eq-eqb b b refl
is_of_own (UpdateOnly b d) h = eq-eqb b b refl
is_of_own (Modified b v) h = eq-eqb b b refl

pub is_of_cell : {V P : Type 0} (a : ℕ) (l : Line V P) → is_of a l ≡ true → cell_of l ≡ a
is_of_cell a Invalid h = absurd (no h)
is_of_cell a (Shared b v) h = eqb-true b a h
is_of_cell a (UpdateOnly b d) h = eqb-true b a h
is_of_cell a (Modified b v) h = eqb-true b a h

-- a line is missed by every request that waits
pub misses_from : {V P : Type 0} (x : Register V P) (l : Line V P) → ((r : Request V P) → x ≡ Waiting r → hits r l ≡ false) → misses x l ≡ true
misses_from Empty l h = refl
misses_from (Waiting r) l h = ap not (h r refl)
misses_from (Answered v) l h = refl

pub misses_at : {V P : Type 0} (x : Register V P) (l : Line V P) → misses x l ≡ true → (r : Request V P) → x ≡ Waiting r → hits r l ≡ false
misses_at x l m r e = not-true (hits r l) (subst (λ z. misses z l ≡ true) e m)

pub asks_from : {V P : Type 0} (n : ℕ) (x : Register V P) → ((r : Request V P) → x ≡ Waiting r → target r < n) → asks_within n x ≡ true
asks_from n Empty h = refl
asks_from n (Waiting r) h = lt-ltb (target r) n (h r refl)
asks_from n (Answered v) h = refl

pub asks_at : {V P : Type 0} (n : ℕ) (x : Register V P) → asks_within n x ≡ true → (r : Request V P) → x ≡ Waiting r → target r < n
asks_at n x t r e = ltb-true (target r) n (subst (λ z. asks_within n z ≡ true) e t)

-- an Invalid line is missed by every request
pub unheld_missed : {V P : Type 0} (r : Request V P) (l : Line V P) → is_held l ≡ false → hits r l ≡ false
unheld_missed (Read a) Invalid e = refl
unheld_missed (Write a v) Invalid e = refl
unheld_missed (Update a d) Invalid e = refl
unheld_missed r (Shared b v) e = absurd (no (sym e))
unheld_missed r (UpdateOnly b d) e = absurd (no (sym e))
unheld_missed r (Modified b v) e = absurd (no (sym e))

-- a phase is Free exactly where nobody holds the cell
pub free_at : (f : Phase) (h : PartySet) → same (eqb (phase_code f) 0) (is_nobody h) ≡ true → (f ≡ phase.Free → h ≡ nobody) × (h ≡ nobody → f ≡ phase.Free)
free_at f h t =
    let x = same_true (eqb (phase_code f) 0) (is_nobody h) t in
    (λ e. set_same h nobody (eqb-true _ 0 (x.0 (eq-eqb _ 0 (ap phase_code e)))), λ e. code_same f phase.Free (eqb-true _ 0 (x.1 (eq-eqb _ 0 (ap (λ z. z.members) e)))))

pub free_from : (f : Phase) (h : PartySet) → (f ≡ phase.Free → h ≡ nobody) → (h ≡ nobody → f ≡ phase.Free) → same (eqb (phase_code f) 0) (is_nobody h) ≡ true
free_from f h u v =
    same_from _ _ (λ e. eq-eqb _ 0 (ap (λ z. z.members) (u (code_same f phase.Free (eqb-true _ 0 e))))) (λ e. eq-eqb _ 0 (ap phase_code (v (set_same h nobody (eqb-true _ 0 e)))))
