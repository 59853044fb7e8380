-- The reference memory by the requests finished: what each did to a cell, and that partials act in any order
use Rattle.std.proofs.Common.{◌≡◌, ℕ, zero, suc, ◌+◌, ◌<◌, Bool, true, false, cond, not, ◌&&◌, ◌||◌, eqb, List, [], ◌∷◌, length, get_or, set, Some, None, fold, Option, sym, refl, ap, ◌∙◌, arith}
use Rattle.std.proofs.lemmas.List.Sorted.{IsPermutation-keeps}
use Rattle.std.proofs.lemmas.Bool.{eqb-true}
use Rattle.std.specs.Option.{option_map}
use Rattle.std.specs.List.{swap}
use Rattle.std.specs.List.Sorted.{IsPermutation}
use Rattle.operation.specs.Algebra.{Algebra, Lawful}
use Rattle.tables.proofs.Tests.{no}
use Rattle.tables.specs.declared.request.Request.{Request}
use Rattle.tables.specs.declared.request.Request.TheVariants.{Read, Update, Write}
use Rattle.model.specs.Bench.{lookup}
use Rattle.model.specs.Recorded.{Faithful, finished_in, finishes, is_written, last_written, partials_since, then}
use Rattle.model.specs.Reference.{refused, hit, queued, granted, other, Outcome, Reference, at_making, finish_waiting, observed, outcome, put, remembered, written}
use Rattle.model.specs.declared.answer.Answer.{Answer}
use Rattle.model.specs.declared.call.Call.{Call}
use Rattle.model.specs.declared.call.Call.TheVariants.{Advance, Collect, Post, Settle, Yield}

mapped_same : {X : Type 0} (o : Option X) → option_map (λ x. x) o ≡ o
mapped_same None = refl
mapped_same (Some x) = refl

mapped_mapped : {X Y Z : Type 0} (f : X → Y) (g : Y → Z) (o : Option X) → option_map g (option_map f o) ≡ option_map (λ x. g (f x)) o
mapped_mapped f g None = refl
mapped_mapped f g (Some x) = refl

-- a starting value counts exactly where no write does
start_kept : {V P : Type 0} (a : ℕ) (start : Option V) (rs : List (Request V P)) → is_written a rs ≡ false → last_written a start rs ≡ start
start_kept a start [] e = refl
start_kept a start (Read b ∷ rs) e = start_kept a start rs e
start_kept a start (Write b v ∷ rs) e = go (eqb a b) (start_kept a start rs) e
  where
    go : (x : Bool) → (is_written a rs ≡ false → last_written a start rs ≡ start) → x || is_written a rs ≡ false → last_written a (cond x (Some v) start) rs ≡ start
    go true rest h = absurd (no (sym h))
    go false rest h = rest h
start_kept a start (Update b d ∷ rs) e = start_kept a start rs e

start_lost : {V P : Type 0} (a : ℕ) (s t : Option V) (rs : List (Request V P)) → is_written a rs ≡ true → last_written a s rs ≡ last_written a t rs
start_lost a s t [] e = absurd (no e)
start_lost a s t (Read b ∷ rs) e = start_lost a s t rs e
start_lost a s t (Write b v ∷ rs) e = go (eqb a b) (start_lost a s t rs) e
  where
    go : (x : Bool) → (is_written a rs ≡ true → last_written a s rs ≡ last_written a t rs) → x || is_written a rs ≡ true → last_written a (cond x (Some v) s) rs ≡ last_written a (cond x (Some v) t) rs
    go true rest h = refl
    go false rest h = rest h
start_lost a s t (Update b d ∷ rs) e = start_lost a s t rs e

module _ {V P : Type 0} (act : V → P → V) where
  -- a cell's value once requests have finished in turn
  abbrev told : ℕ → (ℕ → Option V) → List (Request V P) → Option V
  told a f [] = f a
  told a f (r ∷ rs) = told a (written act r f) rs

  told_is : (a : ℕ) (f : ℕ → Option V) (rs : List (Request V P)) → told a f rs ≡ option_map (λ v. fold act v (partials_since a rs)) (last_written a (f a) rs)
  told_is a f [] = sym (mapped_same (f a))
  told_is a f (Read b ∷ rs) = told_is a f rs
  told_is a f (Write b v ∷ rs) = told_is a (put f b (Some v)) rs
  told_is a f (Update b d ∷ rs) = told_is a (written act (Update b d) f) rs ∙ go (eqb a b) refl (is_written a rs) refl
    where
      ps : List P
      ps = partials_since a rs

      go : (x : Bool) → eqb a b ≡ x → (y : Bool) → is_written a rs ≡ y
          → option_map (λ v. fold act v ps) (last_written a (cond x (option_map (λ v. act v d) (f b)) (f a)) rs) ≡ option_map (λ v. fold act v (cond (x && not y) (d ∷ ps) ps)) (last_written a (f a) rs)
      go false e y h = refl
      go true e true h = ap (option_map (λ v. fold act v ps)) (start_lost a (option_map (λ v. act v d) (f b)) (f a) rs h)
      go true e false h =
          ap (option_map (λ v. fold act v ps)) (start_kept a (option_map (λ v. act v d) (f b)) rs h)
          ∙ mapped_mapped (λ v. act v d) (λ v. fold act v ps) (f b)
          ∙ ap (λ o. option_map (λ v. fold act v (d ∷ ps)) o) (ap f (sym (eqb-true a b e)) ∙ sym (start_kept a (f a) rs h))

  -- one call, by the request that it finishes
  told_then : (a : ℕ) (b : Reference V P) (c : Call V P) (w : Outcome) (rs : List (Request V P)) → told a (observed act b c w).value rs ≡ told a b.value (then (finishes b c w) rs)
  told_then a b (Post p r) refused rs = refl
  told_then a b (Post p r) hit rs = refl
  told_then a b (Post p r) queued rs = refl
  told_then a b (Post p r) (granted q) rs = refl
  told_then a b (Post p r) other rs = refl
  told_then a b (Advance c) refused rs = refl
  told_then a b (Advance c) hit rs = refl
  told_then a b (Advance c) queued rs = refl
  told_then a b (Advance c) (granted q) rs = go (b.waiting q)
    where
      go : (o : Option (Request V P)) → told a (finish_waiting act b q o).value rs ≡ told a b.value (then o rs)
      go None = refl
      go (Some r) = refl
  told_then a b (Advance c) other rs = refl
  told_then a b (Collect p) refused rs = refl
  told_then a b (Collect p) hit rs = refl
  told_then a b (Collect p) queued rs = refl
  told_then a b (Collect p) (granted q) rs = refl
  told_then a b (Collect p) other rs = refl
  told_then a b (Yield p c) w rs = refl
  told_then a b Settle w rs = refl

  value_told : (a : ℕ) (es : List (Call V P × Answer V)) (b : Reference V P) → (remembered act b es).value a ≡ told a b.value (finished_in act b es)
  value_told a [] b = refl
  value_told a (e ∷ es) b = let after = observed act b e.0 (outcome e.1) in value_told a es after ∙ told_then a b e.0 (outcome e.1) (finished_in act after es)

  count_then : (b : Reference V P) (c : Call V P) (w : Outcome) (rs : List (Request V P)) → (observed act b c w).finished + length rs ≡ b.finished + length (then (finishes b c w) rs)
  count_then b (Post p r) refused rs = refl
  count_then b (Post p r) hit rs = omega arith
  count_then b (Post p r) queued rs = refl
  count_then b (Post p r) (granted q) rs = refl
  count_then b (Post p r) other rs = refl
  count_then b (Advance c) refused rs = refl
  count_then b (Advance c) hit rs = refl
  count_then b (Advance c) queued rs = refl
  count_then b (Advance c) (granted q) rs = go (b.waiting q)
    where
      go : (o : Option (Request V P)) → (finish_waiting act b q o).finished + length rs ≡ b.finished + length (then o rs)
      go None = refl
      go (Some r) = omega arith
  count_then b (Advance c) other rs = refl
  count_then b (Collect p) refused rs = refl
  count_then b (Collect p) hit rs = refl
  count_then b (Collect p) queued rs = refl
  count_then b (Collect p) (granted q) rs = refl
  count_then b (Collect p) other rs = refl
  count_then b (Yield p c) w rs = refl
  count_then b Settle w rs = refl

  count_told : (es : List (Call V P × Answer V)) (b : Reference V P) → (remembered act b es).finished ≡ b.finished + length (finished_in act b es)
  count_told [] b = omega arith
  count_told (e ∷ es) b = let after = observed act b e.0 (outcome e.1) in count_told es after ∙ count_then b e.0 (outcome e.1) (finished_in act after es)

module _ {V P : Type 0} (o : Algebra V P) (law : Lawful o) where
  abbrev acted : V → List P → V
  acted v ps = fold o.act v ps

  act_swap : (v : V) (d e : P) → o.act (o.act v d) e ≡ o.act (o.act v e) d
  act_swap v d e = law.twice v d e ∙ ap (o.act v) (law.comm d e) ∙ sym (law.twice v e d)

  -- a partial may as well act last
  act_late : (v : V) (d : P) (ps : List P) → acted (o.act v d) ps ≡ o.act (acted v ps) d
  act_late v d [] = refl
  act_late v d (e ∷ ps) = ap (λ u. acted u ps) (act_swap v d e) ∙ act_late (o.act v e) d ps

  act_set : (v : V) (ps : List P) (i : ℕ) (d e : P) → i < length ps → o.act (acted v (set ps i e)) (get_or ps i d) ≡ o.act (acted v ps) e
  act_set v [] i d e h = absurd (omega (arith, h))
  act_set v (c ∷ ps) zero d e h = ap (λ u. o.act u c) (act_late v e ps) ∙ act_swap (acted v ps) e c ∙ ap (λ u. o.act u e) (sym (act_late v c ps))
  act_set v (c ∷ ps) (suc i) d e h = act_set (o.act v c) ps i d e (omega (arith, h))

  first_swap : (v : V) (c : P) (ps : List P) (j : ℕ) (d : P) → j < length ps → acted v (get_or ps j d ∷ set ps j c) ≡ acted v (c ∷ ps)
  first_swap v c ps j d h = act_late v (get_or ps j d) (set ps j c) ∙ act_set v ps j d c h ∙ sym (act_late v c ps)

  two_swap : (v : V) (ps : List P) (i j : ℕ) (d : P) → i < length ps → j < length ps → acted v (set (set ps i (get_or ps j d)) j (get_or ps i d)) ≡ acted v ps
  two_swap v [] i j d g h = refl
  two_swap v (c ∷ ps) zero zero d g h = refl
  two_swap v (c ∷ ps) zero (suc j) d g h = first_swap v c ps j d (omega (arith, h))
  two_swap v (c ∷ ps) (suc i) zero d g h = first_swap v c ps i d (omega (arith, g))
  two_swap v (c ∷ ps) (suc i) (suc j) d g h = two_swap (o.act v c) ps i j d (omega (arith, g)) (omega (arith, h))

  exchange : (v : V) (ps : List P) (i j : ℕ) → i < length ps → j < length ps → acted v (swap ps i j) ≡ acted v ps
  exchange v [] i j g h = refl
  exchange v (d ∷ ps) i j g h = two_swap v (d ∷ ps) i j d g h

  pub order_free : (v : V) (ps qs : List P) → IsPermutation ps qs → acted v qs ≡ acted v ps
  order_free v ps qs = IsPermutation-keeps ps (λ l. acted v l ≡ acted v ps) refl (λ l i j g h e. exchange v l i j g h ∙ e) qs

  pub faithful : (home : List V) (es : List (Call V P × Answer V)) → Faithful o.act home es
  faithful home es = record {
    value = value;
    any_order = λ a ps h. value a ∙ in_order ps (partials_since a finished) h (last_written a (lookup home a) finished);
    count = let counts = count_told o.act es (at_making home) in omega arith;
  }
    where
      finished : List (Request V P)
      finished = finished_in o.act (at_making home) es

      value : (a : ℕ) → (remembered o.act (at_making home) es).value a ≡ option_map (λ v. acted v (partials_since a finished)) (last_written a (lookup home a) finished)
      value a = value_told o.act a es (at_making home) ∙ told_is o.act a (lookup home) finished

      in_order : (ps qs : List P) → IsPermutation qs ps → (u : Option V) → option_map (λ v. acted v qs) u ≡ option_map (λ v. acted v ps) u
      in_order ps qs h None = refl
      in_order ps qs h (Some v) = ap Some (sym (order_free v qs ps h))
