-- What is known of the action that is decided, in the numbers that performing it asks for
use Rattle.std.proofs.Common.{◌≡◌, ℕ, ◌+◌, ◌*◌, ◌/◌, ◌^◌, ◌<◌, ◌≤◌, true, ◌&&◌, ltb, List, length, get_or, Some, sym, ◌∙◌, subst, arith}
use Rattle.std.proofs.lemmas.Bool.{and_parts, ltb-true}
use Rattle.operation.specs.Algebra.{Algebra}
use Rattle.victim.specs.Rules.{Servable}
use Rattle.tables.specs.declared.line.Line.{Line}
use Rattle.tables.specs.declared.line.Line.TheVariants.{Invalid}
use Rattle.tables.specs.declared.request.Request.{Request}
use Rattle.tables.specs.declared.register.Register.{Register}
use Rattle.tables.specs.declared.entry.Entry.{Entry}
use Rattle.tables.specs.declared.ledger.Ledger.{Ledger}
use Rattle.tables.specs.Lines.{is_held, is_of, hits, target}
use Rattle.tables.proofs.Tests.{is_of_held}
use Rattle.party_set.proofs.Searches.{first_some}
use Rattle.model.specs.Searches.{own_line_in, own_hit_in}
use Rattle.tables.specs.Ledgers.{counts_low}
use Rattle.model.specs.declared.next.Next.{Next}
use Rattle.model.specs.declared.next.Next.TheVariants as next
use Rattle.model.specs.Bench.{Bench as Terms, State, bench}
use Rattle.model.specs.Decisions.{decided}
use Rattle.model.proofs.Basics.{owner_below}
use Rattle.model.proofs.Directory.{owns_div}
use Rattle.model.proofs.Decisions.{Apt, apt, below}
use Rattle.model.proofs.Sized.{no_rule, bare, bare_tabled, bare_limits}
use Rattle.model.proofs.Tabled.{Limits, Tabled}
use Rattle.bench.specs.declared.Bench.{Bench}
use Rattle.bench.specs.Lent.{InOrder, Sendable}
use Rattle.bench.proofs.Orders.{own_ways}

-- counts that are low can rise
pub record Low (g : Ledger) : Type 0 where
  pub hits : g.hits < 2 ^ 63
  pub grants : g.grants < 2 ^ 63
  pub recalls : g.recalls < 2 ^ 63
  pub evictions : g.evictions < 2 ^ 63
  pub yields : g.yields < 2 ^ 63

pub low : (g : Ledger) → counts_low g ≡ true → Low g
low g e =
    let f4 = and_parts (ltb g.hits (2 ^ 63) && ltb g.grants (2 ^ 63) && ltb g.recalls (2 ^ 63) && ltb g.evictions (2 ^ 63)) _ e in
    let f3 = and_parts (ltb g.hits (2 ^ 63) && ltb g.grants (2 ^ 63) && ltb g.recalls (2 ^ 63)) _ f4.0 in
    let f2 = and_parts (ltb g.hits (2 ^ 63) && ltb g.grants (2 ^ 63)) _ f3.0 in
    let f1 = and_parts (ltb g.hits (2 ^ 63)) _ f2.0 in
    record { hits = ltb-true _ _ f1.0; grants = ltb-true _ _ f1.1; recalls = ltb-true _ _ f2.1; evictions = ltb-true _ _ f3.1; yields = ltb-true _ _ f4.1 }

-- the place of the party's own line that a request hits, in any table that has the party's ways
pub own_place_in : {V P : Type 0} (ways : ℕ) (ls : List (Line V P)) (p : ℕ) (r : Request V P) (i : ℕ) → p * ways + ways ≤ length ls → own_hit_in ways ls p r ≡ Some i → (i < length ls) × (p * ways ≤ i)
own_place_in ways ls p r i l e = let f = first_some (λ j. hits r (get_or ls j Invalid)) (p * ways) ways i e in (omega (arith, f.1), f.0)

module _ {O H R V P : Type 0} (op : Algebra V P) (b : Bench O H R V P) (ok : InOrder b) where
  abbrev ways : ℕ
  ways = b.ways

  abbrev ls : List (Line V P)
  ls = b.lines.now

  abbrev ds : List Entry
  ds = b.directory.now

  abbrev rs : List (Register V P)
  rs = b.registers.now

  abbrev tables : State V P (Unit {0})
  tables = bare ls ds rs

  abbrev k : Terms V P (Unit {0})
  k = bench op no_rule ways tables

  t : Tabled k tables
  t = bare_tabled op ways ls ds rs ok.sizes ok.legal

  f : Limits k × (length ls ≡ length rs * ways)
  f = bare_limits op ways ls ds rs ok.sizes

  pub sendable : (i : ℕ) → i < length rs * ways → is_held (get_or ls i Invalid) ≡ true → Sendable b i
  sendable i l h = record {
    place = omega (arith, f.1);
    wide = f.0.ways_low;
    party = omega (arith, f.0.parties_high, below k tables t i (i / ways) (owns_div ways i f.0.ways_low) l);
    cell = t.within i h;
  }

  -- the party's own line of a cell
  pub own_sendable : (p a i : ℕ) → p < length rs → own_line_in ways ls p a ≡ Some i → Sendable b i
  own_sendable p a i l e =
      let g = first_some (λ j. is_of a (get_or ls j Invalid)) (p * ways) ways i e in
      sendable i (owner_below ways p i (length rs) l (g.0, g.1)) (is_of_held a (get_or ls i Invalid) g.2)

  -- the party's own line that a request hits
  pub own_place : (p : ℕ) (r : Request V P) (i : ℕ) → p < length rs → own_hit_in ways ls p r ≡ Some i → (i < length ls) × (p * ways ≤ i) × (p * ways ≤ 128)
  own_place p r i l e =
      let w = own_ways op b ok p l in
      let g = own_place_in ways ls p r i w.0 e in
      (g.0, g.1, w.1)

  module _ (a : ℕ) (n : Next V P) (is : n ≡ decided (length rs) ways ls ds rs a) where
    at : (m : Next V P) → n ≡ m → Apt k tables t a m
    at m e = subst (Apt k tables t a) (sym is ∙ e) (apt k tables t a)

    pub recall_apt : (q i : ℕ) → n ≡ next.Recall q i → Sendable b i
    recall_apt q i e = let g = at (next.Recall q i) e in sendable i g.1 g.2

    pub evict_apt : (q : ℕ) → n ≡ next.Evict q → Servable q ways × (q * ways ≤ 128) × ((w : ℕ) → w < ways → Sendable b (q * ways + w))
    evict_apt q e =
        let g = at (next.Evict q) e in
        let y = own_ways op b ok q g.0 in
        ((omega (arith, g.0, f.0.parties_high), f.0.ways_low, f.0.ways_high), y.1, λ w l. sendable (q * ways + w) (omega (arith, y.0, f.1)) (g.1 w l))

    pub grant_apt : (q : ℕ) (r : Request V P) (i : ℕ) → n ≡ next.Grant q r i → (q < length rs) × (q < 16) × (i < length ls) × (q * ways ≤ i) × (q * ways ≤ 128) × (target r ≡ a)
    grant_apt q r i e =
        let g = at (next.Grant q r i) e in
        (g.0, omega (arith, g.0, f.0.parties_high), omega (arith, g.2, f.1), g.1.0, (own_ways op b ok q g.0).1, g.5)
