-- Each move keeps the invariant
-- the ledger counts one more line sent home
use Rattle.std.proofs.Common.{◌≡◌, ℕ, ◌+◌, ◌*◌, ◌<◌, true, false, cond, length, set, Some, None, Option, sym, refl, ap, ◌∙◌, subst, arith}
use Rattle.std.proofs.lemmas.Bool.{both_ways}
use Rattle.tables.specs.Legal.{fits}
use Rattle.tables.specs.Lines.{conflicts, hits, is_empty, is_held, target, waits_for}
use Rattle.tables.specs.declared.ledger.Ledger.{Ledger}
use Rattle.tables.specs.declared.line.Line.{Line}
use Rattle.tables.specs.declared.line.Line.TheVariants.{Invalid}
use Rattle.tables.specs.declared.register.Register.TheVariants.{Answered, Empty, Waiting}
use Rattle.tables.specs.declared.request.Request.{Request}
use Rattle.model.proofs.Basics.{Owns, owner_below, set_all, set_put_all}
use Rattle.model.proofs.Coherence.{Values}
use Rattle.model.proofs.Effects.{values_grant, values_hit, values_send}
use Rattle.model.proofs.Inv.{Desk, Inv, desk_all, desk_empty, length_sent}
use Rattle.model.proofs.Sums.{held_set}
use Rattle.model.proofs.Tabled.{Tabled}
use Rattle.model.proofs.TabledMoves.{granted_line_fits, held_hit_line, tabled_clear, tabled_close, tabled_grant, tabled_hit, tabled_queue, tabled_send, tabled_turn}
use Rattle.model.specs.Bench.{Bench, Sound, State, answer_to, granted_line, held_count, hit_line, line, lookup, register, value_in}
use Rattle.model.specs.Reference.{Reference, finish, noted, strike, wait, written}
use Rattle.model.specs.Steps.{clear, close, grant, hit, made, queue, send, turn_to}
use Rattle.tables.specs.Ledgers.{is_open, open_status}

pub record Sent (g f : Ledger) : Type 0 where
  pub status : f.status ≡ g.status
  pub hits : f.hits ≡ g.hits
  pub grants : f.grants ≡ g.grants
  pub more : f.recalls + f.evictions + f.yields ≡ g.recalls + g.evictions + g.yields + 1

module _ {V P R : Type 0} (k : Bench V P R) (sound : Sound k) (s : State V P R) (b : Reference V P) (inv : Inv k s b) where
  tabled : Tabled k s
  tabled = inv.tabled

  registers_short : (p : ℕ) → p < k.parties → p < length s.registers
  registers_short p h = omega (arith, inv.tabled.registers_length)

  pub inv_queue : (p : ℕ) (r : Request V P) → p < k.parties → is_empty (register s p) ≡ true → target r < k.cells → ((i : ℕ) → Owns k.ways p i → hits r (line s i) ≡ false) → Inv k (queue k s p r) (wait b p r)
  inv_queue p r low empty inside miss = record {
    tabled = tabled_queue k s tabled p r low empty inside miss;
    home_length = inv.home_length;
    values = inv.values;
    desks = set_put_all (λ j z y. Desk z y (b.note j)) s.registers b.waiting p (Waiting r) Empty (Some r) (registers_short p low)
        (refl, (desk_empty (register s p) (b.waiting p) (b.note p) empty (inv.desks p)).1) (λ j _. inv.desks j);
    closed = inv.closed;
    requests = inv.requests;
    granted = inv.granted;
  }

  pub inv_clear : (p : ℕ) (v : Option V) → p < k.parties → register s p ≡ Answered v → Inv k (clear k s p) (strike b p)
  inv_clear p v low full = record {
    tabled = tabled_clear k s tabled p v low full;
    home_length = inv.home_length;
    values = inv.values;
    desks = set_put_all (λ j z y. Desk z (b.waiting j) y) s.registers b.note p Empty Empty None (registers_short p low)
        ((subst (λ z. Desk z (b.waiting p) (b.note p)) full (inv.desks p)).0, refl) (λ j _. inv.desks j);
    closed = inv.closed;
    requests = inv.requests;
    granted = inv.granted;
  }

  pub inv_turn : (a q : ℕ) → a < k.cells → q < k.parties → waits_for a (register s q) ≡ true → Inv k (turn_to k s a q) b
  inv_turn a q low fits waits = record {
    tabled = tabled_turn k s tabled a q low fits waits;
    home_length = inv.home_length;
    values = inv.values;
    desks = inv.desks;
    closed = inv.closed;
    requests = inv.requests;
    granted = inv.granted;
  }

  pub inv_send : (i : ℕ) (g : Ledger) (u : R) → i < k.parties * k.ways → is_held (line s i) ≡ true → Sent s.ledger g → Inv k (send k s i g u) b
  inv_send i g u low full sent = record {
    tabled = tabled_send k s tabled i g u low full;
    home_length = omega (arith, inv.home_length, length_sent k.op s.home (line s i));
    values = values_send k.op sound.lawful k.ways k.cells s.lines tabled.apart tabled.within s.home b.value inv.values i short inv.home_length;
    desks = inv.desks;
    closed = λ e. set_all (λ _ l. is_held l ≡ false) s.lines i Invalid Invalid short refl (λ j _. inv.closed (sym (ap open_status sent.status) ∙ e) j);
    requests = omega (arith, inv.requests, sent.hits, sent.grants);
    granted = omega (arith, inv.granted, sent.grants, sent.more, count);
  }
    where
      short : i < length s.lines
      short = omega (arith, inv.tabled.lines_length)

      count : held_count (set s.lines i Invalid) + 1 ≡ held_count s.lines
      count =
          let e : held_count (set s.lines i Invalid) + cond (is_held (line s i)) 1 0 ≡ held_count s.lines + 0 = held_set s.lines i Invalid short in
          omega (arith, rw full at e)

  pub inv_hit : (p : ℕ) (r : Request V P) (i : ℕ) → p < k.parties → is_empty (register s p) ≡ true → is_open s.ledger ≡ true → Owns k.ways p i → hits r (line s i) ≡ true → Inv k (hit k s p r i) (finish k.op.act b p r)
  inv_hit p r i low empty live mine on = record {
    tabled = tabled_hit k s tabled p r i low empty mine;
    home_length = inv.home_length;
    values = both.0;
    desks = desk_all s.registers b.waiting b.note p (Answered (answer_to r (value_in (line s i)))) None (Some (noted r b.value)) (registers_short p low) (refl, ap Some (sym both.1)) inv.desks;
    closed = λ e. absurd (both_ways _ e live);
    requests = omega (arith, inv.requests);
    granted = omega (arith, inv.granted, count);
  }
    where
      short : i < length s.lines
      short = omega (arith, inv.tabled.lines_length, owner_below k.ways p i k.parties low mine)

      new : Line V P
      new = hit_line k.op r (line s i)

      both : Values k.op (set s.lines i new) s.home (written k.op.act r b.value) × (answer_to r (value_in (line s i)) ≡ noted r b.value)
      both = values_hit k.op sound.lawful k.ways k.cells s.lines tabled.apart tabled.within s.home b.value inv.values i short inv.home_length r on

      count : held_count (set s.lines i new) ≡ held_count s.lines
      count =
          let e : held_count (set s.lines i new) + cond (is_held (line s i)) 1 0 ≡ held_count s.lines + cond (is_held new) 1 0 = held_set s.lines i new short in
          omega (arith, rw (held_hit_line k.op r (line s i)) at e)

  pub inv_grant : (a q : ℕ) (r : Request V P) (i : ℕ) (x : Line V P) → a < k.cells → q < k.parties → register s q ≡ Waiting r → target r ≡ a → is_open s.ledger ≡ true
      → Owns k.ways q i → is_held (line s i) ≡ false → ((j : ℕ) → conflicts r (line s j) ≡ false) → granted_line k.op r (lookup s.home a) ≡ Some x
      → Inv k (grant k s a q r i x) (finish k.op.act b q r)
  inv_grant a q r i x low fits waits same live mine room calm made = record {
    tabled = tabled_grant k s tabled a q r i x low fits waits same mine room calm made;
    home_length = inv.home_length;
    values = both.0;
    desks = desk_all s.registers b.waiting b.note q (Answered (answer_to r (value_in x))) None (Some (noted r b.value)) (registers_short q fits) (refl, ap Some (sym both.1)) inv.desks;
    closed = λ e. absurd (both_ways _ e live);
    requests = omega (arith, inv.requests);
    granted = omega (arith, inv.granted, count);
  }
    where
      short : i < length s.lines
      short = omega (arith, inv.tabled.lines_length, owner_below k.ways q i k.parties fits mine)

      both : Values k.op (set s.lines i x) s.home (written k.op.act r b.value) × (answer_to r (value_in x) ≡ noted r b.value)
      both = values_grant k.op sound.lawful s.lines s.home b.value inv.values i short room r calm x
          (subst (λ z. granted_line k.op r (lookup s.home z) ≡ Some x) (sym same) made)

      count : held_count (set s.lines i x) ≡ held_count s.lines + 1
      count =
          let e : held_count (set s.lines i x) + cond (is_held (line s i)) 1 0 ≡ held_count s.lines + cond (is_held x) 1 0 = held_set s.lines i x short in
          omega (arith, rw (room, (granted_line_fits k.op r (lookup s.home a) x made).0) at e)

  pub inv_close : ((i : ℕ) → is_held (line s i) ≡ false) → Inv k (close k s) b
  inv_close none = record {
    tabled = tabled_close k s tabled;
    home_length = inv.home_length;
    values = inv.values;
    desks = inv.desks;
    closed = λ _. none;
    requests = inv.requests;
    granted = inv.granted;
  }
