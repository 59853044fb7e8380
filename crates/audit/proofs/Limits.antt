-- What the test of the sizes tells
use Rattle.std.proofs.Common.{◌≡◌, ℕ, true, List, sym}
use Rattle.std.proofs.lemmas.Bool.{eqb-true, leb-true, and_parts}
use Rattle.tables.specs.declared.line.Line.{Line}
use Rattle.tables.specs.declared.register.Register.{Register}
use Rattle.tables.specs.declared.entry.Entry.{Entry}
use Rattle.tables.specs.Legal.{fits}
use Rattle.audit.specs.Audit.{Sized}

pub fits_sized : {V P : Type 0} (ways : ℕ) (lines : List (Line V P)) (directory : List Entry) (registers : List (Register V P)) → true ≡ fits ways lines directory registers → Sized ways lines directory registers
fits_sized ways lines directory registers h =
    let lines_at = and_parts _ _ (sym h) in
    let ways-at = and_parts _ _ lines_at.0 in
    let way_at = and_parts _ _ ways-at.0 in
    let cells_at = and_parts _ _ way_at.0 in
    let parties-at = and_parts _ _ (and_parts _ _ cells_at.0).0 in
    record {
      few_parties = leb-true _ _ parties-at.1;
      few_cells = leb-true _ _ cells_at.1;
      some_way = leb-true _ _ way_at.1;
      few_ways = leb-true _ _ ways-at.1;
      all_lines = eqb-true _ _ lines_at.1;
    }
