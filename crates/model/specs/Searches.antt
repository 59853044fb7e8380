-- The searches of the steps, over the tables alone
--   own_hit_in     the party's first line that the request hits
--   conflict_in    the first conflicting line: the lowest party's, since a party has one line of a cell at most
--   vacant_in      the party's lowest Invalid way, as a line
--   own_line_in    the party's line of the cell
--   after_last_in  the party d places after the one after the last granted, round past the highest to 0
--   next_waiting   the first such party that waits for the cell
--   served_at      the party that has the cell's turn, or else the next that waits
use Rattle.std.specs.Prelude.{ℕ, ◌+◌, ◌*◌, ◌%◌, not, List, Some, None, Option, slice_index_or}
use Rattle.std.specs.Option.{option_map}
use Rattle.tables.specs.declared.line.Line.{Line}
use Rattle.tables.specs.declared.line.Line.TheVariants.{Invalid}
use Rattle.tables.specs.declared.request.Request.{Request}
use Rattle.tables.specs.declared.register.Register.{Register}
use Rattle.tables.specs.declared.register.Register.TheVariants.{Empty}
use Rattle.tables.specs.Lines.{is_held, is_of, hits, conflicts, waits_for}
use Rattle.party_set.specs.Searches.{first}

module _ {V P : Type 0} (ways : ℕ) (lines : List (Line V P)) where
  abbrev pub own_hit_in : ℕ → Request V P → Option ℕ
  own_hit_in p r = first (λ i. hits r (slice_index_or lines i Invalid)) (p * ways) ways

  abbrev pub conflict_in : ℕ → Request V P → Option ℕ
  conflict_in parties r = first (λ i. conflicts r (slice_index_or lines i Invalid)) 0 (parties * ways)

  abbrev pub vacant_in : ℕ → Option ℕ
  vacant_in q = first (λ i. not (is_held (slice_index_or lines i Invalid))) (q * ways) ways

  abbrev pub own_line_in : ℕ → ℕ → Option ℕ
  own_line_in p a = first (λ i. is_of a (slice_index_or lines i Invalid)) (p * ways) ways

abbrev pub after_last_in : ℕ → ℕ → ℕ → ℕ
after_last_in parties last d = (last + 1 + d) % parties

abbrev pub next_waiting : {V P : Type 0} → ℕ → List (Register V P) → ℕ → ℕ → Option ℕ
next_waiting parties rs a last = option_map (after_last_in parties last) (first (λ d. waits_for a (slice_index_or rs (after_last_in parties last d) Empty)) 0 parties)

abbrev pub served_at : {V P : Type 0} → ℕ → List (Register V P) → ℕ → ℕ → Option ℕ → Option ℕ
served_at parties rs a last (Some q) = Some q
served_at parties rs a last None = next_waiting parties rs a last
