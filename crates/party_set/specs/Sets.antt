-- The words of a set of parties
--   has          a party is in the set
--   nobody       the empty set, and is_nobody the test for it
--   with         the set and one party more
--   without      the set and one party less
--   lowest_from  the lowest party of the set from i on, and lowest that of the whole set
use Rattle.std.specs.Prelude.{ℕ, ◌+◌, ◌-◌, ◌/◌, ◌%◌, ◌^◌, Bool, Option, ◌==◌, bit_or, bit_xor}
use Rattle.party_set.specs.Searches.{first}
use Rattle.party_set.specs.declared.PartySet.{PartySet}

-- bit q of the members says whether q is one
abbrev pub has : PartySet → ℕ → Bool
has h q = h.members / 2 ^ q % 2 == 1

abbrev pub nobody : PartySet
nobody = record { members = 0 }

abbrev pub is_nobody : PartySet → Bool
is_nobody h = h.members == 0

abbrev pub with : PartySet → ℕ → PartySet
with h q = record { members = bit_or h.members (2 ^ q) }

abbrev pub without : PartySet → ℕ → PartySet
without h q = record { members = bit_xor (bit_or h.members (2 ^ q)) (2 ^ q) }

-- shut, since a search over sixteen numbers written out makes long goals
unfoldable pub lowest_from : PartySet → ℕ → Option ℕ
lowest_from h i = first (has h) (0 + i) (16 - i)

abbrev pub lowest : PartySet → Option ℕ
lowest h = lowest_from h 0
