use Rattle.std.proofs.Common.{sym, ◌∙◌, refl, rules, tests}
use Rattle.std.proofs.lemmas.Iterator.{YieldsList-from_range}
use Rattle.std.proofs.lemmas.Iterator.Search.{find_from_yields_List}
use Rattle.std.proofs.lemmas.Iterator.Adapters.{option_map_id}
use Rattle.party_set.specs.Sets.{has, lowest_from}
use Rattle.party_set.proofs.Searches.{first_find}
use Rattle.party_set.proofs.PartySet.lowest.Goals as goal

pub returns : goal.returns
unfolding lowest_from
returns c = sym (option_map_id _) ∙ find_from_yields_List (has c.args.self) _ _ c.find.result c.find.ensures.ran (YieldsList-from_range 0 16 16 (search rules) refl) (λ x b q k. search (rules, tests)) ∙ first_find (has c.args.self) 0 16
