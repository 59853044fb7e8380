use Rattle.std.proofs.Common.{◌≡◌, ℕ, ◌<◌, true, length, get_or, Decides, subst, sym, rules, tests}
use Rattle.std.proofs.lemmas.Iterator.{YieldsList-from_slice, YieldsList-from_zip}
use Rattle.std.proofs.lemmas.Iterator.Consumers.{YieldsList-at, YieldsList-from_enumerate}
use Rattle.std.proofs.lemmas.Iterator.Search.{all_from_yields_List}
use Rattle.tables.specs.declared.entry.Entry.{Entry}
use Rattle.party_set.specs.declared.PartySet.{PartySet}
use Rattle.party_set.specs.Sets.{nobody}
use Rattle.tables.specs.Legal.{blank}
use Rattle.audit.specs.Audit.{entry_right}
use Rattle.audit.proofs.Paired.{each_entry}
use Rattle.audit.proofs.directory.directory_right.Goals as goal

pub returns : goal.returns
returns g c =
    let answer = all_from_yields_List (λ (p : ℕ × (Entry × PartySet)). entry_right c.args.registers.now p.0 p.1.0 p.1.1) c.all.new.self _ c.all.result c.all.ensures.ran
    (YieldsList-from_enumerate
    (YieldsList-at c.enumerate.ensures.source (YieldsList-from_zip (YieldsList-at c.zip.ensures.first (YieldsList-from_slice c.args.directory.now c.iter.ensures.rest)) (YieldsList-from_slice c.args.found.now cc)))
    c.enumerate.ensures.count)
    (λ x b q k. search (rules, tests)) in
    subst (λ r. Decides r ((a : ℕ) → a < length c.args.directory.now → entry_right c.args.registers.now a (get_or c.args.directory.now a (blank 0)) (get_or c.args.found.now a nobody) ≡ true)) (sym answer)
    (each_entry c.args.registers.now c.args.directory.now c.args.found.now c.requires)
