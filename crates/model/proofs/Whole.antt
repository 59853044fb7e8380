-- The laws, together
use Rattle.std.proofs.Common.{◌≡◌, List, None}
use Rattle.model.proofs.Legality.{tabled_legal}
use Rattle.model.proofs.Prompt.{prompt_run}
use Rattle.model.proofs.Recorded.{faithful}
use Rattle.model.proofs.Refusals.{undamaged_run}
use Rattle.model.proofs.Runs.{coherent_run, counted_run, made_inv, run_keeps}
use Rattle.model.specs.Bench.{Bench, Sound, State}
use Rattle.model.specs.Laws.{LawsHold}
use Rattle.model.specs.Reference.{at_making}
use Rattle.model.specs.Steps.{events, final, made, make_refusal}
use Rattle.model.specs.declared.call.Call.{Call}

pub whole : {V P R : Type 0} (k : Bench V P R) → Sound k → (s : State V P R) → make_refusal k s ≡ None → (cs : List (Call V P)) → LawsHold k s.home (events k (made k s) cs) (final k (made k s) cs)
whole k sound s ok cs = record {
  coherent = coherent_run k sound s ok cs;
  prompt = prompt_run k sound s ok cs;
  counted = counted_run k sound s ok cs;
  undamaged = undamaged_run k sound s ok cs;
  faithful = λ front back e. faithful k.op sound.lawful s.home front;
  legal = tabled_legal k (final k (made k s) cs) (run_keeps k sound cs (made k s) (at_making s.home) (made_inv k sound s ok)).tabled;
}
