-- An operation with the laws and a rule that names an existing way make a sound bench
use Rattle.std.proofs.Common.{ℕ, ◌<◌}
use Rattle.operation.specs.Algebra.{Algebra, Lawful}
use Rattle.victim.specs.Rules.{Rule, Servable}
use Rattle.model.specs.Bench.{Sound, State, bench}

pub sound : {V P R : Type 0} (op : Algebra V P) (victim : Rule R) (ways : ℕ) (s : State V P R) → Lawful op → ((x : R) (p w : ℕ) → Servable p w → victim.picked x p w < w) → Sound (bench op victim ways s)
sound op victim ways s law picks = record { lawful = law; picks = picks }
