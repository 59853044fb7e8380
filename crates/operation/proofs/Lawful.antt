-- The five laws of a bound `O: Operation`, as one record: `lawful g.met.O.Operation`
use mir.Syntax.{Dict}
use types.Logic.{Logic}
use contract.Running.{Running}
use denote.RattleType.{RattleType}
use seplogic.Ra.Ura.{Ura}
use prog.Model.{Model}
use prog.Routine.{Env}
use Rattle.std.specs.declared.clone.Clone as clone
use Rattle.operation.specs.Algebra.{Lawful}
use Rattle.operation.specs.declared.Operation.{Ghosts}
use Rattle.operation.specs.contracts.Operation.TheBound.{Met}

pub lawful : {M : Type 1} {𝓤 : Ura M} {𝓛 : Logic 𝓤} {𝓜 : Model 𝓤 𝓛.H} {𝓡 : Running 𝓤 𝓛.H 𝓜} {γ : Env} {O V P : RattleType} {o : Ghosts O.Denot V.Denot P.Denot} {d : Dict} {v : clone.Ghosts V.Denot} {dv : Dict} {p : clone.Ghosts P.Denot} {dp : Dict} → Met 𝓛 𝓜 𝓡 γ O V P o d v dv p dp → Lawful o.algebra
lawful m = record { assoc = m.assoc; comm = m.comm; unit = m.unit; still = m.still; twice = m.twice }
