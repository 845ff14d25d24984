-- How far a run has come.
use Rattle.std.specs.Prelude.{ℕ, ◌-◌, ◌≤◌, ◌≡◌}
use Rattle.std.proofs.Math.Option.{some}
use Rattle.machine.specs.declared.Core.{Core}
use Rattle.machine.specs.declared.machine.Machine.{Machine}
use Rattle.machine.specs.State.{Place}
use Rattle.machine.specs.Run.{steps}
use Rattle.machine.specs.Machines.{at}

-- with l steps left at p it has come to p' with l' left, by l - l' steps, none of which stopped or was refused
pub record Reaches (core : Core) (l : ℕ) (p : Place) (l' : ℕ) (p' : Place) : Type 0 where
  pub no_more : l' ≤ l
  pub by_steps : steps core (l - l') p ≡ some p'

-- so has the machine p, which is then q: it is of the same image
pub record Stretches (core : Core) (l : ℕ) (p : Machine) (l' : ℕ) (q : Machine) : Type 0 where
  pub reaches : Reaches core l (at p) l' (at q)
  pub image : q.image.ghost_name ≡ p.image.ghost_name
