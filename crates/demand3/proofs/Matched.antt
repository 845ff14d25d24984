-- What one wide step asks of the narrow core.
use Prim.Native.Nat.{ℕ, ◌≤◌, ◌<◌}
use mathlib.Core.Path.{◌≡◌}
use mathlib.Core.Bool.{false}
use Rattle.machine.specs.State.{Place}
use Rattle.machine.specs.Effects.{Effect, landed}
use Rattle.routines.specs.Constants.{page_length, step_bound}
use Rattle.emulation.specs.LeftBehind.{Dirt}
use Rattle.emulation.specs.Emulation.{Reached}
use Rattle.demand3.specs.Dirt.{dirtied}

-- from x the narrow core does what the effect e does there, but for bytes that are dirty after e at p, and none of them in the page
pub record Matched (e : Effect) (p : Place) (d : Dirt) (x : Place) : Type 0 where
  pub bound : ℕ
  pub few : bound ≤ step_bound
  pub dirt : Dirt
  pub reaches : Reached bound x (landed e x) dirt
  pub no_more : (a : ℕ) → dirtied e p d a ≡ false → dirt a ≡ false
  pub off_page : (a : ℕ) → a < page_length → dirt a ≡ false
