-- Demand 3 in the paper's words and numbers.
use Prim.Native.Nat.{ℕ, suc, ◌-◌, ◌*◌, ◌≤◌}
use mathlib.Core.Path.{◌≡◌, refl}
use mathlib.Core.Bool.{false, not, ◌&&◌, ◌||◌}
use mathlib.Core.Option.{some}
use Rattle.machine.specs.declared.Core.TheVariants.{Narrow, Wide}
use Rattle.machine.specs.State.{Place, fetched}
use Rattle.machine.specs.Effects.{Effect, state_after, landed}
use Rattle.machine.specs.Table.{step_of}
use Rattle.machine.specs.Run.{steps}
use Rattle.emulation.specs.LeftBehind.{Dirt, between, writes, leaves}
use Rattle.emulation.specs.Emulation.{WithPage}
use Rattle.demand3.specs.Dirt.{clean, is_short, dirtied}
use Rattle.demand3.specs.Demand3.{dirt_after, WideRun}
use Rattle.demand3.proofs.Theorem.{demand3}

-- at most 200 times n steps, of the narrow core
pub two_hundred_times : (n : ℕ) (p q : Place) (S : WithPage p) (R : WideRun n p q)
    → let r = demand3 n p q S R in
    (r.count ≤ 200 * n) × (steps Narrow r.count p ≡ some r.end)
two_hundred_times n p q S R = let r = demand3 n p q S R in (r.within_bound, r.reached)

-- at the start no byte is dirty
pub none_dirty : (a : ℕ) → clean a ≡ false
none_dirty a = refl

-- dirt along the wide run: what its steps leave
pub along : (n : ℕ) (p : Place) (d : Dirt)
    → let e : Effect = step_of Wide p in
    (dirt_after 0 p d ≡ d) × (dirt_after (suc n) p d ≡ dirt_after n (landed e p) (dirtied e p d))
unfolding dirt_after
along n p d = (refl, refl)

-- the words of dirt are the paper's: the 16 directly below the sp at its start, and those between the old and the new sp
pub sixteen_below : (e : Effect) (p : Place) (d : Dirt) (x : ℕ)
    → let old : ℕ = p.state.sp.0 in
    let new : ℕ = (state_after p.state e).sp.0 in
    dirtied e p d x
    ≡ not (writes e x) && (d x || is_short (fetched p) && (between (4 * (old - 16)) (4 * old) x || between (4 * old) (4 * new) x))
unfolding dirtied leaves
sixteen_below e p d x = refl
