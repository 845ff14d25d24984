-- What the values that pass to and from C stand for.
use Rattle.std.specs.Prelude.{ℕ, ◌≡◌, cond, not, List, eqb}
use Rattle.machine.specs.declared.Core.{Core}
use Rattle.machine.specs.declared.Core.TheVariants.{Narrow, Wide}
use Rattle.machine.specs.declared.State.{State}
use Rattle.machine.specs.State.{state}
use Rattle.machine.specs.Run.{Ran}
use Rattle.zpu_c.specs.declared.CState.{CState}
use Rattle.zpu_c.specs.declared.CEnd.{CEnd}

-- core 1 is the wide one, and any other number the narrow one
abbrev pub core_of : ℕ → Core
core_of n = cond (eqb n 1) Wide Narrow

-- a flag other than 0 is set
abbrev pub state_of : CState → State
state_of s = state s.pc s.sp (not (eqb s.flag 0))

-- the flag handed back is 0 or 1
abbrev pub flag_of : State → ℕ
flag_of s = cond s.flag 1 0

-- e is the end of the run r, which leaves the image m
pub record Tells (e : CEnd) (m : List ℕ) (r : Ran) : Type 0 where
  pub outcome : e.outcome ≡ r.outcome
  pub steps : e.steps ≡ r.steps
  pub pc : e.state.pc ≡ r.place.state.pc.0
  pub sp : e.state.sp ≡ r.place.state.sp.0
  pub flag : e.state.flag ≡ flag_of r.place.state
  pub image : m ≡ r.place.memory
