-- Each short instruction is emulated.
use Prim.Native.Nat.{ℕ, ◌-◌, ◌*◌}
use mathlib.Core.Path.{◌≡◌, refl, subst}
use mathlib.Core.Bool.{not, ◌&&◌, ◌||◌}
use mathlib.Core.List.{List}
use Rattle.memory.proofs.Tests.{In}
use Rattle.machine.specs.declared.Core.TheVariants.{Wide}
use Rattle.machine.specs.State.{Place}
use Rattle.machine.specs.Table.{step_of}
use Rattle.routines.specs.Shorts.{Short, shorts}
use Rattle.routines.proofs.Entries.{Each, law_at, each_of}
use Rattle.routines.proofs.Straight.{rows, cost, costs}
use Rattle.emulation.specs.LeftBehind.{between, writes, leaves}
use Rattle.emulation.specs.Emulation.{dirt_of, Emulated}
use Rattle.emulation.proofs.Straight.{straight}

each : Each Emulated shorts
each = subst (λ (os : List Short). Each Emulated os) costs (each_of {P = Emulated} cost rows (λ o i. straight i))

pub emulates : {o : Short} → In o shorts → Emulated o
emulates i = law_at {P = Emulated} each i

-- the dirt is that of the words that are given, and of those between the old and the new sp
pub own_words : (w : ℕ) (p q : Place) (x : ℕ)
    → let old : ℕ = p.state.sp.0 in
    let new : ℕ = q.state.sp.0 in
    dirt_of w p q x ≡ not (writes (step_of Wide p) x) && (between (4 * (old - w)) (4 * old) x || between (4 * old) (4 * new) x)
unfolding leaves
own_words w p q x = refl
