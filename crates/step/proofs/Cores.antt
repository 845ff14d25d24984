-- Where the two cores have the same instruction: below 32, and from 64 on.
use Prim.Native.Nat.{ℕ, ◌<◌, ◌≤◌}
use mathlib.Core.Path.{◌≡◌, refl}
use native.Mathlib.Omega.{arith}
use borrow.Author.Tests.{lt-ltb, le-ltb}
use Rattle.machine.specs.declared.Core.{Core}
use Rattle.machine.specs.declared.Core.TheVariants.{Narrow, Wide}
use Rattle.machine.specs.Instructions.{decode}
use Rattle.step.specs.Dispatched.{dispatched}

pub below : (core : Core) (b : ℕ) → b < dispatched core → (b < 64) × (decode core b ≡ decode Wide b)
unfolding decode
below Narrow b h = (omega arith, rw (lt-ltb b 32 h) refl)
below Wide b h = (h, refl)

pub above : (core : Core) (b : ℕ) → dispatched core ≤ b → (32 ≤ b) × (decode core b ≡ decode Narrow b)
unfolding decode
above Narrow b h = (h, refl)
above Wide b h = (omega arith, rw (le-ltb b 64 h) refl)
