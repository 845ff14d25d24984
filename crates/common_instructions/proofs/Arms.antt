-- What an arm did.
use Prim.Native.Nat.{ℕ}
use mathlib.Core.Path.{◌≡◌, subst}
use mathlib.Core.Bool.{Bool, true, false}
use mathlib.Core.Logic.{◌⊎◌}
use Rattle.std.proofs.Common.{None, Some, Result}
use Rattle.std.proofs.Math.Option as logic
use Rattle.machine.specs.declared.Outcome.{Outcome}
use Rattle.machine.specs.declared.Way.{Way}
use Rattle.machine.specs.declared.machine.Machine.{Machine}
use Rattle.machine.specs.Instructions.{Instr}
use Rattle.machine.specs.Machines.{With, Does}
use Rattle.classes.specs.declared.Class.{Class}
use Rattle.classes.specs.Classes.{Agrees}
use Rattle.common_instructions.specs.Tried.{Tried}

pub of : (b : ℕ) {class : Class} → Agrees class b → (arm : Class) → class ≡ arm → Agrees arm b
of b h arm e = subst (λ (c : Class). Agrees c b) e h

module _ {p q : Machine} where
  pub nothing : {told : logic.Option Instr} (i : Instr) {pause : Bool} → With p p.image.now q → (pause ≡ true) ⊎ (told ≡ logic.none)
      → Tried p told i pause None q
  nothing i w h = (w, h)

  -- the instruction that the byte is was carried out
  pub did : (told : logic.Option Instr) {i j : Instr} {pause : Bool} (r : Result Way Outcome) → i ≡ j → pause ≡ false → Does p j r q
      → Tried p told i pause (Some r) q
  did told r h n c = (n, rw h c)
