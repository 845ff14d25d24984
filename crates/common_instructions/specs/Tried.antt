-- What is promised of the common instructions.
use Rattle.std.specs.Prelude.{◌≡◌, Bool, false, true, None, Some, ◌⊎◌}
use Rattle.std.specs.declared.option.Option.{Option}
use Rattle.std.specs.declared.result.Result.{Result}
use Rattle.std.proofs.Math.Option as logic
use Rattle.machine.specs.declared.Outcome.{Outcome}
use Rattle.machine.specs.declared.Way.{Way}
use Rattle.machine.specs.declared.machine.Machine.{Machine}
use Rattle.machine.specs.Instructions.{Instr}
use Rattle.machine.specs.Machines.{With, Does}

-- the instruction i, if the class told one, was carried out and goes by a way or is refused; or nothing was done, since the run is
-- to pause or the class told none
abbrev pub Tried : Machine → logic.Option Instr → Instr → Bool → Option (Result Way Outcome) → Machine → Type 0
Tried p told i pause None q = With p p.image.now q × ((pause ≡ true) ⊎ (told ≡ logic.none))
Tried p told i pause (Some r) q = (pause ≡ false) × Does p i r q
