use Rattle.std.proofs.Common.{◌≡◌}
use Rattle.machine.specs.Machines.{at}
use Rattle.stretch.proofs.Reaching.{SoFar}
use Rattle.zpu.proofs.run_from.Given as goal

abbrev pub invariant-loop-left : goal.invariant-loop-left
invariant-loop-left l =
    SoFar l.core l.limit (at l.initial.m) l.m.image.now l.m.state l.left
    × (l.m.image.ghost_name ≡ l.initial.m.image.ghost_name)

abbrev pub decreases-loop-left : goal.decreases-loop-left
decreases-loop-left l = l.left
