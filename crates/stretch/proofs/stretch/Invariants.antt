-- What holds at the head of the loop is that a stretch is under way; by each turn the counter comes nearer to the limit.
use Rattle.std.proofs.Common.{◌≡◌, ◌-◌}
use Rattle.machine.specs.Machines.{at}
use Rattle.stretch.proofs.Under.{Under}
use Rattle.stretch.proofs.stretch.Given as goal

abbrev pub invariant-loop-sp : goal.invariant-loop-sp
invariant-loop-sp l =
    Under l.core l.left (at l.initial.m) l.m.image.now l.m.state l.goal l.last l.halt
    × (l.m.image.ghost_name ≡ l.initial.m.image.ghost_name)

abbrev pub decreases-loop-sp : goal.decreases-loop-sp
decreases-loop-sp l = l.goal - l.m.state.pc.0
