-- The stack pointer that a run hands back fits 32 bits, since the given one does.
use Rattle.std.proofs.Common.{arith}
use Rattle.machine.specs.State.{place}
use Rattle.laws.proofs.Bounds.{sp_fits}
use Rattle.zpu_c.proofs.zpu_run.Goals as goal

pub overflow_cast-result : goal.overflow_cast-result
overflow_cast-result c =
    let start = place c.args.image.now c.from.result in
    omega (arith, rw (← c.run-end.ensures) at (sp_fits c.core_of.result c.args.limit start c.from.ensures.1))
