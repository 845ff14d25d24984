use Rattle.std.proofs.Common.{rules, refl, arith}
use Rattle.machine.specs.Table.{effect_of, row}
use Rattle.machine.proofs.Stack.{offset_past, offset_does, carries, stays}
use Rattle.stack_instructions.proofs.offsets.storesp.Goals as goal

pub returns-in_err-at : goal.returns-in_err-at
unfolding effect_of row
returns-in_err-at c = stays (search rules) (offset_past c.args.n _ (c.in_err-at.ensures.1))

pub returns : goal.returns
unfolding effect_of row
returns c = carries c.write.ensures (offset_does c.args.n _ (omega arith) refl _ _ _ (search rules))
