use Rattle.std.proofs.Common.{rules, refl, arith}
use Rattle.machine.specs.Table.{effect_of, row}
use Rattle.machine.proofs.Stack.{offset_past, offset_puts, carries, stays}
use Rattle.stack_instructions.proofs.offsets.addsp.Goals as goal

pub returns-in_err-at : goal.returns-in_err-at
unfolding effect_of row
returns-in_err-at c = stays (search rules) (offset_past c.args.n _ (c.in_err-at.ensures.1))

pub returns : goal.returns
unfolding effect_of row
returns c = carries c.write.ensures (offset_puts c.args.n _ (omega arith) refl c.args.m.now.state.sp.0 _ (omega arith) (search rules))
