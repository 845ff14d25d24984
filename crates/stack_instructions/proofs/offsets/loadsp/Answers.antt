use Rattle.std.proofs.Common.{rules}
use Rattle.machine.specs.Table.{effect_of, row}
use Rattle.machine.proofs.Stack.{word_past, word_there, carries, stays}
use Rattle.stack_instructions.proofs.offsets.loadsp.Goals as goal

pub returns-in_err-from : goal.returns-in_err-from
unfolding effect_of row
returns-in_err-from c = stays (search rules) (word_past c.args.n _ (c.in_err-from.ensures.1))

pub returns-in_err-push : goal.returns-in_err-push
unfolding effect_of row
returns-in_err-push c = carries c.in_err-push.ensures.2 (word_there c.args.n _ (c.in_ok-from.ensures.1) (search rules))

pub returns : goal.returns
unfolding effect_of row
returns c = carries c.in_ok-push.ensures.2 (word_there c.args.n _ (c.in_ok-from.ensures.1) (search rules))
