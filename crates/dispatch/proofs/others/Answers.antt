use Rattle.std.proofs.Common.{arith, rules}
use Rattle.dispatch.proofs.Rest.{rest}
use Rattle.dispatch.proofs.others.Goals as goal

pub returns-in_default : goal.returns-in_default
returns-in_default c =
    rw (rest c.args.byte (omega arith) c.requires.no_family (search rules)) c.addsp_or_illegal.ensures
