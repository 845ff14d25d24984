use Rattle.std.proofs.Common.{rules, subst, take, arith}
use Rattle.zpurun.specs.Printing.{IsFront}
use Rattle.zpurun.proofs.Reading.{is_front, if_true}
use Rattle.zpurun.proofs.image.Goals as goal

pub returns : goal.returns
returns g c =
    let read = c.read_full-length in
    rw c.then_some.ensures
    (if_true c.is_whole.result _ (λ s. IsFront (g.R.Read.remaining c.args.input.now) s.now) λ whole.
    subst (λ n. IsFront (g.R.Read.remaining c.args.input.now) (take n read.new.buffer)) (omega arith)
    (is_front _ _ read.new.buffer read.result (search rules) (search rules) read.ensures.bytes (c.is_whole.ensures.whole whole)))
