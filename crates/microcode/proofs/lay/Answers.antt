use Rattle.std.proofs.Common.{◌++◌, length, drop, refl, ap, arith}
use borrow.Author.Tests.{le-ltb}
use Rattle.routines.specs.Constants.{page_length}
use Rattle.routines.specs.Page.{page}
use Rattle.microcode.proofs.lay.Goals as goal

pub returns : goal.returns
unfolding page
returns c =
    let m = c.args.image.now in
    simp (le-ltb (length m) page_length (omega arith))
    (refl, ap (λ xs. xs ++ drop page_length m) c.copy_from_slice.ensures.after)
