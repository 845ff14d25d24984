use Rattle.std.proofs.Common.{length, sym, ◌∙◌, inl, inr, rules}
use Rattle.memory.proofs.Lengths.{good}
use Rattle.laws.proofs.Turns.{run_image, run_start, run_goes}
use Rattle.zpu.proofs.run.Goals as goal

pub returns-in-Err : goal.returns-in-Err
returns-in-Err c =
    let a = c.args in
    elim c.in-Err.ensures [
      | inl i ↦ rw i.0 (sym (run_image a.core a.limit a.image.now a.start i.1))
      | inr s ↦ rw s.0 (sym (run_start a.core a.limit a.image.now a.start s.1 s.2))
    ]

pub invariant_of-machine : goal.invariant_of-machine
invariant_of-machine c =
    let h = c.in_default.ensures in
    let g = good (length c.args.image.now) h.0 in
    record { ready = record { not_over = g.not_over; whole = g.whole; sp_inside = h.1 } }

pub returns : goal.returns
returns c =
    let a = c.args in
    let h = c.in_default.ensures in
    let e = c.run_from.ensures.end ∙ sym (run_goes a.core a.limit a.image.now a.start h.0 h.1) in search (rules, e)
