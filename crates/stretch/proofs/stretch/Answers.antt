use Rattle.std.proofs.Common.{◌+◌, ◌-◌, refl, ◌∙◌, arith}
use Rattle.stretch.proofs.Reaching.{none_done}
use Rattle.stretch.proofs.Under.{moved_on, came, jumped}
use Rattle.stretch.proofs.stretch.Goals as goal

pub returns-then-m : goal.returns-then-m
returns-then-m c = record { reaches = none_done c.args.left refl; image = refl }

pub loop-sp-init : goal.loop-sp-init
loop-sp-init c =
    let a = c.args in (
      record {
        so_far = record {
          ready = a.m.now.ready;
          reaches = none_done (a.m.now.state.pc.0 + a.left - a.m.now.state.pc.0) (omega arith);
        };
        last_byte = omega arith;
        before_halt = omega arith;
        before_last = omega arith;
        before_goal = omega arith;
        fits = omega arith;
      },
      refl,
    )

pub invariant_of-m : goal.invariant_of-m
invariant_of-m c =
    let d = rw (c.in-Some-Ok-Next.field-0-is, c.in-Some-Ok-Next.field-0-0-is) at c.in-Some-Ok-Next.ensures in
    record { ready = rw c.next-m.ensures (moved_on c.loop-sp.invariant.0 d.0 d.1.carried refl).so_far.ready }

pub loop-sp-preserved-in-Next-1 : goal.loop-sp-preserved-in-Next-1
loop-sp-preserved-in-Next-1 c =
    let d = rw (c.in-Some-Ok-Next.field-0-is, c.in-Some-Ok-Next.field-0-0-is) at c.in-Some-Ok-Next.ensures in
    (rw c.next-m.ensures (moved_on c.loop-sp.invariant.0 d.0 d.1.carried refl), d.1.image ∙ c.loop-sp.invariant.1)

pub invariant_of-m-in-Some-Ok-NextFlagged : goal.invariant_of-m-in-Some-Ok-NextFlagged
invariant_of-m-in-Some-Ok-NextFlagged c =
    let d = rw (c.in-Some-Ok-NextFlagged.field-0-is, c.in-Some-Ok-NextFlagged.field-0-0-is) at c.in-Some-Ok-NextFlagged.ensures in
    record { ready = rw c.next_flagged-m.ensures (moved_on c.loop-sp.invariant.0 d.0 d.1.carried refl).so_far.ready }

pub loop-sp-preserved-in-NextFlagged-1 : goal.loop-sp-preserved-in-NextFlagged-1
loop-sp-preserved-in-NextFlagged-1 c =
    let d = rw (c.in-Some-Ok-NextFlagged.field-0-is, c.in-Some-Ok-NextFlagged.field-0-0-is) at c.in-Some-Ok-NextFlagged.ensures in
    (rw c.next_flagged-m.ensures (moved_on c.loop-sp.invariant.0 d.0 d.1.carried refl), d.1.image ∙ c.loop-sp.invariant.1)

pub invariant_of-m-in-Some-Ok-Jump : goal.invariant_of-m-in-Some-Ok-Jump
invariant_of-m-in-Some-Ok-Jump c =
    let d = rw (c.in-Some-Ok-Jump.field-0-is, c.in-Some-Ok-Jump.field-0-0-is) at c.in-Some-Ok-Jump.ensures in
    record { ready = rw c.jump-m.ensures (came c.loop-sp.invariant.0 d.0 d.1.carried _ refl).ready }

pub returns-then-last-at : goal.returns-then-last-at
returns-then-last-at c =
    let d = rw (c.in-Some-Ok-Jump.field-0-is, c.in-Some-Ok-Jump.field-0-0-is) at c.in-Some-Ok-Jump.ensures in
    let h = c.left_here.ensures in
    let left = rw c.jump-m.ensures at h.left in
    record {
      reaches = rw (h.machine.memory, h.machine.state, c.jump-m.ensures)
          (came c.loop-sp.invariant.0 d.0 d.1.carried c.left_here.result (omega (arith, left))).reaches;
      image = h.machine.image ∙ d.1.image ∙ c.loop-sp.invariant.1;
    }

pub loop-sp-preserved : goal.loop-sp-preserved
loop-sp-preserved c =
    let d = rw (c.in-Some-Ok-Jump.field-0-is, c.in-Some-Ok-Jump.field-0-0-is) at c.in-Some-Ok-Jump.ensures in (
      rw c.jump-m.ensures
          (jumped c.loop-sp.invariant.0 d.0 d.1.carried (omega arith) (omega arith) c.min-halt-in-Some-Ok-Jump.ensures),
      d.1.image ∙ c.loop-sp.invariant.1,
    )
