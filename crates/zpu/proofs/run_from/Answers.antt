use Rattle.std.proofs.Common.{◌≡◌, ℕ, ◌-◌, refl, sym, ap, ◌∙◌, arith}
use Rattle.machine.specs.Run.{steps}
use Rattle.machine.specs.Machines.{at}
use Rattle.laws.proofs.Turns.{spent, last}
use Rattle.stretch.proofs.Reaching.{none_done, joined, stepped}
use Rattle.zpu.proofs.run_from.Goals as goal

pub loop-left-init : goal.loop-left-init
loop-left-init c = (record { ready = c.args.m.now.ready; reaches = none_done c.args.limit refl }, refl)

pub returns-in_default-clause-end : goal.returns-in_default-clause-end
returns-in_default-clause-end c =
    let a = c.args in
    let l = c.loop-left in
    let so_far = l.invariant.0.reaches in
    rw c.ended_by.ensures
    (sym (last a.core (a.limit - l.left) (at a.m.now) so_far.by_steps c.step-answer.ensures.carried a.limit
    (omega (arith, so_far.no_more)) c.in_default.not-Done))

pub invariant_of-m : goal.invariant_of-m
invariant_of-m c = record { ready = (stepped c.loop-left.invariant.0 c.in-Done.ensures.carried (omega arith)).ready }

pub loop-left-preserved-then-left-gt0 : goal.loop-left-preserved-then-left-gt0
loop-left-preserved-then-left-gt0 c =
    let l = c.loop-left in
    let d = c.in-Done.ensures in
    let v = stepped l.invariant.0 d.carried (omega arith) in
    let w = c.stretch-left in (
      record { ready = w.new.m.ready; reaches = joined v.reaches w.ensures.reaches },
      w.ensures.image ∙ d.image ∙ l.invariant.1,
    )

pub loop-left-preserved : goal.loop-left-preserved
loop-left-preserved c =
    let l = c.loop-left in
    let d = c.in-Done.ensures in (stepped l.invariant.0 d.carried (omega arith), d.image ∙ l.invariant.1)

pub returns-clause-end : goal.returns-clause-end
returns-clause-end c =
    let a = c.args in
    let l = c.loop-left in
    let all : a.limit ≡ a.limit - l.left = omega arith in
    sym (spent a.core a.limit (at a.m.now)
    (ap (λ (n : ℕ). steps a.core n (at a.m.now)) all ∙ l.invariant.0.reaches.by_steps))
