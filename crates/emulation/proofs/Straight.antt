-- The short instructions whose routine is straight code: where listing, run and law meet the wide core.
use Prim.Native.Nat.{ℕ, suc, ◌+◌, ◌-◌, ◌*◌, ◌/◌, ◌^◌, ◌≤◌, ◌<◌}
use mathlib.Core.Path.{◌≡◌, refl, ap}
use mathlib.Core.Bool.{Bool, true, false, cond}
use mathlib.Core.List.{List, [], ◌∷◌}
use mathlib.Core.Option.{some}
use native.Mathlib.Omega.{arith}
use borrow.Author.Tests.{lt-ltb, ltb-true, leb-true}
use lib.ListN.{length}
use lib.Dec.{ltb, leb}
use Rattle.memory.proofs.Tests.{In, both, at_entry}
use Rattle.memory.proofs.Memory.{read_lt}
use Rattle.arithmetic.specs.Words.{one_if}
use Rattle.machine.specs.declared.Core.TheVariants.{Narrow, Wide}
use Rattle.machine.specs.declared.State.{State}
use Rattle.machine.specs.State.{Place, fetched}
use Rattle.machine.specs.Instructions.{Instr.EMULATE, decode}
use Rattle.machine.specs.Table.{A, B, doing, step_of}
use Rattle.machine.specs.Run.{steps}
use Rattle.frame.proofs.Window.{small}
use Rattle.routines.specs.Constants.{first_stack_word}
use Rattle.routines.proofs.Entries.{law_at, same_at}
use Rattle.routines.proofs.Straight.{Straight, rows, code_of, at_vector, taken_for_emulate, operands, one_or_two, one_or_two_lem, act_of, meanings}
use Rattle.routines.proofs.Runs.{runs_to_end}
use Rattle.paths.proofs.Paths.{Stand, stand, Arrives, ◌then◌}
use Rattle.paths.proofs.Joints.{jumps}
use Rattle.emulation.specs.Emulation.{WithPage, Reached, dirt_of}
use Rattle.emulation.proofs.WideStep.{WideStep, wide_step}
use Rattle.emulation.proofs.Entry.{Begins, base, space, enters}
use Rattle.emulation.proofs.Ends.{Settled, matched, word_left, nothing_left}

module _ {o : Straight} (member : In o rows) where
  some_operand : (0 < operands o) × (operands o ≤ 2)
  some_operand =
      let (x, y) = both (ltb 0 (operands o)) (leb (operands o) 2) (at_entry one_or_two rows one_or_two_lem member) in
      (ltb-true _ _ x, leb-true _ _ y)

  module _ (p q : Place) (start : WithPage p) (here : fetched p ≡ o.byte) (room : first_stack_word + suc o.depth ≤ p.state.sp.0)
      (one : steps Wide 1 p ≡ some q) where
    abbrev m : List ℕ
    m = p.memory

    abbrev s : State
    s = p.state

    abbrev c : ℕ
    c = s.pc.0

    abbrev sp : ℕ
    sp = s.sp.0

    abbrev target : ℕ
    target = o.target c (A m s) (B m s)

    abbrev value : ℕ
    value = o.value c sp (A m s) (B m s)

    wide : WideStep (operands o) (act_of m s o o.has_value) p q
    wide = wide_step here (law_at (meanings m s) member) one

    begins : Begins o.byte (operands o) o.depth p
    begins = record {
      start = start;
      inside = wide.inside;
      here = here;
      taken_for_emulate = same_at (λ o. decode Narrow o.byte) (λ o. EMULATE (o.byte - 32)) rows taken_for_emulate member;
      room = room;
      at_most_two = some_operand.1;
      there = wide.there some_operand.0;
    }

    -- where the narrow core arrives, where t says whether a word is left
    abbrev after : Bool → Stand
    after t = stand target (suc o.depth + o.popped) false (cond t (value ∷ []) []) m

    abbrev Arrived : Bool → Type 0
    Arrived t = Arrives (space begins) (1 + length (code_of o)) p (after t)

    arrived : Arrived o.has_value
    arrived =
        let at_sp : base begins + suc o.depth ≡ sp = omega arith in
        let hA : A m s < 2 ^ 32 = read_lt m (4 * sp) 4 start.bytes in
        let hB : B m s < 2 ^ 32 = read_lt m (4 * (sp + 1)) 4 start.bytes in
        enters begins then jumps (code_of o) (at_vector member) (rw at_sp at (runs_to_end (base begins) c refl hA hB member))

    settled : (t : Bool) → o.has_value ≡ t → step_of Wide p ≡ doing m s (act_of m s o t) → Arrived t → Settled begins q (after t)
    settled true e is a =
        let n : operands o ≡ o.popped + 1 = ap (λ (t : Bool). o.popped + one_if t) e in
        let inside = lt-ltb (sp + o.popped) (length m / 4) (omega (arith, begins.there)) in
        word_left begins o.popped n (small a.holds.window 0 (omega arith)) wide.lands (rw inside at is)
    settled false e is a = nothing_left begins o.popped wide.lands is

    pub straight : Reached (1 + length (code_of o)) p q (dirt_of (suc o.depth) p q)
    straight = matched begins arrived (settled o.has_value refl wide.is arrived) one
