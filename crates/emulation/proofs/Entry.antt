-- How a short instruction begins on the narrow core: EMULATE leads to the stand at its vector.
use Prim.Native.Nat.{ℕ, zero, suc, ◌+◌, ◌-◌, ◌*◌, ◌/◌, ◌≤◌, ◌<◌}
use mathlib.Core.Path.{◌≡◌, refl, sym, ap, ◌∙◌}
use mathlib.Core.Bool.{false}
use mathlib.Core.List.{List, [], ◌∷◌}
use native.Mathlib.Nat.{add-zero}
use native.Mathlib.Omega.{arith}
use borrow.Author.Tests.{lt-ltb}
use lib.ListN.{length, get_or, take}
use lib.Seq.{length-take-le, get_or-take}
use Rattle.memory.specs.Memory.{set_bytes, word}
use Rattle.memory.proofs.Lengths.{good}
use Rattle.arithmetic.specs.Words.{wrap}
use Rattle.machine.specs.declared.Core.TheVariants.{Narrow}
use Rattle.machine.specs.State.{Place, fetched}
use Rattle.machine.specs.Instructions.{Instr.EMULATE, decode}
use Rattle.machine.specs.Table.{A, B, row, effect_of, step_of}
use Rattle.machine.proofs.Stack.{has_room}
use Rattle.laws.proofs.Steps.{one_step}
use Rattle.frame.proofs.Window.{Window, grown}
use Rattle.routines.specs.Constants.{page_length, first_stack_word}
use Rattle.routines.specs.Page.{vector}
use Rattle.paths.proofs.Paths.{Paged, Space, Stand, stand, Arrives}
use Rattle.emulation.specs.Emulation.{WithPage}

-- at p the byte b of a short one is fetched, with n operands there and k words free below the return address
pub record Begins (b n k : ℕ) (p : Place) : Type 0 where
  pub start : WithPage p
  pub inside : p.state.pc.0 < length p.memory
  pub here : fetched p ≡ b
  pub taken_for_emulate : decode Narrow b ≡ EMULATE (b - 32)
  pub room : first_stack_word + suc k ≤ p.state.sp.0
  pub at_most_two : n ≤ 2
  pub there : p.state.sp.0 + n ≤ length p.memory / 4

module _ {b n k : ℕ} {p : Place} (R : Begins b n k p) where
  abbrev m : List ℕ
  m = p.memory

  abbrev sp : ℕ
  sp = p.state.sp.0

  abbrev return : ℕ
  return = wrap (p.state.pc.0 + 1)

  abbrev first_two : List ℕ
  first_two = A m p.state ∷ B m p.state ∷ []

  abbrev pub operand_words : List ℕ
  operand_words = take n first_two

  abbrev pub base : ℕ
  base = sp - suc k

  abbrev pub end : ℕ
  end = sp + n

  pub above : first_stack_word ≤ base
  above = omega (arith, R.room)

  abbrev pub space : Space
  space = record { base = base; end = end; above = above }

  abbrev pub entry : Stand
  entry = stand (vector b) k false (return ∷ operand_words) m

  length-operands : length operand_words ≡ n
  length-operands = length-take-le n first_two R.at_most_two

  operand : (j : ℕ) → j < 2 → word m (sp + j) ≡ get_or first_two j 0
  operand zero h = rw (add-zero sp)
  operand (suc zero) h = refl
  operand (suc (suc j)) h = absurd (omega arith)

  before : Window base end (suc k) m m operand_words
  before = record {
    inside = omega (arith, R.there);
    in_reach = omega (arith, good (length m) R.start.good_length, R.there);
    fits = rw length-operands (omega (arith, R.room));
    outside = λ x o. refl;
    holds = λ j h.
        let l : j < n = rw length-operands at h in
        let at_sp : base + suc k ≡ sp = omega (arith, R.room) in
        rw at_sp (operand j (omega (arith, R.at_most_two)) ∙ sym (get_or-take n first_two j 0 l));
    bytes = R.start.bytes;
  }

  paged : Paged m
  paged x h = sym (get_or-take page_length m x 0 h) ∙ ap (λ (l : List ℕ). get_or l x 0) R.start.page_in_place

  pub enters : Arrives space 1 p entry
  unfolding step_of effect_of row
  enters =
      let under : sp - 1 ≡ base + k = omega (arith, R.room) in
      record {
        count = 1;
        within = omega arith;
        memory = set_bytes m (4 * (base + k)) 4 return;
        reached = one_step Narrow p _ (rw (
          lt-ltb p.state.pc.0 (length m) R.inside,
          R.here,
          R.taken_for_emulate,
          has_room m p.state _ return (omega (arith, R.room)) (omega (arith, R.there)),
          under,
        ));
        holds = record { window = grown return (omega arith) before; paged = paged };
      }
