-- Two results that a promise allows are equal.
use Prim.Native.Nat.{ℕ}
use mathlib.Core.Path.{◌≡◌, sym, ◌∙◌}
use mathlib.Core.List.{List}
use Rattle.machine.specs.Run.{Ran}
use Rattle.microcode.specs.Laying.{Lays}
use Rattle.zpu_c.specs.declared.CEnd.{CEnd}
use Rattle.zpu_c.specs.Values.{Tells}

pub one_end : (r : Ran) (e f : CEnd) (m n : List ℕ) → Tells e m r → Tells f n r → (e ≡ f) × (m ≡ n)
one_end r e f m n h k = (
  λ i. record {
    outcome = same_outcome i;
    steps = same_steps i;
    state = record { pc = same_pc i; sp = same_sp i; flag = same_flag i };
  },
  h.image ∙ sym k.image,
)
  where
    same_outcome : e.outcome ≡ f.outcome
    same_outcome = h.outcome ∙ sym k.outcome

    same_steps : e.steps ≡ f.steps
    same_steps = h.steps ∙ sym k.steps

    same_pc : e.state.pc ≡ f.state.pc
    same_pc = h.pc ∙ sym k.pc

    same_sp : e.state.sp ≡ f.state.sp
    same_sp = h.sp ∙ sym k.sp

    same_flag : e.state.flag ≡ f.state.flag
    same_flag = h.flag ∙ sym k.flag

pub one_page : (r q : ℕ) (m n o : List ℕ) → Lays m r n → Lays m q o → (r ≡ q) × (n ≡ o)
one_page r q m n o h k = (h.0 ∙ sym k.0, h.1 ∙ sym k.1)
