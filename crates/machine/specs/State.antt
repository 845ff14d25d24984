-- A state is the program counter, the stack pointer and the immediate flag, and a place is a state with its memory.
use Rattle.std.specs.Prelude.{ℕ, ◌+◌, Bool, true, false, List, slice_index}
use Rattle.arithmetic.specs.Words.{wrap}
use Rattle.machine.specs.declared.State.{State}

abbrev pub state : ℕ → ℕ → Bool → State
state pc sp flag = record { pc = record { 0 = pc }; sp = record { 0 = sp }; flag = flag }

-- the counter moves on by 1, and the flag is clear
abbrev pub next : State → ℕ → State
next s sp = state (wrap (s.pc.0 + 1)) sp false

-- the counter moves on by 1, and the flag is set
abbrev pub next_flagged : State → ℕ → State
next_flagged s sp = state (wrap (s.pc.0 + 1)) sp true

-- the counter becomes pc, and the flag is clear
abbrev pub jump : State → ℕ → ℕ → State
jump s pc sp = state pc sp false

-- where a machine stands
pub record Place : Type 0 where
  pub memory : List ℕ
  pub state : State

abbrev pub place : List ℕ → State → Place
place m s = record { memory = m; state = s }

-- the byte that a step from p fetches
abbrev pub fetched : Place → ℕ
fetched p = slice_index p.memory p.state.pc.0
