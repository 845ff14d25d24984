-- Which instructions jump to A itself, and which from their own address.
use Rattle.std.specs.Prelude.{ℕ, ◌+◌}
use Rattle.arithmetic.specs.Words.{wrap}
use Rattle.machine.specs.declared.State.{State}
use Rattle.machine.specs.Instructions.{Instr, Instr.POPPC, Instr.POPPCREL, Instr.CALL, Instr.CALLPCREL}
use Rattle.jump_instructions.specs.declared.target.Target.{Target}
use Rattle.jump_instructions.specs.declared.target.Target.TheVariants.{Absolute, Relative}

-- the counter after the jump, where the top is a
abbrev pub target_of : Target → State → ℕ → ℕ
target_of Absolute s a = a
target_of Relative s a = wrap (s.pc.0 + a)

abbrev pub popping : Target → Instr
popping Absolute = POPPC
popping Relative = POPPCREL

abbrev pub calling : Target → Instr
calling Absolute = CALL
calling Relative = CALLPCREL
