-- What a class tells of a byte.
use Rattle.std.specs.Prelude.{ℕ, ◌%◌, ◌≡◌}
use Rattle.std.proofs.Math.Option.{Option, none, some}
use Rattle.arithmetic.specs.declared.UnOp.TheVariants as UnaryOperations
use Rattle.arithmetic.specs.declared.BinOp.TheVariants as BinaryOperations
use Rattle.machine.specs.declared.Core.{Core}
use Rattle.machine.specs.declared.Core.TheVariants.{Narrow, Wide}
use Rattle.machine.specs.declared.Width.TheVariants.{Word}
use Rattle.machine.specs.Instructions.{Instr, Instr.IM, Instr.STORESP, Instr.LOADSP, Instr.EMULATE, Instr.ADDSP, Instr.POPPC, Instr.CALL, Instr.NEQBRANCH, Instr.unary, Instr.binary, Instr.load, Instr.store, inverted, decode}
use Rattle.classes.specs.declared.Class.{Class}
use Rattle.classes.specs.declared.Class.TheVariants.{Im, Loadsp, Storesp, Addsp, Add, And, Or, Not, Flip, Load, Store, Poppc, Sub, Call, Neqbranch, Emulate, Other}

-- EMULATE on the narrow core, i on the wide one
abbrev pub on_wide : Core → ℕ → Option Instr → Option Instr
on_wide Narrow b i = some (EMULATE (b % 32))
on_wide Wide b i = i

-- the instruction that the byte b of a class is on a core; none where the class does not tell
abbrev pub meant : Core → Class → ℕ → Option Instr
meant core Im b = some (IM (b % 128))
meant core Loadsp b = some (LOADSP (inverted b))
meant core Storesp b = some (STORESP (inverted b))
meant core Addsp b = some (ADDSP (b % 16))
meant core Add b = some (binary BinaryOperations.Add)
meant core And b = some (binary BinaryOperations.And)
meant core Or b = some (binary BinaryOperations.Or)
meant core Not b = some (unary UnaryOperations.Not)
meant core Flip b = some (unary UnaryOperations.Flip)
meant core Load b = some (load Word)
meant core Store b = some (store Word)
meant core Poppc b = some POPPC
meant core Sub b = on_wide core b (some (binary BinaryOperations.Sub))
meant core Call b = on_wide core b (some CALL)
meant core Neqbranch b = on_wide core b (some NEQBRANCH)
meant core Emulate b = on_wide core b none
meant core Other b = none

-- i is the instruction that is meant, if one is
abbrev pub IfMeant : Option Instr → Instr → Type 0
IfMeant none i = Unit {0}
IfMeant (some j) i = i ≡ j

-- what the class tells of the byte agrees with `decode`, on both cores; `Other` tells nothing, and agrees with every byte
abbrev pub Agrees : Class → ℕ → Type 0
Agrees class b = (core : Core) → IfMeant (meant core class b) (decode core b)
