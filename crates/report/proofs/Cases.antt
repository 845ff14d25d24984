-- Document 01's printed case, by the definitions alone.
use Prim.Native.Nat.{ℕ}
use mathlib.Core.Path.{◌≡◌, refl}
use mathlib.Core.List.{List, [], ◌∷◌, ◌++◌}
use lib.ListN.{replicate}
use Rattle.memory.specs.Memory.{good_length, get_bytes, set_bytes}
use Rattle.arithmetic.specs.Operations.{unary_of, binary_of}
use Rattle.machine.specs.Run.{run_from, run}
use Rattle.machine.specs.Table.{row, effect_of, step_of}
use Rattle.machine.specs.Instructions.{below32, below64, decode}
use Rattle.routines.specs.Page.{page}
use Rattle.text.specs.Decimal.{digits, decimal}
use Rattle.session.specs.Sessions.{takes, session}
use Rattle.report.specs.Lines.{top, line}
use Rattle.report.specs.Printed.{lines, printed}

-- 5, NOP, 3, SUB, BREAK
image : List ℕ
image = replicate 2048 0 ++ (133 ∷ 11 ∷ 131 ∷ 49 ∷ 0 ∷ []) ++ replicate 2043 0

printed_case : printed image ≡
    (119 ∷ 105 ∷ 100 ∷ 101 ∷ 32 ∷ 49 ∷ 32 ∷ 50 ∷ 48 ∷ 53 ∷ 51 ∷ 32 ∷ 49 ∷ 48 ∷ 50 ∷ 51 ∷ 32 ∷ 50 ∷ 10 ∷ [])
    ++ 110 ∷ 97 ∷ 114 ∷ 114 ∷ 111 ∷ 119 ∷ 32 ∷ 49 ∷ 32 ∷ 50 ∷ 48 ∷ 53 ∷ 51 ∷ 32 ∷ 49 ∷ 48 ∷ 50 ∷ 51 ∷ 32 ∷ 50 ∷ 10 ∷ []
unfolding image printed lines session takes line top decimal digits run run_from good_length
    step_of effect_of row decode below32 below64 unary_of binary_of get_bytes set_bytes page
printed_case = refl
