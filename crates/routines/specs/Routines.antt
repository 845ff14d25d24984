-- The routine of each short instruction: a line has a byte and the instruction that it is.
-- A comment is what the routine has pushed by then, the top last; ret, the return address, A and B are under it. r is the result.
use Rattle.std.specs.Prelude.{ℕ, List, [], ◌∷◌}
use Rattle.arithmetic.specs.declared.UnOp.TheVariants.{Not, Flip}
use Rattle.arithmetic.specs.declared.BinOp.TheVariants.{Add, And, Or}
use Rattle.machine.specs.Instructions.{Instr, Instr.IM, Instr.STORESP, Instr.LOADSP, Instr.ADDSP, Instr.PUSHSP, Instr.POPPC, Instr.unary, Instr.binary}

abbrev pub Line : Type 0
Line = ℕ × Instr

abbrev NOT : Instr
NOT = unary Not

abbrev FLIP : Instr
FLIP = unary Flip

abbrev ADD : Instr
ADD = binary Add

abbrev AND : Instr
AND = binary And

abbrev OR : Instr
OR = binary Or

-- 36 LESSTHAN: the top bit of x = (P & Q) | ((P | Q) & s), where P = A, Q = ~B and s = P + Q + 1
abbrev pub less_than : List Line
less_than =
    (113, LOADSP 1)  -- A
    ∷ (115, LOADSP 3)  -- A, B
    ∷ (9, NOT)  -- A, Q
    ∷ (6, AND)  -- P & Q
    ∷ (114, LOADSP 2)  -- P & Q, A
    ∷ (116, LOADSP 4)  -- P & Q, A, B
    ∷ (9, NOT)  -- P & Q, A, Q
    ∷ (7, OR)  -- P & Q, P | Q
    ∷ (115, LOADSP 3)  -- P & Q, P | Q, A
    ∷ (117, LOADSP 5)  -- P & Q, P | Q, A, B
    ∷ (9, NOT)  -- P & Q, P | Q, A, Q
    ∷ (5, ADD)  -- P & Q, P | Q, P + Q
    ∷ (129, IM 1)  -- P & Q, P | Q, P + Q, 1
    ∷ (5, ADD)  -- P & Q, P | Q, s
    ∷ (6, AND)  -- P & Q, (P | Q) & s
    ∷ (7, OR)  -- x
    ∷ (10, FLIP)  -- FLIP x
    ∷ (129, IM 1)  -- FLIP x, 1
    ∷ (6, AND)  -- r
    ∷ (83, STORESP 3)  -- r is in the place of B
    ∷ (81, STORESP 1)  -- ret is in the place of A
    ∷ (4, POPPC)  -- goes to ret
    ∷ []

-- 37 LESSTHANOREQUAL: as 36, with s = P + Q
abbrev pub less_than_or_equal : List Line
less_than_or_equal =
    (113, LOADSP 1)  -- A
    ∷ (115, LOADSP 3)  -- A, B
    ∷ (9, NOT)  -- A, Q
    ∷ (6, AND)  -- P & Q
    ∷ (114, LOADSP 2)  -- P & Q, A
    ∷ (116, LOADSP 4)  -- P & Q, A, B
    ∷ (9, NOT)  -- P & Q, A, Q
    ∷ (7, OR)  -- P & Q, P | Q
    ∷ (115, LOADSP 3)  -- P & Q, P | Q, A
    ∷ (117, LOADSP 5)  -- P & Q, P | Q, A, B
    ∷ (9, NOT)  -- P & Q, P | Q, A, Q
    ∷ (5, ADD)  -- P & Q, P | Q, s
    ∷ (6, AND)  -- P & Q, (P | Q) & s
    ∷ (7, OR)  -- x
    ∷ (10, FLIP)  -- FLIP x
    ∷ (129, IM 1)  -- FLIP x, 1
    ∷ (6, AND)  -- r
    ∷ (83, STORESP 3)  -- r is in the place of B
    ∷ (81, STORESP 1)  -- ret is in the place of A
    ∷ (4, POPPC)  -- goes to ret
    ∷ []

-- 38 ULESSTHAN: as 36, with P = ~A, Q = B and s = ~(P + Q)
abbrev pub u_less_than : List Line
u_less_than =
    (113, LOADSP 1)  -- A
    ∷ (9, NOT)  -- P
    ∷ (115, LOADSP 3)  -- P, B
    ∷ (6, AND)  -- P & Q
    ∷ (114, LOADSP 2)  -- P & Q, A
    ∷ (9, NOT)  -- P & Q, P
    ∷ (116, LOADSP 4)  -- P & Q, P, B
    ∷ (7, OR)  -- P & Q, P | Q
    ∷ (115, LOADSP 3)  -- P & Q, P | Q, A
    ∷ (9, NOT)  -- P & Q, P | Q, P
    ∷ (117, LOADSP 5)  -- P & Q, P | Q, P, B
    ∷ (5, ADD)  -- P & Q, P | Q, P + Q
    ∷ (9, NOT)  -- P & Q, P | Q, s
    ∷ (6, AND)  -- P & Q, (P | Q) & s
    ∷ (7, OR)  -- x
    ∷ (10, FLIP)  -- FLIP x
    ∷ (129, IM 1)  -- FLIP x, 1
    ∷ (6, AND)  -- r
    ∷ (83, STORESP 3)  -- r is in the place of B
    ∷ (81, STORESP 1)  -- ret is in the place of A
    ∷ (4, POPPC)  -- goes to ret
    ∷ []

-- 39 ULESSTHANOREQUAL: as 38, with s = A + ~B
abbrev pub u_less_than_or_equal : List Line
u_less_than_or_equal =
    (113, LOADSP 1)  -- A
    ∷ (9, NOT)  -- P
    ∷ (115, LOADSP 3)  -- P, B
    ∷ (6, AND)  -- P & Q
    ∷ (114, LOADSP 2)  -- P & Q, A
    ∷ (9, NOT)  -- P & Q, P
    ∷ (116, LOADSP 4)  -- P & Q, P, B
    ∷ (7, OR)  -- P & Q, P | Q
    ∷ (115, LOADSP 3)  -- P & Q, P | Q, A
    ∷ (117, LOADSP 5)  -- P & Q, P | Q, A, B
    ∷ (9, NOT)  -- P & Q, P | Q, A, ~B
    ∷ (5, ADD)  -- P & Q, P | Q, s
    ∷ (6, AND)  -- P & Q, (P | Q) & s
    ∷ (7, OR)  -- x
    ∷ (10, FLIP)  -- FLIP x
    ∷ (129, IM 1)  -- FLIP x, 1
    ∷ (6, AND)  -- r
    ∷ (83, STORESP 3)  -- r is in the place of B
    ∷ (81, STORESP 1)  -- ret is in the place of A
    ∷ (4, POPPC)  -- goes to ret
    ∷ []

-- 45 CALL: the return address takes the place of A, and A is where it goes
abbrev pub call : List Line
call =
    (113, LOADSP 1)  -- A
    ∷ (113, LOADSP 1)  -- A, ret
    ∷ (83, STORESP 3)  -- A, and ret is in the place of A
    ∷ (81, STORESP 1)  -- A is in the place of ret
    ∷ (4, POPPC)  -- goes to A
    ∷ []

-- 46 EQ: 47 with its bit inverted
abbrev pub eq : List Line
eq =
    (114, LOADSP 2)  -- B
    ∷ (9, NOT)  -- ~B
    ∷ (114, LOADSP 2)  -- ~B, A
    ∷ (5, ADD)  -- ~B + A
    ∷ (9, NOT)  -- x
    ∷ (112, LOADSP 0)  -- x, x
    ∷ (9, NOT)  -- x, ~x
    ∷ (129, IM 1)  -- x, ~x, 1
    ∷ (5, ADD)  -- x, -x
    ∷ (7, OR)  -- x | -x
    ∷ (10, FLIP)  -- FLIP (x | -x)
    ∷ (9, NOT)  -- ~FLIP (x | -x)
    ∷ (129, IM 1)  -- ~FLIP (x | -x), 1
    ∷ (6, AND)  -- r
    ∷ (83, STORESP 3)  -- r is in the place of B
    ∷ (81, STORESP 1)  -- ret is in the place of A
    ∷ (4, POPPC)  -- goes to ret
    ∷ []

-- 47 NEQ: the top bit of x | -x, where x = B - A
abbrev pub neq : List Line
neq =
    (114, LOADSP 2)  -- B
    ∷ (9, NOT)  -- ~B
    ∷ (114, LOADSP 2)  -- ~B, A
    ∷ (5, ADD)  -- ~B + A
    ∷ (9, NOT)  -- x
    ∷ (112, LOADSP 0)  -- x, x
    ∷ (9, NOT)  -- x, ~x
    ∷ (129, IM 1)  -- x, ~x, 1
    ∷ (5, ADD)  -- x, -x
    ∷ (7, OR)  -- x | -x
    ∷ (10, FLIP)  -- FLIP (x | -x)
    ∷ (129, IM 1)  -- FLIP (x | -x), 1
    ∷ (6, AND)  -- r
    ∷ (83, STORESP 3)  -- r is in the place of B
    ∷ (81, STORESP 1)  -- ret is in the place of A
    ∷ (4, POPPC)  -- goes to ret
    ∷ []

-- 48 NEG: ~(A - 1)
abbrev pub neg : List Line
neg =
    (113, LOADSP 1)  -- A
    ∷ (255, IM 127)  -- A, -1
    ∷ (5, ADD)  -- A - 1
    ∷ (9, NOT)  -- r
    ∷ (82, STORESP 2)  -- r is in the place of A
    ∷ (4, POPPC)  -- goes to ret
    ∷ []

-- 49 SUB: ~(~B + A)
abbrev pub sub : List Line
sub =
    (114, LOADSP 2)  -- B
    ∷ (9, NOT)  -- ~B
    ∷ (114, LOADSP 2)  -- ~B, A
    ∷ (5, ADD)  -- ~B + A
    ∷ (9, NOT)  -- r
    ∷ (83, STORESP 3)  -- r is in the place of B
    ∷ (81, STORESP 1)  -- ret is in the place of A
    ∷ (4, POPPC)  -- goes to ret
    ∷ []

-- 50 XOR: A + B - 2 (A & B)
abbrev pub xor : List Line
xor =
    (113, LOADSP 1)  -- A
    ∷ (115, LOADSP 3)  -- A, B
    ∷ (5, ADD)  -- A + B
    ∷ (114, LOADSP 2)  -- A + B, A
    ∷ (116, LOADSP 4)  -- A + B, A, B
    ∷ (6, AND)  -- A + B, A & B
    ∷ (16, ADDSP 0)  -- A + B, 2 (A & B)
    ∷ (9, NOT)  -- A + B, ~(2 (A & B))
    ∷ (5, ADD)  -- r - 1
    ∷ (129, IM 1)  -- r - 1, 1
    ∷ (5, ADD)  -- r
    ∷ (83, STORESP 3)  -- r is in the place of B
    ∷ (81, STORESP 1)  -- ret is in the place of A
    ∷ (4, POPPC)  -- goes to ret
    ∷ []

-- 56 NEQBRANCH: to the return address plus (mask & (A - 1)), where mask = -(the top bit of B | -B)
abbrev pub neq_branch : List Line
neq_branch =
    (114, LOADSP 2)  -- B
    ∷ (112, LOADSP 0)  -- B, B
    ∷ (9, NOT)  -- B, ~B
    ∷ (129, IM 1)  -- B, ~B, 1
    ∷ (5, ADD)  -- B, -B
    ∷ (7, OR)  -- B | -B
    ∷ (10, FLIP)  -- FLIP (B | -B)
    ∷ (129, IM 1)  -- FLIP (B | -B), 1
    ∷ (6, AND)  -- bit
    ∷ (9, NOT)  -- ~bit
    ∷ (129, IM 1)  -- ~bit, 1
    ∷ (5, ADD)  -- mask
    ∷ (114, LOADSP 2)  -- mask, A
    ∷ (255, IM 127)  -- mask, A, -1
    ∷ (5, ADD)  -- mask, A - 1
    ∷ (6, AND)  -- mask & (A - 1)
    ∷ (5, ADD)  -- r is in the place of ret
    ∷ (82, STORESP 2)  -- r is in the place of B
    ∷ (80, STORESP 0)  -- A is popped off
    ∷ (4, POPPC)  -- goes to r
    ∷ []

-- 61 PUSHSPADD: 4 A + 4 sp, from a PUSHSP two words lower
abbrev pub push_sp_add : List Line
push_sp_add =
    (113, LOADSP 1)  -- A
    ∷ (16, ADDSP 0)  -- 2 A
    ∷ (16, ADDSP 0)  -- 4 A
    ∷ (2, PUSHSP)  -- 4 A, 4 (sp - 2)
    ∷ (5, ADD)  -- 4 A + 4 (sp - 2)
    ∷ (136, IM 8)  -- 4 A + 4 (sp - 2), 8
    ∷ (5, ADD)  -- r
    ∷ (82, STORESP 2)  -- r is in the place of A
    ∷ (4, POPPC)  -- goes to ret
    ∷ []
