-- The instructions, and the byte of each.
use Rattle.std.specs.Prelude.{ℕ, ◌+◌, ◌-◌, ◌%◌, Bool, false, cond, ◌||◌, List, [], ◌∷◌, ◌==◌, nat_lt, slice_index_or}
use Rattle.arithmetic.specs.declared.UnOp.{UnOp}
use Rattle.arithmetic.specs.declared.UnOp.TheVariants.{Not, Flip, Neg}
use Rattle.arithmetic.specs.declared.BinOp.{BinOp}
use Rattle.arithmetic.specs.declared.BinOp.TheVariants.{Add, And, Or, LessThan, LessThanOrEqual, ULessThan, ULessThanOrEqual, Eq, Neq, Sub, Xor, Mult, LShiftRight, AShiftLeft, AShiftRight}
use Rattle.arithmetic.specs.declared.DivOp.{DivOp}
use Rattle.arithmetic.specs.declared.DivOp.TheVariants.{Div, Mod}
use Rattle.machine.specs.declared.Core.{Core}
use Rattle.machine.specs.declared.Core.TheVariants.{Narrow, Wide}
use Rattle.machine.specs.declared.Width.{Width}
use Rattle.machine.specs.declared.Width.TheVariants.{Word, Half, Byte}

-- LOAD, LOADH and LOADB are loads of three widths, STORE, STOREH and STOREB stores
pub data Instr : Type 0 where
  IM STORESP LOADSP EMULATE ADDSP : ℕ → Instr
  PUSHSP POPSP POPPC NOP BREAK ILLEGAL : Instr
  PUSHSPADD CALL CALLPCREL POPPCREL PUSHPC NEQBRANCH EQBRANCH : Instr
  unary : UnOp → Instr
  binary : BinOp → Instr
  division : DivOp → Instr
  load store : Width → Instr

-- bytes 0 to 15
abbrev pub below16 : List Instr
below16 =
    BREAK  -- 0
    ∷ ILLEGAL  -- 1
    ∷ PUSHSP  -- 2
    ∷ ILLEGAL  -- 3
    ∷ POPPC  -- 4
    ∷ binary Add  -- 5
    ∷ binary And  -- 6
    ∷ binary Or  -- 7
    ∷ load Word  -- 8
    ∷ unary Not  -- 9
    ∷ unary Flip  -- 10
    ∷ NOP  -- 11
    ∷ store Word  -- 12
    ∷ POPSP  -- 13
    ∷ ILLEGAL  -- 14
    ∷ ILLEGAL  -- 15
    ∷ []

-- bytes 32 to 63 on the wide core
abbrev pub wide32to63 : List Instr
wide32to63 =
    ILLEGAL  -- 32
    ∷ ILLEGAL  -- 33
    ∷ load Half  -- 34
    ∷ store Half  -- 35
    ∷ binary LessThan  -- 36
    ∷ binary LessThanOrEqual  -- 37
    ∷ binary ULessThan  -- 38
    ∷ binary ULessThanOrEqual  -- 39
    ∷ ILLEGAL  -- 40
    ∷ binary Mult  -- 41
    ∷ binary LShiftRight  -- 42
    ∷ binary AShiftLeft  -- 43
    ∷ binary AShiftRight  -- 44
    ∷ CALL  -- 45
    ∷ binary Eq  -- 46
    ∷ binary Neq  -- 47
    ∷ unary Neg  -- 48
    ∷ binary Sub  -- 49
    ∷ binary Xor  -- 50
    ∷ load Byte  -- 51
    ∷ store Byte  -- 52
    ∷ division Div  -- 53
    ∷ division Mod  -- 54
    ∷ EQBRANCH  -- 55
    ∷ NEQBRANCH  -- 56
    ∷ POPPCREL  -- 57
    ∷ ILLEGAL  -- 58
    ∷ PUSHPC  -- 59
    ∷ ILLEGAL  -- 60
    ∷ PUSHSPADD  -- 61
    ∷ ILLEGAL  -- 62
    ∷ CALLPCREL  -- 63
    ∷ []

-- bytes 0 to 31
unfoldable pub below32 : ℕ → Instr
below32 b = cond (nat_lt b 16) (slice_index_or below16 b ILLEGAL) (ADDSP (b % 16))

-- bytes 32 to 63
unfoldable pub below64 : Core → ℕ → Instr
below64 Narrow b = EMULATE (b - 32)
below64 Wide b = slice_index_or wide32to63 (b - 32) ILLEGAL

-- the low 5 bits of the byte with bit 4 inverted, which adding 16 modulo 32 does
abbrev pub inverted : ℕ → ℕ
inverted b = (b + 16) % 32

-- the instruction that a byte is
unfoldable pub decode : Core → ℕ → Instr
decode core b =
    cond (nat_lt b 32) (below32 b)
    (cond (nat_lt b 64) (below64 core b)
    (cond (nat_lt b 96) (STORESP (inverted b)) (cond (nat_lt b 128) (LOADSP (inverted b)) (IM (b - 128)))))

-- a byte is one of those listed
abbrev pub among : ℕ → List ℕ → Bool
among b [] = false
among b (x ∷ xs) = b == x || among b xs
