-- Starts and runs for demand 3: one for each of the twelve, one with no word to spare, one that stores and loads a result, and the
-- printed case.
use Prim.Native.Nat.{ℕ, ◌-◌, ◌/◌}
use mathlib.Core.Bool.{false}
use mathlib.Core.List.{List, [], ◌∷◌, ◌++◌}
use lib.ListN.{length, replicate}
use Rattle.machine.specs.State.{state, Place, place}
use Rattle.routines.specs.Constants.{page_length}
use Rattle.routines.specs.Page.{page}

-- the page, a program at 2048, and zeros up to a length
abbrev pub image : ℕ → List ℕ → List ℕ
image l program = page ++ (program ++ replicate (l - page_length - length program) 0)

-- a program, the counter and sp that it is started with, and where a number of wide steps leads
pub record Case : Type 0 where
  pub size : ℕ
  pub program : List ℕ
  pub from : ℕ
  pub stack : ℕ
  pub count : ℕ
  pub counter : ℕ
  pub sp : ℕ
  pub top : ℕ

abbrev pub start : Case → Place
start c = place (image c.size c.program) (state c.from c.stack false)

-- the image's length and the program; counter and sp at the start; the steps; and counter, sp and top after them
abbrev case_from : ℕ → List ℕ → ℕ → ℕ → ℕ → ℕ → ℕ → ℕ → Case
case_from l bs from stack n pc sp top =
    record { size = l; program = bs; from = from; stack = stack; count = n; counter = pc; sp = sp; top = top }

-- started at 2048 with an empty stack
abbrev case : ℕ → List ℕ → ℕ → ℕ → ℕ → ℕ → Case
case l bs = case_from l bs page_length (l / 4)

-- LESSTHAN alone, with A = 80000000 and B = 1, and sp = 517: the words that it uses are the first above the page
abbrev pub alone : Case
alone = case_from 2112 (replicate 20 0 ++ (128 ∷ 0 ∷ 0 ∷ 0 ∷ 0 ∷ 0 ∷ 0 ∷ 1 ∷ 36 ∷ [])) 2076 517 1 2077 518 1

unfoldable pub cases : List Case
cases =
    -- LESSTHAN with A = 80000000 and B = 1
    case 2176 (129 ∷ 11 ∷ 248 ∷ 128 ∷ 128 ∷ 128 ∷ 128 ∷ 36 ∷ []) 8 2056 543 1
    -- the same with sp = 528, to which a STORESP 0 has come: its 16 free words are the first above the page
    ∷ case_from 2176 (replicate 64 0 ++ (128 ∷ 0 ∷ 0 ∷ 0 ∷ 0 ∷ 0 ∷ 0 ∷ 1 ∷ 80 ∷ 36 ∷ [])) 2120 527 2 2122 529 1
    -- 37, 38, 39, 46, 47, 49 and 50, with B = 5 and A = 3
    ∷ case 2176 (133 ∷ 11 ∷ 131 ∷ 37 ∷ []) 4 2052 543 1
    ∷ case 2176 (133 ∷ 11 ∷ 131 ∷ 38 ∷ []) 4 2052 543 1
    ∷ case 2176 (133 ∷ 11 ∷ 131 ∷ 39 ∷ []) 4 2052 543 1
    ∷ case 2176 (133 ∷ 11 ∷ 131 ∷ 46 ∷ []) 4 2052 543 0
    ∷ case 2176 (133 ∷ 11 ∷ 131 ∷ 47 ∷ []) 4 2052 543 1
    ∷ case 2176 (133 ∷ 11 ∷ 131 ∷ 49 ∷ []) 4 2052 543 2
    ∷ case 2176 (133 ∷ 11 ∷ 131 ∷ 50 ∷ []) 4 2052 543 6
    -- CALL to 2100, NEG of 3, PUSHSPADD with A = -1
    ∷ case 2176 (144 ∷ 180 ∷ 45 ∷ []) 3 2100 543 2051
    ∷ case 2176 (131 ∷ 48 ∷ []) 2 2050 543 4294967293
    ∷ case 2176 (255 ∷ 61 ∷ []) 2 2050 543 2168
    -- NEQBRANCH loops back once: 2 is counted down to 0
    ∷ case 2176 (130 ∷ 11 ∷ 255 ∷ 5 ∷ 112 ∷ 252 ∷ 56 ∷ []) 12 2055 543 0
    -- SUB, its result STOREd at 2048, LOADed again, and kept by a STORESP
    ∷ case 2176 (133 ∷ 11 ∷ 131 ∷ 49 ∷ 144 ∷ 128 ∷ 12 ∷ 144 ∷ 128 ∷ 8 ∷ 112 ∷ 81 ∷ []) 12 2060 543 2
    -- the printed case of zpurun, up to its BREAK
    ∷ case 4096 (133 ∷ 11 ∷ 131 ∷ 49 ∷ 0 ∷ []) 4 2052 1023 2
    ∷ []
