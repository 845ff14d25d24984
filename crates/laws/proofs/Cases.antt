-- The marked numbers of document 01, as one list with one proof: what the definitions give, and what the paper says.
use Prim.Native.Nat.{ℕ, ◌+◌, ◌-◌}
use mathlib.Core.Path.{◌≡◌, refl}
use mathlib.Core.Bool.{false}
use mathlib.Core.List.{List, [], ◌∷◌, ◌++◌, map}
use native.Mathlib.Omega.{arith}
use lib.IntN.{ℤ, pos, negsuc}
use lib.ListN.{length, replicate}
use lib.Signed.{lt_z}
use borrow.Author.Tests.{le-ltb}
use Rattle.memory.specs.Memory.{get_bytes, set_bytes, word, good_length}
use Rattle.machine.specs.State.{state, next, place}
use Rattle.machine.specs.Run.{Ran, run_from, run}
use Rattle.arithmetic.specs.Operations.{unary_of, binary_of, division_of}
use Rattle.arithmetic.specs.Words.{signed, word_of, flipped}
use Rattle.machine.specs.declared.Core.{Core}
use Rattle.machine.specs.declared.Core.TheVariants.{Narrow, Wide}
use Rattle.machine.specs.declared.State.{State}
use Rattle.machine.specs.Instructions.{below32, below64, decode}
use Rattle.machine.specs.Table.{Act.puts, ◌⇒◌, sp, A, B, row, effect_of, step_of}

-- 2,560 bytes with code at 2100 and words at 2400, which is word 600
abbrev image : List ℕ → List ℕ → List ℕ
image code stack =
    replicate 2100 11 ++ code ++ replicate (300 - length code) 0 ++ stack ++ replicate (160 - length stack) 0

-- the code run to its end on a core, one step a byte, the stack given
abbrev ran : Core → List ℕ → List ℕ → Ran
ran core code stack =
    run core (length code)
    (place (image code stack) (state 2100 600 false))

-- a word's bytes
abbrev w : ℕ → ℕ → ℕ → ℕ → List ℕ → List ℕ
w a b c d rest = a ∷ b ∷ c ∷ d ∷ rest

-- what a run shows: outcome, steps, sp, counter and top
abbrev seen : Ran → List ℕ
seen r =
    r.outcome
    ∷ r.steps
    ∷ r.place.state.sp.0
    ∷ r.place.state.pc.0
    ∷ word r.place.memory r.place.state.sp.0
    ∷ []

pub record Case : Type 0 where
  pub core : Core
  pub code : List ℕ
  pub stack : List ℕ
  pub sp : ℕ
  pub counter : ℕ
  pub top : ℕ

abbrev case : Core → List ℕ → List ℕ → ℕ → ℕ → ℕ → Case
case core code stack sp counter top =
    record { core = core; code = code; stack = stack; sp = sp; counter = counter; top = top }

abbrev cases : List Case
cases =
    case Wide (0xFF ∷ []) [] 599 2101 0xFFFFFFFF
    ∷ case Wide (0xC0 ∷ []) [] 599 2101 0xFFFFFFC0
    ∷ case Wide (0x81 ∷ 0x80 ∷ []) [] 599 2102 128
    ∷ case Wide (36 ∷ []) (w 0x80 0 0 0 (w 0 0 0 1 [])) 601 2101 1
    ∷ case Wide (38 ∷ []) (w 0x80 0 0 0 (w 0 0 0 1 [])) 601 2101 0
    ∷ case Wide (36 ∷ []) (w 0 0 0 7 (w 0 0 0 7 [])) 601 2101 0
    ∷ case Wide (53 ∷ []) (w 0xFF 0xFF 0xFF 0xFF (w 0x80 0 0 0 [])) 601 2101 0x80000000
    ∷ case Wide (54 ∷ []) (w 0xFF 0xFF 0xFF 0xFF (w 0x80 0 0 0 [])) 601 2101 0
    ∷ case Wide (53 ∷ []) (w 0 0 0 3 (w 0xFF 0xFF 0xFF 0xFB [])) 601 2101 0xFFFFFFFF
    ∷ case Wide (54 ∷ []) (w 0 0 0 3 (w 0xFF 0xFF 0xFF 0xFB [])) 601 2101 0xFFFFFFFE
    ∷ case Wide (10 ∷ []) (w 0 0 0 1 []) 600 2101 0x80000000
    ∷ case Wide (48 ∷ []) (w 0x80 0 0 0 []) 600 2101 0x80000000
    ∷ case Wide (56 ∷ []) (w 0xFF 0xFF 0xFF 0xFC (w 0 0 0 1 [])) 602 2096 0
    ∷ case Wide (56 ∷ []) (w 0xFF 0xFF 0xFF 0xFC (w 0 0 0 0 [])) 602 2101 0
    ∷ case Wide (61 ∷ []) (w 0xFF 0xFF 0xFF 0xFF []) 600 2101 2396
    ∷ case Narrow (0x31 ∷ []) [] 599 544 2101
    ∷ []

-- the outcome is LIMIT, every byte of the code was a step, and the rest is what the paper says
abbrev expected : Case → List ℕ
expected c = 0 ∷ length c.code ∷ c.sp ∷ c.counter ∷ c.top ∷ []

pub marked : map (λ c. seen (ran c.core c.code c.stack)) cases ≡ map expected cases
unfolding unary_of binary_of division_of get_bytes set_bytes signed word_of flipped below32 below64 decode row effect_of step_of run_from good_length run
marked = refl

not_less_than_itself : (z : ℤ) → lt_z z z ≡ false
not_less_than_itself (pos n) = le-ltb n n (omega arith)
not_less_than_itself (negsuc n) = le-ltb n n (omega arith)

-- LESSTHAN, A = B: 0, for every A
pub less_than_same : (m : List ℕ) (s : State) → A m s ≡ B m s
    → row m s (decode Wide 36) ≡ (sp m s ∷ (sp m s + 1) ∷ [] ⇒ puts (next s (sp m s + 1)) (sp m s + 1) 0)
unfolding binary_of below64 decode row
less_than_same m s h = rw (h, not_less_than_itself)
