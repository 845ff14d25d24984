-- Each instruction in a line: the stack words that it reads, the bytes that it loads, and what it does with them.
use Rattle.std.specs.Prelude.{ℕ, ◌+◌, ◌-◌, ◌*◌, ◌/◌, ◌^◌, Bool, cond, List, [], ◌∷◌, length, ◌==◌, nat_le, nat_lt}
use Rattle.memory.specs.Memory.{get_bytes, word}
use Rattle.arithmetic.specs.Words.{wrap}
use Rattle.arithmetic.specs.Operations.{unary_of, binary_of, division_of}
use Rattle.machine.specs.declared.Core.{Core}
use Rattle.machine.specs.declared.State.{State}
use Rattle.machine.specs.declared.Outcome.{Outcome}
use Rattle.machine.specs.declared.Outcome.TheVariants.{Fetch, Illegal, Stack, Address, Divide}
use Rattle.machine.specs.declared.Width.{Width}
use Rattle.machine.specs.declared.Width.TheVariants.{Word, Half, Byte}
use Rattle.machine.specs.State.{Place, fetched, next, next_flagged, jump}
use Rattle.machine.specs.Instructions.{Instr, Instr.IM, Instr.STORESP, Instr.LOADSP, Instr.EMULATE, Instr.ADDSP, Instr.PUSHSP, Instr.POPSP, Instr.POPPC, Instr.NOP, Instr.BREAK, Instr.ILLEGAL, Instr.PUSHSPADD, Instr.CALL, Instr.CALLPCREL, Instr.POPPCREL, Instr.PUSHPC, Instr.NEQBRANCH, Instr.EQBRANCH, Instr.unary, Instr.binary, Instr.division, Instr.load, Instr.store, decode}
use Rattle.machine.specs.Effects.{Effect, Effect.refuse, Effect.stop, Effect.go, guard}

-- what an instruction does with what it has read
pub data Act : Type 0 where
  refuses : Outcome → Act
  breaks goes : State → Act
  -- a word of the stack becomes v
  puts : State → ℕ → ℕ → Act
  pushes : State → ℕ → Act
  -- at an address so many low bytes of v are written
  stores : State → ℕ → ℕ → ℕ → Act
  -- the outcome is given unless the test holds
  unless : Outcome → Bool → Act → Act

-- the stack words that it reads; the bytes that it loads, by their address and number; and what it does
pub record Row : Type 0 where
  pub reads : List ℕ
  pub loads : List (ℕ × ℕ)
  pub act : Act

infix 10 ◌⇒◌
abbrev pub ◌⇒◌ : List ℕ → Act → Row
ws ⇒ a = record { reads = ws; loads = []; act = a }

infix 10 ◌loading◌⇒◌
abbrev pub ◌loading◌⇒◌ : List ℕ → ℕ × ℕ → Act → Row
ws loading b ⇒ a = record { reads = ws; loads = b ∷ []; act = a }

abbrev pub size : Width → ℕ
size Word = 4
size Half = 2
size Byte = 1

-- the address with its low bits dropped
abbrev pub aligned : Width → ℕ → ℕ
aligned w a = size w * (a / size w)

-- 7 bits sign-extended
abbrev pub extended : ℕ → ℕ
extended v = cond (nat_lt v 64) v (2 ^ 32 - 128 + v)

module _ (m : List ℕ) (s : State) where
  abbrev pub counter : ℕ
  counter = s.pc.0

  abbrev pub sp : ℕ
  sp = s.sp.0

  -- W is L / 4
  abbrev pub W : ℕ
  W = length m / 4

  -- A, the top
  abbrev pub A : ℕ
  A = word m sp

  -- B, the second
  abbrev pub B : ℕ
  B = word m (sp + 1)

  -- ADDRESS: a data address is L or more
  abbrev pub addressed : Act → Act
  addressed a = unless Address (nat_lt A (length m)) a

  unfoldable pub row : Instr → Row
  row (IM v) =
      cond s.flag
      (sp ∷ [] ⇒ puts (next_flagged s sp) sp (wrap (A * 128 + v)))
      ([] ⇒ pushes (next_flagged s (sp - 1)) (extended v))
  row (STORESP n) = sp ∷ [] ⇒ puts (next s (sp + 1)) (sp + n) A
  row (LOADSP n) = (sp + n) ∷ [] ⇒ pushes (next s (sp - 1)) (word m (sp + n))
  row (EMULATE k) = [] ⇒ pushes (jump s (32 * k) (sp - 1)) (wrap (counter + 1))
  row (ADDSP offset) = sp ∷ (sp + offset) ∷ [] ⇒ puts (next s sp) sp (wrap (A + word m (sp + offset)))
  row PUSHSP = [] ⇒ pushes (next s (sp - 1)) (4 * sp)
  row POPSP = sp ∷ [] ⇒ unless Stack (nat_le (A / 4) W) (goes (next s (A / 4)))
  row POPPC = sp ∷ [] ⇒ goes (jump s A (sp + 1))
  row (unary op) = sp ∷ [] ⇒ puts (next s sp) sp (unary_of op A)
  row (binary op) = sp ∷ (sp + 1) ∷ [] ⇒ puts (next s (sp + 1)) (sp + 1) (binary_of op A B)
  row NOP = [] ⇒ goes (next s sp)
  row BREAK = [] ⇒ breaks (next s sp)
  row ILLEGAL = [] ⇒ refuses Illegal
  row (load w) =
      sp ∷ [] loading (aligned w A, size w) ⇒ addressed (puts (next s sp) sp (get_bytes m (aligned w A) (size w)))
  row (store w) = sp ∷ (sp + 1) ∷ [] ⇒ addressed (stores (next s (sp + 2)) (aligned w A) (size w) B)
  row (division op) =
      sp ∷ (sp + 1) ∷ [] ⇒ unless Divide (nat_lt 0 A) (puts (next s (sp + 1)) (sp + 1) (division_of op A B))
  row PUSHSPADD = sp ∷ [] ⇒ puts (next s sp) sp (wrap (4 * sp + 4 * A))
  row CALL = sp ∷ [] ⇒ puts (jump s A sp) sp (wrap (counter + 1))
  row CALLPCREL = sp ∷ [] ⇒ puts (jump s (wrap (counter + A)) sp) sp (wrap (counter + 1))
  row POPPCREL = sp ∷ [] ⇒ goes (jump s (wrap (counter + A)) (sp + 1))
  row PUSHPC = [] ⇒ pushes (next s (sp - 1)) counter
  row NEQBRANCH =
      sp ∷ (sp + 1) ∷ [] ⇒ cond (B == 0) (goes (next s (sp + 2))) (goes (jump s (wrap (counter + A)) (sp + 2)))
  row EQBRANCH =
      sp ∷ (sp + 1) ∷ [] ⇒ cond (B == 0) (goes (jump s (wrap (counter + A)) (sp + 2))) (goes (next s sp))

  -- STACK: a stack word read or written has index W or more
  abbrev pub inside : ℕ → Effect → Effect
  inside w e = guard (nat_lt w W) Stack e

  abbrev pub reading : List ℕ → Effect → Effect
  reading [] e = e
  reading (w ∷ ws) e = inside w (reading ws e)

  -- STACK too: a push from sp = 0
  abbrev pub doing : Act → Effect
  doing (refuses o) = refuse o
  doing (breaks t) = stop t
  doing (goes t) = go t 0 0 0
  doing (puts t w v) = inside w (go t (4 * w) 4 v)
  doing (pushes t v) = guard (nat_lt 0 sp) Stack (inside (sp - 1) (go t (4 * (sp - 1)) 4 v))
  doing (stores t a k v) = go t a k v
  doing (unless o t a) = guard t o (doing a)

  -- what the instruction's row says, once all that it reads is there
  unfoldable pub effect_of : Instr → Effect
  effect_of i = reading (row i).reads (doing (row i).act)

-- what one step of the core does
unfoldable pub step_of : Core → Place → Effect
step_of core p =
    guard (nat_lt p.state.pc.0 (length p.memory)) Fetch (effect_of p.memory p.state (decode core (fetched p)))
