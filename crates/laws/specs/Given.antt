-- What outcomes 4 to 8 are given for, in the words and the order of document 01's table.
use Rattle.std.specs.Prelude.{ℕ, ◌-◌, ◌/◌, Bool, false, cond, ◌&&◌, ◌||◌, List, [], ◌∷◌, length, ltb, leb, eqb}
use Rattle.std.proofs.Math.Option.{Option, none, some}
use Rattle.machine.specs.declared.Core.{Core}
use Rattle.machine.specs.declared.Core.TheVariants.{Narrow, Wide}
use Rattle.machine.specs.declared.State.{State}
use Rattle.machine.specs.declared.Outcome.{Outcome}
use Rattle.machine.specs.declared.Outcome.TheVariants.{Fetch, Illegal, Stack, Address, Divide}
use Rattle.machine.specs.State.{Place, fetched}
use Rattle.machine.specs.Effects.{Effect, Effect.refuse, Effect.stop, Effect.go}
use Rattle.machine.specs.Instructions.{decode, among}
use Rattle.machine.specs.Table.{Act, Act.refuses, Act.breaks, Act.goes, Act.puts, Act.pushes, Act.stores, Act.unless, Row, sp, W, A, row}

-- the outcome that a step is refused with, if it is
abbrev pub refusal_of : Effect → Option Outcome
refusal_of (refuse o) = some o
refusal_of (stop t) = none
refusal_of (go t a k v) = none

-- the first outcome whose test holds
abbrev pub first_given : List (Outcome × Bool) → Option Outcome
first_given [] = none
first_given (g ∷ gs) = cond g.1 (some g.0) (first_given gs)

abbrev pub illegals : Core → List ℕ
illegals Narrow = 1 ∷ 3 ∷ 14 ∷ 15 ∷ []
illegals Wide = 1 ∷ 3 ∷ 14 ∷ 15 ∷ 32 ∷ 33 ∷ 40 ∷ 58 ∷ 60 ∷ 62 ∷ []

-- LOAD and STORE; on the wide core also LOADH, STOREH, LOADB and STOREB
abbrev pub accesses : Core → List ℕ
accesses Narrow = 8 ∷ 12 ∷ []
accesses Wide = 8 ∷ 12 ∷ 34 ∷ 35 ∷ 51 ∷ 52 ∷ []

-- DIV and MOD
abbrev pub divisions : Core → List ℕ
divisions Narrow = []
divisions Wide = 53 ∷ 54 ∷ []

module _ (m : List ℕ) (s : State) where
  -- a stack word read has index W or more
  abbrev pub reads_outside : List ℕ → Bool
  reads_outside [] = false
  reads_outside (w ∷ ws) = leb (W m s) w || reads_outside ws

  -- a stack word written has index W or more; a push from sp = 0
  abbrev pub writes_outside : Act → Bool
  writes_outside (refuses o) = false
  writes_outside (breaks t) = false
  writes_outside (goes t) = false
  writes_outside (puts t w v) = leb (W m s) w
  writes_outside (pushes t v) = eqb (sp m s) 0 || leb (W m s) (sp m s - 1)
  writes_outside (stores t a k v) = false
  writes_outside (unless o t a) = writes_outside a

  abbrev pub outside : Row → Bool
  outside r = reads_outside r.reads || writes_outside r.act

module _ (core : Core) (p : Place) where
  abbrev m : List ℕ
  m = p.memory

  abbrev s : State
  s = p.state

  -- program counter is L or more
  unfoldable pub fetch : Bool
  fetch = leb (length m) s.pc.0

  -- byte 1, 3, 14 or 15; on the wide core also the six
  unfoldable pub illegal : Bool
  illegal = among (fetched p) (illegals core)

  -- a stack word read or written has index W or more; a push from sp = 0; POPSP to an index over W
  unfoldable pub stack : Bool
  stack = outside m s (row m s (decode core (fetched p))) || eqb (fetched p) 13 && ltb (W m s) (A m s / 4)

  -- a data address, the top of a load or store, is L or more
  unfoldable pub address : Bool
  address = among (fetched p) (accesses core) && leb (length m) (A m s)

  -- DIV or MOD with top 0
  unfoldable pub divide : Bool
  divide = among (fetched p) (divisions core) && eqb (A m s) 0

  -- in the order in which they are tested
  abbrev pub given : List (Outcome × Bool)
  given = (Fetch, fetch) ∷ (Illegal, illegal) ∷ (Stack, stack) ∷ (Address, address) ∷ (Divide, divide) ∷ []
