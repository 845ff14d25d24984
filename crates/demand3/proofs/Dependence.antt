-- An instruction's effect depends on no byte but those that its row reads.
use Prim.Native.Nat.{ℕ, ◌+◌}
use mathlib.Core.Path.{◌≡◌, refl}
use mathlib.Core.Bool.{Bool, true, false, cond}
use mathlib.Core.List.{List}
use lib.Dec.{eqb}
use Rattle.memory.specs.Memory.{get_bytes}
use Rattle.memory.proofs.Memory.{read_alike}
use Rattle.machine.specs.declared.Core.TheVariants.{Wide}
use Rattle.machine.specs.declared.State.{State}
use Rattle.machine.specs.State.{Place, fetched}
use Rattle.machine.specs.Effects.{Effect}
use Rattle.machine.specs.Instructions.{Instr, Instr.IM, Instr.STORESP, Instr.LOADSP, Instr.EMULATE, Instr.ADDSP, Instr.PUSHSP, Instr.POPSP, Instr.POPPC, Instr.NOP, Instr.BREAK, Instr.ILLEGAL, Instr.PUSHSPADD, Instr.CALL, Instr.CALLPCREL, Instr.POPPCREL, Instr.PUSHPC, Instr.NEQBRANCH, Instr.EQBRANCH, Instr.unary, Instr.binary, Instr.division, Instr.load, Instr.store}
use Rattle.machine.specs.Table.{Act.goes, Row, B, row, reading, doing, effect_of, step_of}
use Rattle.emulation.specs.LeftBehind.{Dirt}
use Rattle.emulation.specs.Emulation.{Alike}
use Rattle.demand3.specs.Demand3.{spans, Clean, AllClean, Allowed}

module _ {d : Dirt} {p x : Place} (E : Alike d p x) where
  abbrev s : State
  s = p.state

  abbrev m : List ℕ
  m = p.memory

  abbrev m' : List ℕ
  m' = x.memory

  abbrev carried : List ℕ → Row → Effect
  carried n r = reading n s r.reads (doing n s r.act)

  either_row : (t : Bool) (x y x' y' : Row) → (AllClean d (spans x) → carried m' x' ≡ carried m x)
      → (AllClean d (spans y) → carried m' y' ≡ carried m y) → AllClean d (spans (cond t x y))
      → carried m' (cond t x' y') ≡ carried m (cond t x y)
  either_row true x y x' y' h k c = h c
  either_row false x y x' y' h k c = k c

  either_way : (t : Bool) (x y : State) → doing m' s (cond t (goes x) (goes y)) ≡ doing m s (cond t (goes x) (goes y))
  either_way true x y = refl
  either_way false x y = refl

  read : (a k : ℕ) → Clean d a k → get_bytes m' a k ≡ get_bytes m a k
  unfolding Clean
  read a k c = read_alike m m' a k (λ j h. E.same_bytes (a + j) (c j h))

  same_effect : (i : Instr) → AllClean d (spans (row m s i)) → effect_of m' s i ≡ effect_of m s i
  unfolding effect_of row
  same_effect (IM v) c = either_row s.flag _ _ _ _ (λ c. rw (E.same_length, read _ _ c.0)) (λ c. rw E.same_length) c
  same_effect (STORESP n) c = rw (E.same_length, read _ _ c.0)
  same_effect (LOADSP n) c = rw (E.same_length, read _ _ c.0)
  same_effect (EMULATE k) c = rw E.same_length
  same_effect (ADDSP n) c = rw (E.same_length, read _ _ c.0, read _ _ c.1.0)
  same_effect PUSHSP c = rw E.same_length
  same_effect POPSP c = rw (E.same_length, read _ _ c.0)
  same_effect POPPC c = rw (E.same_length, read _ _ c.0)
  same_effect NOP c = refl
  same_effect BREAK c = refl
  same_effect ILLEGAL c = refl
  same_effect PUSHSPADD c = rw (E.same_length, read _ _ c.0)
  same_effect CALL c = rw (E.same_length, read _ _ c.0)
  same_effect CALLPCREL c = rw (E.same_length, read _ _ c.0)
  same_effect POPPCREL c = rw (E.same_length, read _ _ c.0)
  same_effect PUSHPC c = rw E.same_length
  same_effect NEQBRANCH c = rw (E.same_length, read _ _ c.0, read _ _ c.1.0, either_way (eqb (B m s) 0))
  same_effect EQBRANCH c = rw (E.same_length, read _ _ c.0, read _ _ c.1.0, either_way (eqb (B m s) 0))
  same_effect (unary op) c = rw (E.same_length, read _ _ c.0)
  same_effect (binary op) c = rw (E.same_length, read _ _ c.0, read _ _ c.1.0)
  same_effect (division op) c = rw (E.same_length, read _ _ c.0, read _ _ c.1.0)
  same_effect (load w) c = rw (E.same_length, read _ _ c.0, read _ _ c.1.0)
  same_effect (store w) c = rw (E.same_length, read _ _ c.0, read _ _ c.1.0)

pub same_byte : {d : Dirt} {p x : Place} → Alike d p x → Allowed p d → fetched x ≡ fetched p
same_byte {p = p} E F = rw E.same_state (E.same_bytes p.state.pc.0 F.fetch_clean)

-- so a wide step has one effect at places that are alike
pub same_step : {d : Dirt} {p x : Place} → Alike d p x → Allowed p d → step_of Wide x ≡ step_of Wide p
unfolding step_of
same_step {p = p} E F =
    rw (E.same_state, E.same_length, E.same_bytes p.state.pc.0 F.fetch_clean, same_effect E _ F.reads_clean)
