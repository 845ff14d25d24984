-- What holds of every step: its refusal is one of FETCH to DIVIDE, and it leaves sp from 0 to W, if it began with one.
use Prim.Native.Nat.{ℕ, ◌-◌, ◌/◌, ◌≤◌}
use mathlib.Core.Path.{◌≡◌, refl}
use mathlib.Core.Bool.{Bool, true, false, cond}
use mathlib.Core.List.{List, [], ◌∷◌}
use native.Mathlib.Omega.{arith}
use lib.ListN.{length}
use lib.Dec.{ltb, eqb}
use borrow.Author.Tests.{ltb-true, leb-true}
use Rattle.machine.specs.declared.Core.{Core}
use Rattle.machine.specs.declared.State.{State}
use Rattle.machine.specs.declared.Outcome.{Outcome}
use Rattle.machine.specs.declared.Outcome.TheVariants.{Fetch, Stack}
use Rattle.machine.specs.declared.Answer.TheVariants.{Done}
use Rattle.machine.specs.Inner.{answer_of}
use Rattle.machine.specs.Outcomes.{number}
use Rattle.machine.specs.State.{place, fetched}
use Rattle.machine.specs.Effects.{Effect, Effect.refuse, Effect.stop, Effect.go, guard}
use Rattle.machine.specs.Instructions.{Instr, Instr.IM, Instr.STORESP, Instr.LOADSP, Instr.EMULATE, Instr.ADDSP, Instr.PUSHSP, Instr.POPSP, Instr.POPPC, Instr.NOP, Instr.BREAK, Instr.ILLEGAL, Instr.PUSHSPADD, Instr.CALL, Instr.CALLPCREL, Instr.POPPCREL, Instr.PUSHPC, Instr.NEQBRANCH, Instr.EQBRANCH, Instr.unary, Instr.binary, Instr.division, Instr.load, Instr.store, decode}
use Rattle.machine.specs.Table.{Act, Act.refuses, Act.breaks, Act.goes, Act.puts, Act.pushes, Act.stores, Act.unless, Row, B, row, reading, doing, effect_of, step_of}
use Rattle.machine.proofs.Stack.{AllInside}

pub either : {X : Type 0} (P : X → Type 0) (t : Bool) (x y : X) → P x → P y → P (cond t x y)
either P true x y h k = h
either P false x y h k = k

abbrev pub Within : ℕ → Effect → Type 0
Within w (refuse o) = 4 ≤ number o
Within w (stop t) = t.sp.0 ≤ w
Within w (go t a k v) = t.sp.0 ≤ w

guarded : (w : ℕ) (t : Bool) (o : Outcome) (e : Effect) → 4 ≤ number o → (t ≡ true → Within w e) → Within w (guard t o e)
guarded w true o e k h = h refl
guarded w false o e k h = k

-- what an act asks for that
abbrev Keeps : ℕ → Act → Type 0
Keeps w (refuses o) = 4 ≤ number o
Keeps w (breaks t) = t.sp.0 ≤ w
Keeps w (goes t) = t.sp.0 ≤ w
Keeps w (puts t x v) = t.sp.0 ≤ w
Keeps w (pushes t v) = t.sp.0 ≤ w
Keeps w (stores t a k v) = t.sp.0 ≤ w
Keeps w (unless o t a) = (4 ≤ number o) × (t ≡ true → Keeps w a)

module _ (m : List ℕ) (s : State) where
  abbrev W : ℕ
  W = length m / 4

  inside_in : (w : ℕ) (e : Effect) → Within W e → Within W (guard (ltb w W) Stack e)
  inside_in w e h = guarded W (ltb w W) Stack e (omega arith) λ _. h

  act_in : (a : Act) → Keeps W a → Within W (doing m s a)
  act_in (refuses o) h = h
  act_in (breaks t) h = h
  act_in (goes t) h = h
  act_in (puts t w v) h = inside_in w _ h
  act_in (pushes t v) h = guarded W (ltb 0 s.sp.0) Stack _ (omega arith) λ _. inside_in (s.sp.0 - 1) _ h
  act_in (stores t a k v) h = h
  act_in (unless o t a) h = guarded W t o (doing m s a) h.0 λ e. act_in a (h.1 e)

  reads_in : (ws : List ℕ) (e : Effect) → (AllInside m s ws → Within W e) → Within W (reading m s ws e)
  reads_in [] e f = f tt
  reads_in (w ∷ ws) e f =
      guarded W (ltb w W) Stack (reading m s ws e) (omega arith) λ k. reads_in ws e λ r. f (ltb-true w W k, r)

  abbrev KeptBy : Row → Type 0
  KeptBy r = AllInside m s r.reads → Keeps W r.act

  module _ (h : s.sp.0 ≤ W) where
    row_in : (i : Instr) → KeptBy (row m s i)
    unfolding row
    row_in (IM v) r = either KeptBy s.flag _ _ (λ _. h) (λ _. omega arith) r
    row_in (STORESP n) r = omega arith
    row_in (LOADSP n) r = omega arith
    row_in (EMULATE k) r = omega arith
    row_in (ADDSP n) r = h
    row_in PUSHSP r = omega arith
    row_in POPSP r = (omega arith, leb-true _ _)
    row_in POPPC r = omega arith
    row_in NOP r = h
    row_in BREAK r = h
    row_in ILLEGAL r = omega arith
    row_in PUSHSPADD r = h
    row_in CALL r = h
    row_in CALLPCREL r = h
    row_in POPPCREL r = omega arith
    row_in PUSHPC r = omega arith
    row_in NEQBRANCH r = either (Keeps W) (eqb (B m s) 0) _ _ (omega arith) (omega arith)
    row_in EQBRANCH r = either (Keeps W) (eqb (B m s) 0) _ _ (omega arith) h
    row_in (unary op) r = h
    row_in (binary op) r = omega arith
    row_in (division op) r = (omega arith, λ _. omega arith)
    row_in (load w) r = (omega arith, λ _. h)
    row_in (store w) r = (omega arith, λ _. omega arith)

    pub step_in : (core : Core) → Within W (step_of core (place m s))
    unfolding step_of effect_of
    step_in core = guarded W (ltb s.pc.0 (length m)) Fetch _ (omega arith) λ _.
        let i = decode core (fetched (place m s)) in
        reads_in (row m s i).reads (doing m s (row m s i).act) λ r. act_in (row m s i).act (row_in i r)

    -- what a step that is done leaves is inside again
    pub done_in : (core : Core) (t : State) → answer_of s (step_of core (place m s)) ≡ Done t → t.sp.0 ≤ W
    done_in core t e = by_effect (step_of core (place m s)) e (step_in core)
      where
        by_effect : (e : Effect) → answer_of s e ≡ Done t → Within W e → t.sp.0 ≤ W
        by_effect (refuse o) p k = let z : ◌≡◌ {A = ℕ} 0 1 = cc in absurd (omega arith)
        by_effect (stop u) p k = let z : ◌≡◌ {A = ℕ} 0 1 = cc in absurd (omega arith)
        by_effect (go u a n v) p k = let q : u ≡ t = cc in rw q at k
