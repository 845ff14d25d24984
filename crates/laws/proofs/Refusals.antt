-- What an instruction is refused for: its stack words, and what is tested besides for an instruction of its kind.
use Prim.Native.Nat.{ℕ, zero, suc, ◌+◌, ◌/◌}
use mathlib.Core.Path.{◌≡◌, refl}
use mathlib.Core.Bool.{Bool, true, false, cond, not, ◌&&◌, ◌||◌, or-false, or_assoc, or_self}
use mathlib.Core.List.{List, [], ◌∷◌}
use mathlib.Core.Option.{Option, some}
use lib.ListN.{length}
use lib.Dec.{ltb, leb, eqb, leb-suc-zero, leb-suc-suc, eqb-suc-zero}
use Rattle.arithmetic.proofs.Signed.{not_ltb}
use Rattle.machine.specs.declared.State.{State}
use Rattle.machine.specs.declared.Outcome.{Outcome}
use Rattle.machine.specs.declared.Outcome.TheVariants.{Illegal, Stack, Address, Divide}
use Rattle.machine.specs.Effects.{Effect, guard}
use Rattle.machine.specs.Instructions.{Instr, Instr.IM, Instr.STORESP, Instr.LOADSP, Instr.EMULATE, Instr.ADDSP, Instr.PUSHSP, Instr.POPSP, Instr.POPPC, Instr.NOP, Instr.BREAK, Instr.ILLEGAL, Instr.PUSHSPADD, Instr.CALL, Instr.CALLPCREL, Instr.POPPCREL, Instr.PUSHPC, Instr.NEQBRANCH, Instr.EQBRANCH, Instr.unary, Instr.binary, Instr.division, Instr.load, Instr.store}
use Rattle.machine.specs.Table.{Row, ◌⇒◌, sp, W, A, B, row, reading, doing}
use Rattle.laws.specs.Given.{refusal_of, first_given, outside}
use Rattle.laws.proofs.Kept.{either}

pub not_leb : (a b : ℕ) → not (leb a b) ≡ ltb b a
not_leb a b = rw (← leb-suc-suc a b) (not_ltb (suc b) a)

leb_zero : (a : ℕ) → leb a 0 ≡ eqb a 0
leb_zero zero = refl
leb_zero (suc a) = rw (leb-suc-zero a, eqb-suc-zero a)

pub refused : (t : Bool) (o : Outcome) (e : Effect) → refusal_of (guard t o e) ≡ cond (not t) (some o) (refusal_of e)
refused true o e = refl
refused false o e = refl

joined : (t u : Bool) (x y : Option Outcome) → cond t x (cond u x y) ≡ cond (t || u) x y
joined true u x y = refl
joined false u x y = refl

-- as a word that is read, tested for ADDRESS or DIVIDE, and written
again : (t u : Bool) (x y z : Option Outcome) → cond t x (cond u y (cond t x z)) ≡ cond t x (cond u y z)
again true u x y z = refl
again false u x y z = refl

ruleset rules = (refused, not_ltb, not_leb, leb_zero, again, joined, or-false, or_assoc, or_self)

-- whether an instruction is illegal, POPSP, a load or store, a division
abbrev pub Kind : Type 0
Kind = Bool × Bool × Bool × Bool

abbrev pub plain : Kind
plain = (false, false, false, false)

module _ (m : List ℕ) (s : State) where
  -- the table's tests after FETCH, for the row of an instruction of this kind
  abbrev tests : Kind → Row → List (Outcome × Bool)
  tests k r =
      (Illegal, k.0)
      ∷ (Stack, outside m s r || k.1 && ltb (W m s) (A m s / 4))
      ∷ (Address, k.2 && leb (length m) (A m s))
      ∷ (Divide, k.3 && eqb (A m s) 0)
      ∷ []

  abbrev pub Refused : Kind → Row → Type 0
  Refused k r = refusal_of (reading m s r.reads (doing m s r.act)) ≡ first_given (tests k r)

  -- each instruction's kind, and that it is refused so
  unfoldable pub kind : (i : Instr) → (k : Kind) × Refused k (row m s i)
  unfolding row
  kind (IM v) = (plain, either (Refused plain) s.flag _ _ (simp rules) (simp rules))
  kind (STORESP n) = (plain, simp rules)
  kind (LOADSP n) = (plain, simp rules)
  kind (EMULATE k) = (plain, simp rules)
  kind (ADDSP offset) = (plain, simp rules)
  kind PUSHSP = (plain, simp rules)
  kind POPSP = ((false, true, false, false), simp rules)
  kind POPPC = (plain, simp rules)
  kind NOP = (plain, refl)
  kind BREAK = (plain, refl)
  kind ILLEGAL = ((true, false, false, false), refl)
  kind PUSHSPADD = (plain, simp rules)
  kind CALL = (plain, simp rules)
  kind CALLPCREL = (plain, simp rules)
  kind POPPCREL = (plain, simp rules)
  kind PUSHPC = (plain, simp rules)
  kind NEQBRANCH = (plain, either (λ a. Refused plain (sp m s ∷ (sp m s + 1) ∷ [] ⇒ a)) (eqb (B m s) 0) _ _ (simp rules) (simp rules))
  kind EQBRANCH = (plain, either (λ a. Refused plain (sp m s ∷ (sp m s + 1) ∷ [] ⇒ a)) (eqb (B m s) 0) _ _ (simp rules) (simp rules))
  kind (unary op) = (plain, simp rules)
  kind (binary op) = (plain, simp rules)
  kind (division op) = ((false, false, false, true), simp rules)
  kind (load w) = ((false, false, true, false), simp rules)
  kind (store w) = ((false, false, true, false), simp rules)
