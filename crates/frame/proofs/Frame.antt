-- The frame machine: the narrow core over the live stack, the words from sp up, known by name, so that straight code runs in the
-- checker. What lies below sp is never mentioned; how many words are free there is counted.
use Prim.Native.Nat.{ℕ, zero, suc, ◌+◌, ◌*◌}
use mathlib.Core.Bool.{Bool, true, false, cond}
use mathlib.Core.List.{List, [], ◌∷◌}
use lib.ListN.{set}
use lib.Dec.{ltb}
use Rattle.arithmetic.specs.Words.{wrap}
use Rattle.arithmetic.specs.Operations.{unary_of, binary_of}
use Rattle.arithmetic.specs.declared.BinOp.TheVariants.{Add}
use Rattle.machine.specs.Instructions.{Instr, Instr.IM, Instr.STORESP, Instr.LOADSP, Instr.EMULATE, Instr.ADDSP, Instr.PUSHSP, Instr.POPSP, Instr.POPPC, Instr.NOP, Instr.BREAK, Instr.ILLEGAL, Instr.PUSHSPADD, Instr.CALL, Instr.CALLPCREL, Instr.POPPCREL, Instr.PUSHPC, Instr.NEQBRANCH, Instr.EQBRANCH, Instr.unary, Instr.binary, Instr.division, Instr.load, Instr.store}
use Rattle.machine.specs.Table.{extended}

-- the words free below sp, the flag and the words from sp up; or POPPC has gone to an address, with these words free and from sp up;
-- or what the machine does not know
pub data Frame : Type 0 where
  running : ℕ → Bool → List ℕ → Frame
  jumped : ℕ → ℕ → List ℕ → Frame
  stuck : Frame

abbrev pub check : Bool → Frame → Frame
check t y = cond t y stuck

abbrev pub pushed : ℕ → Bool → List ℕ → ℕ → Frame
pushed zero f ws v = stuck
pushed (suc p) f ws v = running p f (v ∷ ws)

-- what is done with the top and the words above it
abbrev pub popping : List ℕ → (ℕ → List ℕ → Frame) → Frame
popping [] k = stuck
popping (x ∷ xs) k = k x xs

-- what is done with word n from sp up
abbrev pub reaching : ℕ → List ℕ → (ℕ → Frame) → Frame
reaching n [] k = stuck
reaching zero (x ∷ xs) k = k x
reaching (suc n) (x ∷ xs) k = reaching n xs k

-- the words above the top x, once x is put at n: at 0 it is put in its own place
abbrev pub put : ℕ → ℕ → List ℕ → List ℕ
put zero x xs = xs
put (suc n) x xs = set xs n x

abbrev pub and_then : Frame → (ℕ → Bool → List ℕ → Frame) → Frame
and_then (running p f ws) k = k p f ws
and_then (jumped w p ws) k = jumped w p ws
and_then stuck k = stuck

-- the byte address of the word that has p words free below it, the first of which is word base
unfoldable pub address : ℕ → ℕ → ℕ
address base p = 4 * (base + p)

module _ (base : ℕ) where
  abbrev pub instruction : Instr → ℕ → Bool → List ℕ → Frame
  instruction (IM v) p true ws = popping ws (λ x xs. running p true (wrap (x * 128 + v) ∷ xs))
  instruction (IM v) p false ws = check (ltb v 128) (pushed p true ws (extended v))
  instruction (STORESP n) p f ws = popping ws (λ x xs. reaching n (x ∷ xs) (λ y. running (suc p) false (put n x xs)))
  instruction (LOADSP n) p f ws = reaching n ws (pushed p false ws)
  instruction (ADDSP n) p f ws = popping ws (λ x xs. reaching n (x ∷ xs) (λ y. running p false (binary_of Add x y ∷ xs)))
  instruction PUSHSP p f ws = pushed p false ws (address base p)
  instruction POPPC p f ws = popping ws (λ x xs. jumped x (suc p) xs)
  instruction NOP p f ws = running p false ws
  instruction (unary op) p f ws = popping ws (λ x xs. running p false (unary_of op x ∷ xs))
  instruction (binary op) p f ws = popping ws (λ x xs. popping xs (λ y ys. running (suc p) false (binary_of op x y ∷ ys)))
  instruction (EMULATE k) p f ws = stuck
  instruction POPSP p f ws = stuck
  instruction BREAK p f ws = stuck
  instruction ILLEGAL p f ws = stuck
  instruction PUSHSPADD p f ws = stuck
  instruction CALL p f ws = stuck
  instruction CALLPCREL p f ws = stuck
  instruction POPPCREL p f ws = stuck
  instruction PUSHPC p f ws = stuck
  instruction NEQBRANCH p f ws = stuck
  instruction EQBRANCH p f ws = stuck
  instruction (division op) p f ws = stuck
  instruction (load w) p f ws = stuck
  instruction (store w) p f ws = stuck

  -- straight code to its end or its first POPPC
  unfoldable pub through : List Instr → ℕ → Bool → List ℕ → Frame
  through [] p f ws = running p f ws
  through (i ∷ is) p f ws = and_then (instruction i p f ws) (through is)
