-- The short instructions whose routine is straight code: what each is, and that the wide core makes the same of it.
use Prim.Native.Nat.{ℕ, zero, suc, ◌+◌, ◌-◌, ◌*◌}
use mathlib.Core.Path.{◌≡◌, refl}
use mathlib.Core.Bool.{Bool, true, false, cond, ◌&&◌}
use mathlib.Core.List.{List, [], ◌∷◌, map}
use native.Mathlib.Nat.{add-zero}
use borrow.Author.Tests.{leb-true}
use lib.ListN.{length}
use lib.Dec.{ltb, leb, eqb}
use Rattle.memory.proofs.Tests.{In, every, at_entry}
use Rattle.arithmetic.specs.Words.{wrap, one_if}
use Rattle.arithmetic.specs.Operations.{unary_of, binary_of}
use Rattle.arithmetic.specs.declared.UnOp.TheVariants.{Neg}
use Rattle.arithmetic.specs.declared.BinOp.{BinOp}
use Rattle.arithmetic.specs.declared.BinOp.TheVariants.{LessThan, LessThanOrEqual, ULessThan, ULessThanOrEqual, Eq, Neq, Sub, Xor}
use Rattle.machine.specs.declared.Core.TheVariants.{Narrow, Wide}
use Rattle.machine.specs.declared.State.{State}
use Rattle.machine.specs.State.{jump}
use Rattle.machine.specs.Instructions.{Instr, Instr.EMULATE, decode, below32, below64}
use Rattle.machine.specs.Table.{Act, Act.goes, Act.puts, ◌⇒◌, row, counter, sp, A, B}
use Rattle.routines.specs.Constants.{page_length}
use Rattle.routines.specs.Routines.{Line, less_than, less_than_or_equal, u_less_than, u_less_than_or_equal, call, eq, neq, neg, sub, xor, neq_branch, push_sp_add}
use Rattle.routines.specs.Page.{vector, page}
use Rattle.routines.specs.Shorts.{Short, shorts}
use Rattle.routines.proofs.Entries.{Each, Each.end, Each.◌&◌, same_at}
use Rattle.routines.proofs.InPage.{InPage, code, code_at, stands}

-- how many words it pops off; whether it leaves a word on top; where it goes, from the counter, A and B; which word it leaves, from
-- the counter, sp, A and B; its routine; and the words below the return address that the routine uses
pub record Straight : Type 0 where
  pub byte : ℕ
  pub popped : ℕ
  pub has_value : Bool
  pub target : ℕ → ℕ → ℕ → ℕ
  pub value : ℕ → ℕ → ℕ → ℕ → ℕ
  pub lines : List Line
  pub depth : ℕ

abbrev following : ℕ → ℕ → ℕ → ℕ
following c a b = wrap (c + 1)

-- the result of an operation is in the place of B
abbrev two_to_one : ℕ → BinOp → List Line → ℕ → Straight
two_to_one b op l n =
    record { byte = b; popped = 1; has_value = true; target = following; value = λ c s x y. binary_of op x y; lines = l; depth = n }

-- A and B are popped off
abbrev two_to_none : ℕ → (ℕ → ℕ → ℕ → ℕ) → List Line → ℕ → Straight
two_to_none b t l n = record { byte = b; popped = 2; has_value = false; target = t; value = λ c s x y. 0; lines = l; depth = n }

-- a word is in the place of A
abbrev one_to_one : ℕ → (ℕ → ℕ → ℕ → ℕ) → (ℕ → ℕ → ℕ → ℕ → ℕ) → List Line → ℕ → Straight
one_to_one b t v l n = record { byte = b; popped = 0; has_value = true; target = t; value = v; lines = l; depth = n }

abbrev pub rows : List Straight
rows =
    two_to_one 36 LessThan less_than 4
    ∷ two_to_one 37 LessThanOrEqual less_than_or_equal 4
    ∷ two_to_one 38 ULessThan u_less_than 4
    ∷ two_to_one 39 ULessThanOrEqual u_less_than_or_equal 4
    ∷ one_to_one 45 (λ c x y. x) (λ c s x y. wrap (c + 1)) call 2
    ∷ two_to_one 46 Eq eq 3
    ∷ two_to_one 47 Neq neq 3
    ∷ one_to_one 48 following (λ c s x y. unary_of Neg x) neg 2
    ∷ two_to_one 49 Sub sub 2
    ∷ two_to_one 50 Xor xor 3
    ∷ two_to_none 56 (λ c x y. cond (eqb y 0) (wrap (c + 1)) (wrap (c + x))) neq_branch 3
    ∷ one_to_one 61 following (λ c s x y. wrap (4 * s + 4 * x)) push_sp_add 2
    ∷ []

abbrev pub code_of : Straight → List Instr
code_of o = code o.lines

abbrev pub code_in_page : Straight → List Instr
code_in_page o = code_at (vector o.byte) (length (code_of o))

-- the page has each routine at its vector
pub same_code : map code_in_page rows ≡ map code_of rows
unfolding page decode below32
same_code = refl

abbrev ends_in_page : Straight → Bool
ends_in_page o = leb (vector o.byte + length (code_of o)) page_length

all_end : every ends_in_page rows ≡ true
all_end = refl

pub at_vector : {o : Straight} → In o rows → InPage (vector o.byte) (code_of o)
at_vector {o} i =
    stands (vector o.byte) (code_of o) (same_at code_in_page code_of rows same_code i)
    (leb-true _ _ (at_entry ends_in_page rows all_end i))

-- its cost: a step and a word for EMULATE, and its routine's
abbrev pub cost : Straight → Short
cost o = record { byte = o.byte; steps = 1 + length (code_of o); words = suc o.depth }

pub costs : map cost rows ≡ shorts
costs = refl

-- the narrow core takes each for EMULATE
pub taken_for_emulate : map (λ o. decode Narrow o.byte) rows ≡ map (λ o. EMULATE (o.byte - 32)) rows
unfolding decode below64
taken_for_emulate = refl

-- the words that it reads: those that it pops off, and the one that it changes
abbrev pub operands : Straight → ℕ
operands o = o.popped + one_if o.has_value

abbrev pub one_or_two : Straight → Bool
one_or_two o = ltb 0 (operands o) && leb (operands o) 2

pub one_or_two_lem : every one_or_two rows ≡ true
one_or_two_lem = refl

-- the words w, w + 1, ..
abbrev pub words_from : ℕ → ℕ → List ℕ
words_from zero w = []
words_from (suc n) w = w ∷ words_from n (w + 1)

module _ (m : List ℕ) (s : State) where
  -- what o does, where t says whether it leaves a word
  abbrev pub act_of : Straight → Bool → Act
  act_of o t =
      let new : State = jump s (o.target (counter m s) (A m s) (B m s)) (sp m s + o.popped) in
      cond t (puts new (sp m s + o.popped) (o.value (counter m s) (sp m s) (A m s) (B m s))) (goes new)

  abbrev Means : Straight → Type 0
  Means o = row m s (decode Wide o.byte) ≡ (words_from (operands o) (sp m s) ⇒ act_of o o.has_value)

  keeps_sp : (pc v : ℕ)
      → (sp m s ∷ [] ⇒ puts (jump s pc (sp m s)) (sp m s) v) ≡ (sp m s ∷ [] ⇒ puts (jump s pc (sp m s + 0)) (sp m s + 0) v)
  keeps_sp pc v = rw (add-zero (sp m s))

  branches : (t : Bool) (ws : List ℕ) (pc pc' w : ℕ)
      → (ws ⇒ cond t (goes (jump s pc w)) (goes (jump s pc' w))) ≡ (ws ⇒ goes (jump s (cond t pc pc') w))
  branches true ws pc pc' w = refl
  branches false ws pc pc' w = refl

  pub meanings : Each Means rows
  unfolding row decode below64
  meanings =
      refl  -- 36 LESSTHAN
      & refl  -- 37 LESSTHANOREQUAL
      & refl  -- 38 ULESSTHAN
      & refl  -- 39 ULESSTHANOREQUAL
      & keeps_sp _ _  -- 45 CALL
      & refl  -- 46 EQ
      & refl  -- 47 NEQ
      & keeps_sp _ _  -- 48 NEG
      & refl  -- 49 SUB
      & refl  -- 50 XOR
      & branches (eqb (B m s) 0) _ _ _ _  -- 56 NEQBRANCH
      & keeps_sp _ _  -- 61 PUSHSPADD
      & end
