-- The routines of straight code: the run of each in the frame machine, and its law, by which it ends as its row says.
use Prim.Native.Nat.{ℕ, suc, ◌+◌, ◌-◌, ◌^◌, ◌<◌}
use mathlib.Core.Path.{◌≡◌, refl, ap, ◌∙◌}
use mathlib.Core.Bool.{false, cond}
use mathlib.Core.List.{List, [], ◌∷◌, map}
use lib.ListN.{take}
use Rattle.memory.proofs.Tests.{In}
use Rattle.arithmetic.specs.Words.{wrap, flipped}
use Rattle.arithmetic.specs.Operations.{unary_of, binary_of}
use Rattle.frame.proofs.Frame.{Frame, Frame.running, Frame.jumped, Frame.stuck, through}
use Rattle.routines.specs.Routines.{less_than}
use Rattle.routines.proofs.Entries.{Each, Each.end, Each.◌&◌, law_at, same_at}
use Rattle.routines.proofs.InPage.{code}
use Rattle.routines.proofs.Comparisons.{less_than_lem, less_than_or_equal_lem, u_less_than_lem, u_less_than_or_equal_lem}
use Rattle.routines.proofs.Laws.{equal, not_equal, negation, subtraction, exclusive_or, branch, stack_address}
use Rattle.routines.proofs.Straight.{Straight, rows, code_of, operands}

abbrev goal : Frame → ℕ
goal (running p f ws) = 0
goal (jumped w p ws) = w
goal stuck = 0

abbrev words : Frame → List ℕ
words (running p f ws) = ws
words (jumped w p ws) = ws
words stuck = []

-- LESSTHAN where A - B wraps: A = 80000000 and B = 1
pub trebled_slur : through 0 (code less_than) 4 false (2101 ∷ 2147483648 ∷ 1 ∷ []) ≡ jumped 2101 6 (1 ∷ [])
unfolding through unary_of binary_of flipped
trebled_slur = refl

-- EMULATE has pushed the return address r; a and b are the operands, and word base is the lowest that the routine may use
module _ (base r a b : ℕ) where
  abbrev entered : Straight → ℕ → Frame
  entered o free = through base (code_of o) free false (r ∷ take (operands o) (a ∷ b ∷ []))

  abbrev run : Straight → Frame
  run o = entered o o.depth

  -- where it ends: POPPC goes somewhere, with sp where the short one leaves it
  abbrev ended : Straight → Frame
  ended o = jumped (goal (run o)) (suc o.depth + o.popped) (words (run o))

  runs : map run rows ≡ map ended rows
  unfolding through
  runs = refl

  -- with fewer words it does not come to its end
  pub no_fewer : map (λ o. entered o (o.depth - 1)) rows ≡ map (λ o. stuck) rows
  unfolding through
  no_fewer = refl

-- EMULATE was at counter c
module _ (base c : ℕ) {r a b : ℕ} (return : r ≡ wrap (c + 1)) (hA : a < 2 ^ 32) (hB : b < 2 ^ 32) where
  -- what is left of the words that it reads
  abbrev remaining : Straight → List ℕ
  remaining o = cond o.has_value (o.value c (base + suc o.depth) a b ∷ []) []

  abbrev Law : Straight → Type 0
  Law o = (goal (run base r a b o) ≡ o.target c a b) × (words (run base r a b o) ≡ remaining o)

  -- to the return address, with a result
  returns : {x y : ℕ} → x ≡ y → (r ≡ wrap (c + 1)) × ((x ∷ []) ≡ (y ∷ []))
  returns e = (return, ap (λ (z : ℕ). z ∷ []) e)

  laws : Each Law rows
  unfolding through
  laws =
      returns (less_than_lem hA hB)
      & returns (less_than_or_equal_lem hA hB)
      & returns (u_less_than_lem hA hB)
      & returns (u_less_than_or_equal_lem hA hB)
      & (refl, ap (λ (z : ℕ). z ∷ []) return)  -- 45 CALL
      & returns (equal hA hB)
      & returns (not_equal hA hB)
      & returns (negation hA)
      & returns (subtraction hA hB)
      & returns (exclusive_or hA hB)
      & (branch a c return hB, refl)
      & returns (stack_address base 1 a)
      & end

  pub runs_to_end : {o : Straight} → In o rows → run base r a b o ≡ jumped (o.target c a b) (suc o.depth + o.popped) (remaining o)
  runs_to_end {o} i =
      let (target, rest) = law_at laws i in
      same_at (run base r a b) (ended base r a b) rows (runs base r a b) i ∙ rw (target, rest)
