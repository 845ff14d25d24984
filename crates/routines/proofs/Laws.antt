-- The laws of the routines but 36 to 39.
use Prim.Native.Nat.{ℕ, ◌+◌, ◌-◌, ◌*◌, ◌%◌, ◌^◌, ◌<◌}
use mathlib.Core.Path.{◌≡◌, refl, ap, ◌∙◌}
use mathlib.Core.Bool.{Bool, true, false, not, cond}
use native.Mathlib.Omega.{arith}
use native.Mathlib.Decide.{ℕ_discrete}
use borrow.Author.Tests.{eq-eqb, ne_eqb}
use lib.Bits.{bit_and, bit_xor, and_comm, xor_lt, and_mask, and_zero_r, xor_add_and}
use lib.Dec.{eqb}
use Rattle.arithmetic.specs.Words.{wrap, one_if}
use Rattle.arithmetic.specs.Operations.{unary_of, binary_of}
use Rattle.arithmetic.specs.declared.UnOp.TheVariants.{Not, Flip, Neg}
use Rattle.arithmetic.specs.declared.BinOp.TheVariants.{Add, And, Or, Eq, Neq, Sub, Xor}
use Rattle.arithmetic.proofs.Bounds.{unary_lt, binary_lt}
use Rattle.frame.proofs.Frame.{address}
use Rattle.routines.proofs.Words.{top_or, brought_down, brought_down_lem, low_not, wrap_left, wrap_right}

-- what EQ, NEQ and NEQBRANCH share: whether x is 0
abbrev apart_from_zero : ℕ → ℕ
apart_from_zero x = binary_of Or (binary_of Add 1 (unary_of Not x)) x

apart_lt : {x : ℕ} → x < 2 ^ 32 → apart_from_zero x < 2 ^ 32
apart_lt {x} h = binary_lt Or (binary_lt Add {a = 1} {b = unary_of Not x} (omega arith) (unary_lt Not x)) h

nonzero : {x : ℕ} → x < 2 ^ 32 → brought_down (apart_from_zero x) ≡ one_if (not (eqb x 0))
unfolding binary_of unary_of
nonzero {x} h =
    brought_down_lem (apart_lt h) ∙ top_or (binary_lt Add {a = 1} {b = unary_of Not x} (omega arith) (unary_lt Not x)) h ∙
    elim (ℕ_discrete x 0) [
      | yes e ↦ rw (eq-eqb x 0 e) (omega arith)
      | no n ↦ rw (ne_eqb x 0 n) (omega arith)
    ]

abbrev difference : ℕ → ℕ → ℕ
difference a b = unary_of Not (binary_of Add a (unary_of Not b))

one_less : (t : Bool) → 1 - one_if (not t) ≡ one_if t
one_less true = refl
one_less false = refl

module _ {a b : ℕ} (h : a < 2 ^ 32) (k : b < 2 ^ 32) where
  same_difference : eqb (difference a b) 0 ≡ eqb a b
  unfolding binary_of unary_of
  same_difference =
      elim (ℕ_discrete a b) [
        | yes e ↦ rw (eq-eqb a b e, eq-eqb (2 ^ 32 - 1 - wrap (a + (2 ^ 32 - 1 - b))) 0 (omega arith))
        | no n ↦ rw (ne_eqb a b n, ne_eqb (2 ^ 32 - 1 - wrap (a + (2 ^ 32 - 1 - b))) 0 (omega arith))
      ]

  pub not_equal : brought_down (apart_from_zero (difference a b)) ≡ binary_of Neq a b
  unfolding binary_of
  not_equal = nonzero (unary_lt Not _) ∙ rw same_difference

  pub equal : binary_of And 1 (unary_of Not (unary_of Flip (apart_from_zero (difference a b)))) ≡ binary_of Eq a b
  unfolding binary_of
  equal = low_not (unary_lt Flip _) ∙ ap (λ (x : ℕ). 1 - x) not_equal ∙ one_less (eqb a b)

  pub subtraction : difference a b ≡ binary_of Sub a b
  unfolding binary_of unary_of
  subtraction = omega arith

  pub exclusive_or : binary_of Add 1 (binary_of Add (unary_of Not (binary_of Add (binary_of And b a) (binary_of And b a))) (binary_of Add b a))
      ≡ binary_of Xor a b
  unfolding binary_of unary_of
  exclusive_or = rw (and_comm b a) (sums (bit_and a b) (bit_xor a b) (xor_add_and a b) (xor_lt 32 a b h k))
    where
      sums : (t x : ℕ) → x + t * 2 ≡ a + b → x < 2 ^ 32 → wrap (1 + wrap (2 ^ 32 - 1 - wrap (t + t) + wrap (b + a))) ≡ x
      sums t x e l = rw (wrap_right 1 (2 ^ 32 - 1 - wrap (t + t) + wrap (b + a))) (omega arith)

pub negation : {a : ℕ} → a < 2 ^ 32 → unary_of Not (binary_of Add 4294967295 a) ≡ unary_of Neg a
unfolding binary_of unary_of
negation h = omega arith

-- A - 1 more than the return address where B is not 0
pub branch : {b r : ℕ} (a c : ℕ) → r ≡ wrap (c + 1) → b < 2 ^ 32
    → binary_of Add (binary_of And (binary_of Add 4294967295 a) (binary_of Add 1 (unary_of Not (brought_down (apart_from_zero b))))) r
    ≡ cond (eqb b 0) (wrap (c + 1)) (wrap (c + a))
branch {b} a c e k = rw (nonzero k, e) (by (eqb b 0))
  where
    back : (c : ℕ) → wrap (wrap (4294967295 + a) % 2 ^ 32 + wrap (c + 1)) ≡ wrap (c + a)
    back c = rw (wrap_right (wrap (4294967295 + a) % 2 ^ 32) (c + 1)) (omega arith)

    by : (t : Bool) → binary_of Add (binary_of And (binary_of Add 4294967295 a) (binary_of Add 1 (unary_of Not (one_if (not t))))) (wrap (c + 1))
        ≡ cond t (wrap (c + 1)) (wrap (c + a))
    by true = unfold binary_of unary_of in (rw (and_zero_r (wrap (4294967295 + a))) (omega arith))
    by false = unfold binary_of unary_of in (rw (and_mask (wrap (4294967295 + a)) 32) (back c))

-- from a PUSHSP two words lower
pub stack_address : (base p a : ℕ)
    → binary_of Add 8 (binary_of Add (address base p) (binary_of Add (binary_of Add a a) (binary_of Add a a)))
    ≡ wrap (4 * (base + (p + 2)) + 4 * a)
unfolding binary_of address
stack_address base p a = simp (wrap_left, wrap_right) (ap wrap (omega arith))
