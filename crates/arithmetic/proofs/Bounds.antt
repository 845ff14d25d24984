-- Every result is a word.
use Rattle.std.proofs.Common.{ℕ, zero, suc, ◌/◌, ◌%◌, ◌^◌, ◌<◌, ◌≤◌, Bool, true, false, not, eqb, ltb, leb, pow-suc, div-le_self, arith}
use native.Mathlib.Nat.{mul-le-mul_right}
use lib.Bits.{and_le_l, or_lt, xor_lt}
use lib.Signed.{lt_z, le_z, shr_z}
use Rattle.arithmetic.specs.Words.{one_if, signed, flipped}
use Rattle.arithmetic.proofs.Words.{word_of_lt}
use Rattle.arithmetic.specs.Operations.{shift_factor, unary_of, binary_of}
use Rattle.arithmetic.specs.declared.UnOp.{UnOp}
use Rattle.arithmetic.specs.declared.UnOp.TheVariants.{Not, Flip, Neg}
use Rattle.arithmetic.specs.declared.BinOp.{BinOp}
use Rattle.arithmetic.specs.declared.BinOp.TheVariants.{Add, And, Or, LessThan, LessThanOrEqual, ULessThan, ULessThanOrEqual, Eq, Neq, Sub, Xor, Mult, LShiftRight, AShiftLeft, AShiftRight}

one_lt : (t : Bool) → one_if t < 2 ^ 32
one_lt true = omega arith
one_lt false = omega arith

flipped_lt : (k x : ℕ) → flipped k x < 2 ^ k
unfolding flipped
flipped_lt zero x = omega arith
flipped_lt (suc k) x =
    let digit : x % 2 ≤ 1 = omega arith in omega (arith, pow-suc 2 k, mul-le-mul_right (2 ^ k) digit, flipped_lt k (x / 2))

pub unary_lt : (op : UnOp) (a : ℕ) → unary_of op a < 2 ^ 32
unfolding unary_of
unary_lt Not a = omega arith
unary_lt Flip a = flipped_lt 32 a
unary_lt Neg a = omega arith

pub binary_lt : (op : BinOp) {a b : ℕ} → a < 2 ^ 32 → b < 2 ^ 32 → binary_of op a b < 2 ^ 32
unfolding binary_of
binary_lt Add h k = omega arith
binary_lt And {a} {b} h k = omega (arith, and_le_l a b)
binary_lt Or {a} {b} h k = or_lt 32 a b h k
binary_lt LessThan {a} {b} h k = one_lt (lt_z (signed a) (signed b))
binary_lt LessThanOrEqual {a} {b} h k = one_lt (le_z (signed a) (signed b))
binary_lt ULessThan {a} {b} h k = one_lt (ltb a b)
binary_lt ULessThanOrEqual {a} {b} h k = one_lt (leb a b)
binary_lt Eq {a} {b} h k = one_lt (eqb a b)
binary_lt Neq {a} {b} h k = one_lt (not (eqb a b))
binary_lt Sub h k = omega arith
binary_lt Xor {a} {b} h k = xor_lt 32 a b h k
binary_lt Mult h k = omega arith
binary_lt LShiftRight {a} {b} h k = omega (arith, div-le_self b (shift_factor a))
binary_lt AShiftLeft h k = omega arith
binary_lt AShiftRight {a} {b} h k = word_of_lt (shr_z (signed b) (shift_factor a))
