-- What the instructions compute: A is the top of the stack, B the second.
use Rattle.std.specs.Prelude.{ℕ, ◌+◌, ◌-◌, ◌*◌, ◌/◌, ◌^◌, min, not, ◌==◌, bit_and, bit_or, bit_xor, int_div, int_le, int_lt, int_rem, nat_le, nat_lt}
use Rattle.std.specs.Int.Signed.{shr_z}
use Rattle.arithmetic.specs.Words.{wrap, one_if, signed, word_of, flipped}
use Rattle.arithmetic.specs.declared.UnOp.{UnOp}
use Rattle.arithmetic.specs.declared.UnOp.TheVariants.{Not, Flip, Neg}
use Rattle.arithmetic.specs.declared.BinOp.{BinOp}
use Rattle.arithmetic.specs.declared.BinOp.TheVariants.{Add, And, Or, LessThan, LessThanOrEqual, ULessThan, ULessThanOrEqual, Eq, Neq, Sub, Xor, Mult, LShiftRight, AShiftLeft, AShiftRight}
use Rattle.arithmetic.specs.declared.DivOp.{DivOp}
use Rattle.arithmetic.specs.declared.DivOp.TheVariants.{Div, Mod}

-- what `a` single steps of a shift multiply or divide by: after 32 every bit is the filling bit, and further steps change nothing
abbrev pub shift_factor : ℕ → ℕ
shift_factor a = 2 ^ min a 32

unfoldable pub unary_of : UnOp → ℕ → ℕ
unary_of Not a = 2 ^ 32 - 1 - a
unary_of Flip a = flipped 32 a
unary_of Neg a = wrap (2 ^ 32 - a)

unfoldable pub binary_of : BinOp → ℕ → ℕ → ℕ
binary_of Add a b = wrap (a + b)
binary_of And a b = bit_and a b
binary_of Or a b = bit_or a b
binary_of LessThan a b = one_if (int_lt (signed a) (signed b))
binary_of LessThanOrEqual a b = one_if (int_le (signed a) (signed b))
binary_of ULessThan a b = one_if (nat_lt a b)
binary_of ULessThanOrEqual a b = one_if (nat_le a b)
binary_of Eq a b = one_if (a == b)
binary_of Neq a b = one_if (not (a == b))
binary_of Sub a b = wrap (b + (2 ^ 32 - a))
binary_of Xor a b = bit_xor a b
binary_of Mult a b = wrap (a * b)
binary_of LShiftRight a b = b / shift_factor a
binary_of AShiftLeft a b = wrap (b * shift_factor a)
binary_of AShiftRight a b = word_of (shr_z (signed b) (shift_factor a))

-- toward zero, and the remainder with B's sign
unfoldable pub division_of : DivOp → ℕ → ℕ → ℕ
division_of Div a b = word_of (int_div (signed b) (signed a))
division_of Mod a b = word_of (int_rem (signed b) (signed a))
