-- The words of `specs` are the library's. Assumes nothing.
use Rattle.std.proofs.Common.{◌≡◌, ℕ, zero, suc, ◌+◌, ◌*◌, ◌/◌, ◌%◌, ◌^◌, ◌<◌, ◌≤◌, ℤ, pos, negsuc, neg_ℤ, min, ap, ◌∙◌, arith, add_assoc, mul_assoc, mul_comm, add-mul, pow-suc, int_div, int_rem, div-le_self, FitsSigned}
use native.Mathlib.Nat.{div-eq_of_lt}
use Rattle.std.proofs.lemmas.Bool.Decides.{nat_tests}
use Rattle.std.proofs.lemmas.Int.{of_z-to_z, to_z-of_z}
use Rattle.std.specs.Int.{w32, cast_signed, cast_unsigned, reverse_bits, reverse_bits_onto, int_wrapping_div}
use lib.Signed.{mag, shr_z, mag_rem, mag_shr}
use Rattle.arithmetic.specs.Words.{signed, word_of, flipped}
use Rattle.arithmetic.specs.Operations.{shift_factor}

pub signed_is : (x : ℕ) → cast_signed w32 x ≡ signed x
unfolding signed
signed_is x = grind (arith, nat_tests)

word_of_is : (z : ℤ) → mag z < 2 ^ 32 → cast_unsigned w32 z ≡ word_of z
unfolding word_of
word_of_is (pos n) h = omega arith
word_of_is (negsuc n) h = omega arith

pub word_of_lt : (z : ℤ) → word_of z < 2 ^ 32
unfolding word_of
word_of_lt (pos n) = omega arith
word_of_lt (negsuc n) = omega arith

pub reversed : (k x a : ℕ) → reverse_bits_onto k x a ≡ a * 2 ^ k + flipped k x
unfolding reverse_bits_onto flipped
reversed zero x a = omega arith
reversed (suc k) x a = reversed k (x / 2) (a * 2 + x % 2) ∙ simp (pow-suc, add-mul, mul_assoc, mul_comm 2 (2 ^ k), add_assoc)

pub flipped_is : (x : ℕ) → reverse_bits w32 x ≡ flipped 32 x
flipped_is x = rw reversed (omega arith)

-- after 31 steps every bit is the sign
all_shifted : (n a : ℕ) → n < 2 ^ 31 → n / 2 ^ min a 31 ≡ n / shift_factor a
all_shifted n a h = grind (arith, div-eq_of_lt)

same_shift : (z : ℤ) (a : ℕ) → FitsSigned w32 z → shr_z z (2 ^ min a 31) ≡ shr_z z (shift_factor a)
same_shift (pos n) a h = ap pos (all_shifted n a h.sfits)
same_shift (negsuc n) a h = ap negsuc (all_shifted n a h.sfits)

pub shift_is : (z : ℤ) (a : ℕ) → FitsSigned w32 z → cast_unsigned w32 (shr_z z (2 ^ min a 31)) ≡ word_of (shr_z z (shift_factor a))
shift_is z a h = rw (same_shift z a h) (word_of_is _ (omega (arith, mag_shr z (shift_factor a), h.sfits)))

negated : (q k : ℕ) → q ≤ k → mag (neg_ℤ (pos q)) ≤ k
negated zero k h = h
negated (suc q) k h = omega arith

quotient_small : (z d : ℤ) → mag (int_div z d) ≤ mag z + 1
quotient_small (pos m) (pos n) = omega (arith, div-le_self m n)
quotient_small (pos m) (negsuc n) = negated (m / suc n) (m + 1) (omega (arith, div-le_self m (suc n)))
quotient_small (negsuc m) (pos n) = negated (suc m / n) (m + 1) (omega (arith, div-le_self (suc m) n))
quotient_small (negsuc m) (negsuc n) = omega (arith, div-le_self (suc m) (suc n))

pub div_is : (z d : ℤ) → FitsSigned w32 z → cast_unsigned w32 (int_wrapping_div w32 z d) ≡ word_of (int_div z d)
div_is z d h =
    let small : mag (int_div z d) < 2 ^ 32 = omega (arith, quotient_small z d, h.sfits) in
    let same = word_of_is (int_div z d) small in
    of_z-to_z w32 _ (rw same (word_of_lt (int_div z d))) ∙ same

pub rem_is : (z d : ℤ) → FitsSigned w32 z → cast_unsigned w32 (int_rem z d) ≡ word_of (int_rem z d)
rem_is z d h = word_of_is _ (omega (arith, mag_rem z d, h.sfits))

pub ruleset divisions = (signed_is, to_z-of_z, div_is, rem_is)

pub ruleset shifts = (signed_is, to_z-of_z, shift_is)
