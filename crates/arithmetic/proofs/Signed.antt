-- Words as signed numbers: their sign and order. Assumes nothing.
use Rattle.std.proofs.Common.{◌≡◌, ℕ, ◌+◌, ◌-◌, ◌^◌, ◌<◌, ◌≤◌, not, ltb, leb, ℤ, pos, negsuc, refl, arith, le-ltb, lt-ltb}
use Rattle.std.proofs.lemmas.Bool.Decides.{nat_tests}
use native.Mathlib.Decide.{dec_lt}
use lib.Signed.{lt_z, le_z}
use Rattle.arithmetic.specs.Words.{wrap, signed}

-- the word x stands for the integer z
pub data Sign (x : ℕ) : ℤ → Type 0 where
  low : x < 2 ^ 31 → Sign x (pos x)
  high : 2 ^ 31 ≤ x → Sign x (negsuc (2 ^ 32 - 1 - x))

pub sign : (x : ℕ) → Sign x (signed x)
unfolding signed
sign x =
    elim (dec_lt x (2 ^ 31)) [
      | yes l ↦ rw (lt-ltb x (2 ^ 31) l) (low l)
      | no l ↦ let h : 2 ^ 31 ≤ x = omega arith in rw (le-ltb x (2 ^ 31) h) (high h)
    ]

-- signed words stand in the order of their distances d and e from the least
pub order : {a b : ℕ} {y z : ℤ} → Sign a y → Sign b z → (d e : ℕ) → d < 2 ^ 32 → e < 2 ^ 32 → wrap (d + 2 ^ 31) ≡ a
    → wrap (e + 2 ^ 31) ≡ b → ltb d e ≡ lt_z y z
order (low h) (low k) d e hd he p q = grind (arith, nat_tests)
order (low h) (high k) d e hd he p q = grind (arith, nat_tests)
order (high h) (low k) d e hd he p q = grind (arith, nat_tests)
order (high h) (high k) d e hd he p q = grind (arith, nat_tests)

pub not_ltb : (m n : ℕ) → not (ltb n m) ≡ leb m n
not_ltb m n = grind (arith, nat_tests)

pub not_less : (y z : ℤ) → not (lt_z z y) ≡ le_z y z
not_less (pos m) (pos n) = not_ltb m n
not_less (pos m) (negsuc n) = refl
not_less (negsuc m) (pos n) = refl
not_less (negsuc m) (negsuc n) = not_ltb n m
