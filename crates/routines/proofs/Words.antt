-- Words as the routines use them: their top bit, and sums of sums.
use Prim.Native.Nat.{ℕ, zero, suc, ◌+◌, ◌-◌, ◌/◌, ◌%◌, ◌^◌, ◌<◌, min, max}
use mathlib.Core.Path.{◌≡◌, refl, sym, ap, ◌∙◌}
use native.Mathlib.Numerals.{one-add}
use native.Mathlib.Omega.{arith}
use lib.Bits.{block_odd, bit_and, bit_or, and_shr, or_shr, and_comm, and_mask}
use lib.Pow.{shr-shr}
use Rattle.arithmetic.specs.Words.{wrap, flipped}
use Rattle.arithmetic.specs.Operations.{unary_of, binary_of}
use Rattle.arithmetic.specs.declared.UnOp.TheVariants.{Not, Flip}
use Rattle.arithmetic.specs.declared.BinOp.TheVariants.{And, Or}

abbrev pub top_bit : ℕ → ℕ
top_bit x = x / 2 ^ 31

-- AND and OR of two bits
on_bits : (f g : ℕ → ℕ → ℕ) → f 0 0 ≡ g 0 0 → f 0 1 ≡ g 0 1 → f 1 0 ≡ g 1 0 → f 1 1 ≡ g 1 1 → (x y : ℕ) → x < 2 → y < 2 → f x y ≡ g x y
on_bits f g e₀₀ e₀₁ e₁₀ e₁₁ zero zero h k = e₀₀
on_bits f g e₀₀ e₀₁ e₁₀ e₁₁ zero (suc zero) h k = e₀₁
on_bits f g e₀₀ e₀₁ e₁₀ e₁₁ (suc zero) zero h k = e₁₀
on_bits f g e₀₀ e₀₁ e₁₀ e₁₁ (suc zero) (suc zero) h k = e₁₁
on_bits f g e₀₀ e₀₁ e₁₀ e₁₁ zero (suc (suc y)) h k = absurd (omega arith)
on_bits f g e₀₀ e₀₁ e₁₀ e₁₁ (suc zero) (suc (suc y)) h k = absurd (omega arith)
on_bits f g e₀₀ e₀₁ e₁₀ e₁₁ (suc (suc x)) y h k = absurd (omega arith)

pub top_and : {a b : ℕ} → a < 2 ^ 32 → b < 2 ^ 32 → top_bit (binary_of And a b) ≡ min (top_bit a) (top_bit b)
unfolding binary_of
top_and {a} {b} h k = and_shr a b 31 ∙ on_bits bit_and min refl refl refl refl (a / 2 ^ 31) (b / 2 ^ 31) (omega arith) (omega arith)

pub top_or : {a b : ℕ} → a < 2 ^ 32 → b < 2 ^ 32 → top_bit (binary_of Or a b) ≡ max (top_bit a) (top_bit b)
unfolding binary_of
top_or {a} {b} h k = or_shr a b 31 ∙ on_bits bit_or max refl refl refl refl (a / 2 ^ 31) (b / 2 ^ 31) (omega arith) (omega arith)

-- FLIP and AND 1 bring the top bit down
flip_low : (k x : ℕ) → flipped (suc k) x % 2 ≡ x / 2 ^ k % 2
unfolding flipped
flip_low zero x = omega arith
flip_low (suc k) x =
    block_odd (x % 2) k (flipped (suc k) (x / 2)) ∙ flip_low k (x / 2)
    ∙ ap (λ (z : ℕ). z % 2) (shr-shr x 1 k ∙ ap (λ (z : ℕ). x / 2 ^ z) (one-add k))

low_bit : (x : ℕ) → binary_of And 1 x ≡ x % 2
unfolding binary_of
low_bit x = and_comm 1 x ∙ and_mask x 1

abbrev pub brought_down : ℕ → ℕ
brought_down x = binary_of And 1 (unary_of Flip x)

pub brought_down_lem : {x : ℕ} → x < 2 ^ 32 → brought_down x ≡ top_bit x
unfolding unary_of
brought_down_lem {x} h = low_bit (flipped 32 x) ∙ flip_low 31 x ∙ omega arith

pub low_not : {x : ℕ} → x < 2 ^ 32 → binary_of And 1 (unary_of Not x) ≡ 1 - binary_of And 1 x
unfolding unary_of
low_not {x} h = low_bit (2 ^ 32 - 1 - x) ∙ parity ∙ sym (ap (λ (b : ℕ). 1 - b) (low_bit x))
  where
    parity : (2 ^ 32 - 1 - x) % 2 ≡ 1 - x % 2
    parity = omega arith

-- sums of sums
pub wrap_right : (x y : ℕ) → wrap (x + wrap y) ≡ wrap (x + y)
wrap_right x y = omega arith

pub wrap_left : (x y : ℕ) → wrap (wrap x + y) ≡ wrap (x + y)
wrap_left x y = omega arith
