-- The four comparisons of order, 36 to 39: the top bit of (P & Q) | ((P | Q) & s).
use Prim.Native.Nat.{ℕ, ◌+◌, ◌-◌, ◌*◌, ◌/◌, ◌^◌, ◌≤◌, ◌<◌, min, max}
use mathlib.Core.Path.{◌≡◌, refl, ap, ap₂, ◌∙◌}
use mathlib.Core.Bool.{not}
use native.Mathlib.Nat.{add-zero}
use native.Mathlib.Omega.{arith}
use native.Mathlib.Decide.{dec_lt}
use borrow.Author.Tests.{lt-ltb, le-ltb}
use lib.Dec.{ltb}
use lib.IntN.{pos}
use lib.Signed.{lt_z}
use Rattle.arithmetic.specs.Words.{wrap, one_if, signed}
use Rattle.arithmetic.specs.Operations.{unary_of, binary_of}
use Rattle.arithmetic.specs.declared.UnOp.TheVariants.{Not}
use Rattle.arithmetic.specs.declared.BinOp.TheVariants.{Add, And, Or, LessThan, LessThanOrEqual, ULessThan, ULessThanOrEqual}
use Rattle.arithmetic.proofs.Signed.{sign, order, not_less}
use Rattle.arithmetic.proofs.Bounds.{unary_lt, binary_lt}
use Rattle.routines.proofs.Words.{top_bit, top_and, top_or, brought_down, brought_down_lem, wrap_right}

-- two bits of three
majority : {x y z : ℕ} → x < 2 → y < 2 → z < 2 → max (min z (max x y)) (min x y) ≡ (x + y + z) / 2
majority h k l = omega arith

-- the sum of two words and a carry, of which a word keeps w: two of the bits top n, top e and 1 - top w say whether it goes over
over : (n e c w z : ℕ) → n < 2 ^ 32 → e < 2 ^ 32 → c < 2 → w < 2 ^ 32 → w + 2 ^ 32 ≡ n + e + c → z + top_bit w ≡ 1
    → (top_bit e + top_bit n + z) / 2 ≡ 1
over n e c w z hn he hc hw h hz = bits (top_bit n) (top_bit e) (top_bit w) (omega arith) (omega arith) (omega arith) hz
  where
    bits : (x y t : ℕ) → x < 2 → y < 2 → 1 + t ≤ x + y → z + t ≡ 1 → (y + x + z) / 2 ≡ 1
    bits x y t hx hy k l = omega arith

under : (n e c w z : ℕ) → w < 2 ^ 32 → w ≡ n + e + c → z + top_bit w ≡ 1 → (top_bit e + top_bit n + z) / 2 ≡ 0
under n e c w z hw h hz = bits (top_bit n) (top_bit e) (top_bit w) (omega arith) hz
  where
    bits : (x y t : ℕ) → x + y ≤ t → z + t ≡ 1 → (y + x + z) / 2 ≡ 0
    bits x y t k l = omega arith

-- what the four share, the operands in the order in which the stack has them
abbrev compared : ℕ → ℕ → ℕ → ℕ
compared p q s = brought_down (binary_of Or (binary_of And s (binary_of Or q p)) (binary_of And q p))

compared_top : {p q s : ℕ} → p < 2 ^ 32 → q < 2 ^ 32 → s < 2 ^ 32 → compared p q s ≡ (top_bit q + top_bit p + top_bit s) / 2
compared_top hp hq hs =
    brought_down_lem (binary_lt Or (binary_lt And hs (binary_lt Or hq hp)) (binary_lt And hq hp))
    ∙ top_or (binary_lt And hs (binary_lt Or hq hp)) (binary_lt And hq hp)
    ∙ ap₂ max (top_and hs (binary_lt Or hq hp) ∙ ap₂ min refl (top_or hq hp)) (top_and hq hp)
    ∙ majority (omega arith) (omega arith) (omega arith)

-- it is the test d < e + c, where d and e are words, n is ~d and c is a carry
comparison : {p q s : ℕ} → p < 2 ^ 32 → q < 2 ^ 32 → s < 2 ^ 32 → (d e n c : ℕ) → e < 2 ^ 32 → n + d ≡ 2 ^ 32 - 1 → c < 2
    → top_bit p ≡ top_bit n → top_bit q ≡ top_bit e → top_bit s + top_bit (wrap (n + e + c)) ≡ 1 → compared p q s ≡ one_if (ltb d (e + c))
comparison {s = s} hp hq hs d e n c he hn hc tp tq ts =
    compared_top hp hq hs ∙ rw (tp, tq) (test (dec_lt d (e + c)))
  where
    test : Dec (d < e + c) → (top_bit e + top_bit n + top_bit s) / 2 ≡ one_if (ltb d (e + c))
    test (yes l) = rw (lt-ltb d (e + c) l) (over n e c (wrap (n + e + c)) (top_bit s) (omega arith) he hc (omega arith) (omega arith) ts)
    test (no l) = rw (le-ltb d (e + c) (omega arith)) (under n e c (wrap (n + e + c)) (top_bit s) (omega arith) (omega arith) ts)

-- signed words compare as their distances from the least, which differ from them in the top bit
abbrev raised : ℕ → ℕ
raised a = wrap (a + 2 ^ 31)

signed_less : {a b : ℕ} → a < 2 ^ 32 → b < 2 ^ 32 → ltb (raised a) (raised b) ≡ lt_z (signed a) (signed b)
signed_less {a} {b} h k = order (sign a) (sign b) (raised a) (raised b) (omega arith) (omega arith) (omega arith) (omega arith)

-- d < e + 1 is d ≤ e
less_or_same : (d e : ℕ) → ltb d (e + 1) ≡ not (ltb e d)
less_or_same d e =
    elim (dec_lt e d) [
      | yes l ↦ rw (lt-ltb e d l, le-ltb d (e + 1) (omega arith))
      | no l ↦ let h : d ≤ e = omega arith in rw (le-ltb e d h, lt-ltb d (e + 1) (omega arith))
    ]

-- two sums, of which a word keeps complements
complement : (x y q : ℕ) → x + y ≡ 2 ^ 32 * q + (2 ^ 32 - 1) → wrap x + wrap y ≡ 2 ^ 32 - 1
complement x y q h = omega arith

top_complement : (x y : ℕ) → x + y ≡ 2 ^ 32 - 1 → top_bit x + top_bit y ≡ 1
top_complement x y h = omega arith

raised_is : (a : ℕ) → a < 2 ^ 32 → raised a + 2 ^ 32 * top_bit a ≡ a + 2 ^ 31
raised_is a h = omega arith

-- k + ~b + a and ~d + e + c, where d and e are a and b raised and k is 1 - c
signed_sums : (a b n m d e t u c k : ℕ) → m + b ≡ 2 ^ 32 - 1 → n + d ≡ 2 ^ 32 - 1
    → d + 2 ^ 32 * t ≡ a + 2 ^ 31 → e + 2 ^ 32 * u ≡ b + 2 ^ 31 → u < 2 → k + c ≡ 1
    → k + (m + a) + (n + e + c) ≡ 2 ^ 32 * (1 + t - u) + (2 ^ 32 - 1)
signed_sums a b n m d e t u c k hm hn hd he hu hk = omega arith

module _ {a b : ℕ} (h : a < 2 ^ 32) (k : b < 2 ^ 32) where
  -- P = A, Q = ~B, s = P + Q + 1 - c
  signed_order : {s : ℕ} (c j : ℕ) → j + c ≡ 1 → s ≡ wrap (j + (2 ^ 32 - 1 - b + a))
      → compared a (unary_of Not b) s ≡ one_if (ltb (raised a) (raised b + c))
  unfolding unary_of
  signed_order {s} c j hj hs =
      comparison h (unary_lt Not b) (omega arith) (raised a) (raised b) (2 ^ 32 - 1 - raised a) c (omega arith) (omega arith) (omega arith)
      (omega arith) (omega arith)
      (top_complement s (wrap (2 ^ 32 - 1 - raised a + raised b + c))
      (rw hs (complement (j + (2 ^ 32 - 1 - b + a)) (2 ^ 32 - 1 - raised a + raised b + c) (1 + top_bit a - top_bit b)
      (signed_sums a b (2 ^ 32 - 1 - raised a) (2 ^ 32 - 1 - b) (raised a) (raised b) (top_bit a) (top_bit b) c j
      (omega arith) (omega arith) (raised_is a h) (raised_is b k) (omega arith) hj))))

  -- P = ~A, Q = B, s = ~(P + Q + c)
  unsigned_order : {s : ℕ} → s < 2 ^ 32 → (c : ℕ) → c < 2 → s + wrap (2 ^ 32 - 1 - a + b + c) ≡ 2 ^ 32 - 1
      → compared (unary_of Not a) b s ≡ one_if (ltb a (b + c))
  unfolding unary_of
  unsigned_order {s} hs c hc e =
      comparison (unary_lt Not a) k hs a b (2 ^ 32 - 1 - a) c k (omega arith) hc refl refl (top_complement s _ e)

  pub less_than_lem : compared a (unary_of Not b) (binary_of Add 1 (binary_of Add (unary_of Not b) a)) ≡ binary_of LessThan a b
  unfolding binary_of unary_of
  less_than_lem = signed_order 0 1 refl (wrap_right 1 (2 ^ 32 - 1 - b + a)) ∙ rw (add-zero (raised b), signed_less h k)

  pub less_than_or_equal_lem : compared a (unary_of Not b) (binary_of Add (unary_of Not b) a) ≡ binary_of LessThanOrEqual a b
  unfolding binary_of unary_of
  less_than_or_equal_lem =
      signed_order {s = wrap (2 ^ 32 - 1 - b + a)} 1 0 refl (omega arith)
      ∙ ap one_if (less_or_same (raised a) (raised b) ∙ ap not (signed_less k h) ∙ not_less (signed a) (signed b))

  pub u_less_than_lem : compared (unary_of Not a) b (unary_of Not (binary_of Add b (unary_of Not a))) ≡ binary_of ULessThan a b
  unfolding binary_of unary_of
  u_less_than_lem = unsigned_order (unary_lt Not (binary_of Add b (unary_of Not a))) 0 (omega arith) (omega arith) ∙ rw (add-zero b)

  pub u_less_than_or_equal_lem : compared (unary_of Not a) b (binary_of Add (unary_of Not b) a) ≡ binary_of ULessThanOrEqual a b
  unfolding binary_of unary_of
  u_less_than_or_equal_lem =
      unsigned_order (binary_lt Add (unary_lt Not b) h) 1 (omega arith)
      (complement (2 ^ 32 - 1 - b + a) (2 ^ 32 - 1 - a + b + 1) 1 (omega arith))
      ∙ ap one_if (less_or_same a b ∙ not_less (pos a) (pos b))
