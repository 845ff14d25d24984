-- A number below ten is one digit, any other its tenth's digits and one more.
use Prim.Native.Nat.{ℕ, zero, suc, ◌/◌, ◌%◌, ◌^◌, ◌≤◌, ◌<◌}
use mathlib.Core.Path.{◌≡◌, refl, ◌∙◌}
use mathlib.Core.Bool.{Bool, true, false}
use mathlib.Core.List.{[], ◌∷◌, ◌++◌}
use native.Mathlib.Omega.{arith}
use native.Mathlib.Decide.{dec_lt}
use native.Mathlib.Nat.{pow-suc}
use lib.ListN.{length, length-append}
use lib.Dec.{ltb}
use borrow.Author.Tests.{ltb-false, lt-ltb, le-ltb}
use Rattle.text.specs.Decimal.{digit, spelt, digits, decimal}

-- places beyond those that are filled say nothing
spare : (k l n : ℕ) → n ≤ k → n ≤ l → digits k n ≡ digits l n
unfolding digits
spare zero zero n h j = refl
spare zero (suc l) n h j = rw (lt-ltb n 10 (omega arith))
spare (suc k) zero n h j = rw (lt-ltb n 10 (omega arith))
spare (suc k) (suc l) n h j = by_size (ltb n 10) refl λ g. spare k l (n / 10) (omega arith) (omega arith)
  where
    by_size : (t : Bool) → ltb n 10 ≡ t → (10 ≤ n → digits k (n / 10) ≡ digits l (n / 10))
        → spelt t n (digits k) ≡ spelt t n (digits l)
    by_size true e tenth = refl
    by_size false e tenth = rw (tenth (ltb-false n 10 e))

pub one_digit : (n : ℕ) → n < 10 → decimal n ≡ digit n ∷ []
unfolding decimal digits
one_digit n h = spare n (suc n) n (omega arith) (omega arith) ∙ rw (lt-ltb n 10 h)

pub more_digits : (n : ℕ) → 10 ≤ n → decimal n ≡ decimal (n / 10) ++ digit (n % 10) ∷ []
unfolding decimal digits
more_digits n h =
    spare n (suc n) n (omega arith) (omega arith)
    ∙ rw (le-ltb n 10 h, spare n (n / 10) (n / 10) (omega arith) (omega arith))

pub at_most : (k n : ℕ) → n < 10 ^ suc k → length (decimal n) ≤ suc k
at_most zero n h = rw (one_digit n h) (omega arith)
at_most (suc k) n h = by_size (dec_lt n 10) (at_most k (n / 10) (omega (arith, pow-suc 10 (suc k))))
  where
    by_size : Dec (n < 10) → length (decimal (n / 10)) ≤ suc k → length (decimal n) ≤ suc (suc k)
    by_size (yes s) tenth = rw (one_digit n s) (omega arith)
    by_size (no s) tenth =
        rw (more_digits n (omega arith)) (omega (arith, length-append (decimal (n / 10)) (digit (n % 10) ∷ [])))

pub of_word : (n : ℕ) → n < 2 ^ 32 → length (decimal n) ≤ 10
of_word n h = at_most 9 n (omega (arith, h))
