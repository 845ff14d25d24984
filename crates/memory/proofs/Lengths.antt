-- What `good_length` says of a length.
use Prim.Native.Nat.{ℕ, ◌%◌, ◌<◌, ◌≤◌}
use mathlib.Core.Path.{◌≡◌}
use mathlib.Core.Bool.{true}
use native.Mathlib.Omega.{arith}
use Rattle.std.proofs.lemmas.Bool.Decides.{nat_tests}
use Rattle.memory.specs.Memory.{good_length}

pub record Good (l : ℕ) : Type 0 where
  pub not_zero : 0 < l
  pub not_over : l ≤ 65536
  pub whole : l % 4 ≡ 0

pub good : (l : ℕ) → good_length l ≡ true → Good l
unfolding good_length
good l h = record { not_zero = grind (arith, nat_tests); not_over = grind (arith, nat_tests); whole = grind (arith, nat_tests) }

pub is_good : (l : ℕ) → Good l → good_length l ≡ true
unfolding good_length
is_good l g = grind (arith, nat_tests)
