-- Two results that the promise of `lay` allows are equal.
use Prim.Native.Nat.{ℕ}
use mathlib.Core.Path.{◌≡◌, refl, sym, ◌∙◌}
use mathlib.Core.List.{List}
use Rattle.std.proofs.Common.{Result, Ok, Err}
use Rattle.microcode.specs.declared.TooShort.{TooShort}
use Rattle.microcode.specs.Laying.{number, Lays}

by_number : (r q : Result (Unit {0}) TooShort) → number r ≡ number q → r ≡ q
by_number (Ok _) (Ok _) e = refl
by_number (Err _) (Err _) e = refl
by_number (Ok _) (Err _) e = cc
by_number (Err _) (Ok _) e = cc

pub unique : (m : List ℕ) (r q : Result (Unit {0}) TooShort) (x y : List ℕ) → Lays m (number r) x → Lays m (number q) y → (r ≡ q) × (x ≡ y)
unique m r q x y h k = (by_number r q (h.0 ∙ sym k.0), h.1 ∙ sym k.1)
