-- The test `between`, and what lies outside a span.
use Prim.Native.Nat.{ℕ, ◌≤◌, ◌<◌}
use mathlib.Core.Path.{◌≡◌}
use mathlib.Core.Logic.{inl, inr}
use mathlib.Core.Bool.{true, false, and-false}
use native.Mathlib.Omega.{arith}
use native.Mathlib.Decide.{dec_lt}
use borrow.Author.Tests.{le-ltb, lt-leb, le-leb, ltb-false, leb-true, ltb-true}
use lib.Dec.{ltb, leb}
use Rattle.memory.proofs.Tests.{both}
use Rattle.emulation.specs.LeftBehind.{between}
use Rattle.memory.proofs.Memory.{Outside}

module _ (a e x : ℕ) where
  pub not_between : between a e x ≡ false → Outside a e x
  not_between h =
      elim (dec_lt x a) [
        | yes l ↦ inl l
        | no l ↦ inr (ltb-false x e (rw (le-leb a x (omega arith)) at h))
      ]

  pub is_between : between a e x ≡ true → (a ≤ x) × (x < e)
  is_between h =
      let (l, r) : (leb a x ≡ true) × (ltb x e ≡ true) = both (leb a x) (ltb x e) h in
      (leb-true a x l, ltb-true x e r)

  pub outside : Outside a e x → between a e x ≡ false
  outside (inl l) = rw (lt-leb a x l)
  outside (inr l) = rw (le-ltb x e l) (and-false (leb a x))
