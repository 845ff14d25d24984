-- Two results that the promise of `report` allows are equal.
use Prim.Native.Nat.{ℕ}
use mathlib.Core.Path.{◌≡◌}
use mathlib.Core.List.{List}
use Rattle.report.specs.Printed.{Reports}

pub unique : (input m : List ℕ) {r r' : ℕ} {x x' : List ℕ} → Reports input m r x → Reports input m r' x' → (r ≡ r') × (x ≡ x')
unique input m h k = ((cc), (cc))
