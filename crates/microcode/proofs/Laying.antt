-- An image that isn't too short gets the page.
use Prim.Native.Nat.{ℕ, ◌≤◌}
use mathlib.Core.Path.{◌≡◌, refl}
use mathlib.Core.List.{List}
use lib.ListN.{length}
use borrow.Author.Tests.{le-ltb}
use Rattle.std.proofs.Common.{Result, Ok, Err, IsOk}
use Rattle.routines.specs.Constants.{page_length}
use Rattle.microcode.specs.declared.TooShort.{TooShort}
use Rattle.microcode.specs.Laying.{number, laid, Lays}

done : (r : Result (Unit {0}) TooShort) → number r ≡ 0 → IsOk r
done (Ok _) e = refl
done (Err _) e = cc

pub in_place : (m : List ℕ) (r : Result (Unit {0}) TooShort) (x : List ℕ) → Lays m (number r) x → page_length ≤ length m → IsOk r × (x ≡ laid m)
in_place m r x h fits = let long = le-ltb (length m) page_length fits in (done r (rw long at h.0), rw long at h.1)
