-- What a copy over a part of memory leaves: its bytes stored one after another.
use Prim.Native.Nat.{ℕ, ◌+◌, ◌≤◌}
use mathlib.Core.Path.{◌≡◌}
use mathlib.Core.List.{List, append_assoc}
use native.Mathlib.Omega.{arith}
use lib.ListN.{length}
use lib.Seq.{sets, sets-eq, drop-drop}
use borrow.Rule.Slice.PartMut.{put_mid}

pub stored : (m : List ℕ) (a k : ℕ) (bs : List ℕ) → k ≡ length bs → a + k ≤ length m → put_mid a k m bs ≡ sets m a bs
stored m a k bs e h = rw (e, sets-eq bs m a (omega arith)) (simp (append_assoc, drop-drop))
