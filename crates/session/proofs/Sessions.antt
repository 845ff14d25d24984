-- What is known of an image that is taken, and of where a session on it ends.
use Prim.Native.Nat.{ℕ, ◌%◌, ◌≤◌}
use mathlib.Core.Path.{◌≡◌}
use mathlib.Core.Bool.{true, ◌&&◌}
use mathlib.Core.List.{List}
use native.Mathlib.Omega.{arith}
use lib.ListN.{length, drop, length-append, length-drop}
use lib.Dec.{leb, eqb}
use borrow.Author.Tests.{leb-true, eqb-true}
use Rattle.memory.proofs.Tests.{both}
use Rattle.memory.proofs.Lengths.{is_good}
use Rattle.machine.specs.declared.Core.{Core}
use Rattle.machine.specs.State.{place}
use Rattle.laws.proofs.Bounds.{AtEnd, inside}
use Rattle.laws.proofs.Turns.{run_goes}
use Rattle.routines.specs.Constants.{page_length}
use Rattle.routines.specs.Page.{page}
use Rattle.routines.proofs.Rule.{page_length_lem}
use Rattle.microcode.specs.Laying.{laid}
use Rattle.session.specs.Sessions.{shortest, longest, takes, start, session}

pub record Taken (l : ℕ) : Type 0 where
  pub not_under : shortest ≤ l
  pub not_over : l ≤ longest
  pub whole : l % 4 ≡ 0

pub taken : (l : ℕ) → takes l ≡ true → Taken l
unfolding takes
taken l h =
    let (sizes, whole) = both (leb shortest l && leb l longest) (eqb (l % 4) 0) h in
    let (not_under, not_over) = both (leb shortest l) (leb l longest) sizes in
    record { not_under = leb-true shortest l not_under; not_over = leb-true l longest not_over; whole = eqb-true (l % 4) 0 whole }

pub within : (l : ℕ) → takes l ≡ true → l ≤ longest
within l h = (taken l h).not_over

module _ (m : List ℕ) (h : takes (length m) ≡ true) where
  size : Taken (length m)
  size = taken (length m) h

  pub laid_length : length (laid m) ≡ length m
  laid_length = omega (arith, size, length-append page (drop page_length m), length-drop page_length m, page_length_lem)

  pub session_ends : (core : Core) (limit : ℕ) → AtEnd (length m) (session core limit m)
  unfolding session
  session_ends core limit =
      let s = start (length (laid m)) in
      let good = is_good (length m) (record { not_zero = omega (arith, size); not_over = omega (arith, size); whole = size.whole }) in
      rw (← laid_length, run_goes core limit (laid m) s (rw laid_length good) (omega arith))
      (inside core limit 0 (place (laid m) s) (omega arith))
