-- Where a run ends: memory has the length that it had, and the stack pointer is inside it, or is the one that was given.
use Prim.Native.Nat.{ℕ, zero, suc, ◌+◌, ◌/◌, ◌^◌, ◌≤◌, ◌<◌}
use mathlib.Core.Path.{◌≡◌, refl}
use mathlib.Core.Bool.{Bool, true, false}
use native.Mathlib.Omega.{arith}
use native.Mathlib.Decide.{dec_lt}
use lib.ListN.{length}
use Rattle.memory.specs.Memory.{set_bytes, good_length}
use Rattle.machine.specs.State.{Place, place}
use Rattle.machine.specs.Effects.{Effect, Effect.refuse, Effect.stop, Effect.go}
use Rattle.machine.specs.Run.{Ran, after, run_from, run}
use Rattle.memory.proofs.Memory.{length-set_bytes}
use Rattle.memory.proofs.Lengths.{good}
use Rattle.machine.specs.declared.Core.{Core}
use Rattle.laws.proofs.Kept.{Within, step_in}
use Rattle.machine.specs.Table.{step_of}
use Rattle.laws.proofs.Turns.{run_image, run_start, run_goes}

-- the run ends in memory of length l, its stack pointer inside it
abbrev pub AtEnd : ℕ → Ran → Type 0
AtEnd l r = (length r.place.memory ≡ l) × (r.place.state.sp.0 ≤ l / 4)

pub inside : (core : Core) (k n : ℕ) (p : Place) → p.state.sp.0 ≤ length p.memory / 4
    → AtEnd (length p.memory) (run_from core k n p)
unfolding run_from
inside core zero n p h = (refl, h)
inside core (suc k) n p h = by_effect (step_of core p) (step_in p.memory p.state h core) (inside core k (n + 1))
  where
    by_effect : (e : Effect) → Within (length p.memory / 4) e
        → ((q : Place) → q.state.sp.0 ≤ length q.memory / 4 → AtEnd (length q.memory) (run_from core k (n + 1) q))
        → AtEnd (length p.memory) (after e n p (run_from core k))
    by_effect (refuse o) w more = (refl, h)
    by_effect (stop t) w more = (refl, w)
    by_effect (go t a j v) w more =
        let e : length (set_bytes p.memory a j v) ≡ length p.memory = length-set_bytes p.memory a j v in
        rw e at (more (place (set_bytes p.memory a j v) t) (rw e w))

-- an sp of 32 bits stays one of 32 bits
pub sp_fits : (core : Core) (limit : ℕ) (p : Place) → p.state.sp.0 < 2 ^ 32
    → (run core limit p).place.state.sp.0 < 2 ^ 32
sp_fits core limit p h = by_image (good_length (length p.memory)) refl
  where
    by_image : (t : Bool) → good_length (length p.memory) ≡ t → (run core limit p).place.state.sp.0 < 2 ^ 32
    by_image false e = rw (run_image core limit p.memory p.state e) h
    by_image true e = by_start (dec_lt (length p.memory / 4) p.state.sp.0)
      where
        by_start : Dec (length p.memory / 4 < p.state.sp.0) → (run core limit p).place.state.sp.0 < 2 ^ 32
        by_start (yes k) = rw (run_start core limit p.memory p.state e k) h
        by_start (no k) =
            rw (run_goes core limit p.memory p.state e (omega arith))
            (omega (arith, good (length p.memory) e, (inside core limit 0 p (omega arith)).1))
