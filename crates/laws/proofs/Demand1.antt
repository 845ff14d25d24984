-- Demand 1: any image, state, core and limit gets one of the listed outcomes, and a refusal leaves all as it was.
use Prim.Native.Nat.{ℕ, ◌/◌, ◌≤◌, ◌<◌}
use mathlib.Core.Path.{◌≡◌, refl}
use mathlib.Core.Bool.{Bool, true, false}
use native.Mathlib.Omega.{arith}
use native.Mathlib.Decide.{dec_lt}
use lib.ListN.{length}
use Rattle.machine.specs.declared.Core.{Core}
use Rattle.machine.specs.declared.Outcome.{Outcome}
use Rattle.machine.specs.declared.Outcome.TheVariants.{Limit, Break, Image, Start}
use Rattle.machine.specs.Outcomes.{number}
use Rattle.memory.specs.Memory.{good_length}
use Rattle.machine.specs.State.{Place}
use Rattle.machine.specs.Run.{steps, Ran, ended, run}
use Rattle.laws.specs.Ends.{Listed, LeavesAll, Ends, Ends.by_limit, Ends.by_break, Ends.by_refusal}
use Rattle.laws.proofs.Turns.{run_image, run_start}
use Rattle.laws.proofs.Demand2.{demand2}

module _ (core : Core) (limit : ℕ) (p : Place) where
  -- IMAGE and START, each given for its reason; `image_reason` and `start_reason` say that it is given for no other
  pub image_refused : good_length (length p.memory) ≡ false → run core limit p ≡ ended Image 0 p
  image_refused h = run_image core limit p.memory p.state h

  pub start_refused : good_length (length p.memory) ≡ true → length p.memory / 4 < p.state.sp.0 → run core limit p ≡ ended Start 0 p
  start_refused h k = run_start core limit p.memory p.state h k

  abbrev Kind : Ran → Type 0
  Kind r =
      Listed r
      × (2 ≤ r.outcome → LeavesAll core p r)
      × (2 ≤ r.outcome → r.outcome < 4 → (r.steps ≡ 0) × (r.place ≡ p))
      × (r.outcome ≡ 2 → good_length (length p.memory) ≡ false)
      × (r.outcome ≡ 3 → length p.memory / 4 < p.state.sp.0)

  entry : (o : Outcome) → (number o ≡ 2 → good_length (length p.memory) ≡ false)
      → (number o ≡ 3 → length p.memory / 4 < p.state.sp.0)
      → Kind (ended o 0 p)
  unfolding steps
  entry o image start = ((o, refl), λ _. refl, λ _ _. (refl, refl), image, start)

  ends : (r : Ran) → Ends core limit p r → Kind r
  ends r (by_limit s) =
      ((Limit, refl), λ h. absurd (omega arith), λ h k. absurd (omega arith), λ e. absurd (omega arith), λ e. absurd (omega arith))
  ends r (by_break l s b) =
      ((Break, refl), λ h. absurd (omega arith), λ h k. absurd (omega arith), λ e. absurd (omega arith), λ e. absurd (omega arith))
  ends r (by_refusal {o = o} l k s b) =
      ((o, refl), λ _. s, λ h j. absurd (omega arith), λ e. absurd (omega arith), λ e. absurd (omega arith))

  demand1 : Kind (run core limit p)
  demand1 = by_image (good_length (length p.memory)) refl
    where
      by_image : (t : Bool) → good_length (length p.memory) ≡ t → Kind (run core limit p)
      by_image false h = rw (image_refused h) (entry Image (λ _. h) (λ e. absurd (omega arith)))
      by_image true h = by_start (dec_lt (length p.memory / 4) p.state.sp.0)
        where
          by_start : Dec (length p.memory / 4 < p.state.sp.0) → Kind (run core limit p)
          by_start (yes k) = rw (start_refused h k) (entry Start (λ e. absurd (omega arith)) (λ _. k))
          by_start (no k) = ends _ (demand2 core limit p (record { image = h; start = omega arith }))

  pub one_of_the_listed : Listed (run core limit p)
  one_of_the_listed = demand1.0

  pub refusal_leaves_all : 2 ≤ (run core limit p).outcome → LeavesAll core p (run core limit p)
  refusal_leaves_all = demand1.1

  -- wherever 2 or 3 is given, the given state comes back with 0 steps and the image untouched
  pub entry_hands_back : 2 ≤ (run core limit p).outcome → (run core limit p).outcome < 4
      → ((run core limit p).steps ≡ 0) × ((run core limit p).place ≡ p)
  entry_hands_back = demand1.2

  pub image_reason : (run core limit p).outcome ≡ 2 → good_length (length p.memory) ≡ false
  image_reason = demand1.3

  pub start_reason : (run core limit p).outcome ≡ 3 → length p.memory / 4 < p.state.sp.0
  start_reason = demand1.4
