-- Demand 2: a run is the definition's steps in order, counted, to the first stop.
use Prim.Native.Nat.{ℕ, zero, suc, ◌+◌, ◌/◌, ◌≤◌}
use mathlib.Core.Path.{◌≡◌, refl, ap, ◌∙◌, subst}
use mathlib.Core.Option.{some}
use native.Mathlib.Nat.{add-zero, zero-add}
use native.Mathlib.Omega.{arith}
use lib.ListN.{length}
use Rattle.memory.specs.Memory.{set_bytes}
use Rattle.machine.specs.State.{Place, place}
use Rattle.machine.specs.Effects.{Effect, Effect.refuse, Effect.stop, Effect.go}
use Rattle.machine.specs.Run.{steps, ended, after, run_from, run}
use Rattle.memory.proofs.Memory.{length-set_bytes}
use Rattle.machine.specs.declared.Core.{Core}
use Rattle.machine.specs.declared.State.{State}
use Rattle.machine.specs.declared.Outcome.{Outcome}
use Rattle.machine.specs.declared.Outcome.TheVariants.{Limit, Break}
use Rattle.laws.specs.Ends.{Admitted, Ends, Ends.by_limit, Ends.by_break, Ends.by_refusal}
use Rattle.machine.specs.Table.{step_of}
use Rattle.laws.proofs.Steps.{steps_add, run_follows}
use Rattle.laws.proofs.Kept.{Within, step_in}
use Rattle.laws.proofs.Turns.{run_goes}

module _ (core : Core) (limit : ℕ) (p : Place) where
  abbrev In : Place → Type 0
  In q = q.state.sp.0 ≤ length q.memory / 4

  -- with n steps done and k left
  walk : (k n : ℕ) (q : Place) → In q → n + k ≡ limit → steps core n p ≡ some q → Ends core limit p (run_from core k n q)
  unfolding run_from steps
  walk zero n q i e h =
      let z : n ≡ limit = omega arith in rw z (by_limit (subst (λ (x : ℕ). steps core x p ≡ some q) z h))
  walk (suc k) n q i e h =
      by_effect (step_of core q) (step_in q.memory q.state i core)
      (λ r j s. walk k (n + 1) r j (omega arith) (steps_add core n 1 p q h ∙ s))
      refl
    where
      by_effect : (x : Effect) → Within (length q.memory / 4) x
          → ((r : Place) → In r → steps core 1 q ≡ some r → Ends core limit p (run_from core k (n + 1) r)) → step_of core q ≡ x
          → Ends core limit p (after x n q (run_from core k))
      by_effect (refuse o) w f s = by_refusal {n = n} (omega arith) w h s
      by_effect (stop t) w f s = by_break {n = n} (omega arith) h s
      by_effect (go t a b v) w f s =
          f (place (set_bytes q.memory a b v) t) (rw (length-set_bytes q.memory a b v) w) (rw s)

  module _ (a : Admitted p) where
    admitted : run core limit p ≡ run_from core limit 0 p
    admitted = run_goes core limit p.memory p.state a.image a.start

    pub demand2 : Ends core limit p (run core limit p)
    unfolding steps
    demand2 = rw admitted (walk limit 0 p a.start (zero-add limit) refl)

    -- after n steps done the run stands at q with n counted
    pub counted : (n k : ℕ) (q : Place) → n + k ≡ limit → steps core n p ≡ some q → run core limit p ≡ run_from core k n q
    counted n k q e h = admitted ∙ rw (← e) (run_follows core n k 0 p q h ∙ ap (λ (c : ℕ). run_from core k c q) (zero-add n))

-- LIMIT before FETCH and all else: with no step left nothing is tested
pub limit_first : (core : Core) (n : ℕ) (p q : Place) → Admitted p → steps core n p ≡ some q → run core n p ≡ ended Limit n q
unfolding run_from
limit_first core n p q a h = counted core n p a n 0 q (add-zero n) h

-- BREAK is 1, counted, with its own state, on the last allowed step too, where k is 0
pub break_counted : (core : Core) (n k : ℕ) (p q : Place) (t : State) → Admitted p → steps core n p ≡ some q → step_of core q ≡ stop t
    → run core (n + suc k) p ≡ ended Break (n + 1) (place q.memory t)
unfolding run_from
break_counted core n k p q t a h s = counted core (n + suc k) p a n (suc k) q refl h ∙ rw s

-- a refused instruction counts no step
pub refused_uncounted : (core : Core) (n k : ℕ) (p q : Place) (o : Outcome) → Admitted p → steps core n p ≡ some q
    → step_of core q ≡ refuse o
    → run core (n + suc k) p ≡ ended o n q
unfolding run_from
refused_uncounted core n k p q o a h s = counted core (n + suc k) p a n (suc k) q refl h ∙ rw s
