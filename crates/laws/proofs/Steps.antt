-- Steps in order: n steps and then m are n + m, and a run follows them.
use Prim.Native.Nat.{ℕ, zero, suc, ◌+◌}
use mathlib.Core.Path.{◌≡◌, refl, ap, ◌∙◌}
use mathlib.Core.List.{List}
use mathlib.Core.Option.{Option, none, some}
use native.Mathlib.Nat.{add-zero, zero-add, suc-add}
use native.Mathlib.Omega.{arith}
use lib.ListN.{length}
use Rattle.memory.specs.Memory.{set_bytes}
use Rattle.memory.proofs.Memory.{length-set_bytes}
use Rattle.machine.specs.declared.Core.{Core}
use Rattle.machine.specs.State.{Place}
use Rattle.machine.specs.Effects.{Effect, Effect.refuse, Effect.stop, Effect.go, memory_after, landed}
use Rattle.machine.specs.Run.{Ran, onward, steps, after, run_from}
use Rattle.machine.specs.Table.{step_of}

-- the effect is neither a refusal nor a stop
abbrev pub Goes : Effect → Type 0
Goes (refuse o) = ⊥
Goes (stop t) = ⊥
Goes (go t a k v) = Unit {0}

none_is_not_some : {q : Place} → none ≡ some q → ⊥
none_is_not_some h = let z : ◌≡◌ {A = ℕ} 0 1 = cc in omega arith

went : (e : Effect) (p : Place) {q : Place} (more : Place → Option Place) → onward e p more ≡ some q
    → Goes e × (more (landed e p) ≡ some q)
went (refuse o) p more h = absurd (none_is_not_some h)
went (stop t) p more h = absurd (none_is_not_some h)
went (go t a k v) p more h = (tt, h)

pub goes_on : (e : Effect) (p : Place) (more : Place → Option Place) → Goes e → onward e p more ≡ more (landed e p)
goes_on (refuse o) p more g = absurd g
goes_on (stop t) p more g = absurd g
goes_on (go t a k v) p more g = refl

run_goes_on : (e : Effect) (n : ℕ) (p : Place) (more : ℕ → Place → Ran) → Goes e → after e n p more ≡ more (n + 1) (landed e p)
run_goes_on (refuse o) n p more g = absurd g
run_goes_on (stop t) n p more g = absurd g
run_goes_on (go t a k v) n p more g = refl

module _ (core : Core) where
  -- the first of several steps
  pub first_step : (n : ℕ) (p : Place) {q : Place} → steps core (suc n) p ≡ some q
      → Goes (step_of core p) × (steps core n (landed (step_of core p) p) ≡ some q)
  unfolding steps
  first_step n p h = went (step_of core p) p (steps core n) h

  pub no_step : (p : Place) → steps core 0 p ≡ some p
  unfolding steps
  no_step p = refl

  pub none_taken : (p q : Place) → steps core 0 p ≡ some q → p ≡ q
  unfolding steps
  none_taken p q h = cc

  pub one_step : (p q : Place) → onward (step_of core p) p some ≡ some q → steps core 1 p ≡ some q
  unfolding steps
  one_step p q h = h

  pub steps_add : (n m : ℕ) (p q : Place) → steps core n p ≡ some q → steps core (n + m) p ≡ steps core m q
  unfolding steps
  steps_add zero m p q h = rw (zero-add, none_taken p q h)
  steps_add (suc n) m p q h =
      let (g, rest) = went (step_of core p) p (steps core n) h in
      rw suc-add (goes_on (step_of core p) p (steps core (n + m)) g ∙ steps_add n m (landed (step_of core p) p) q rest)

  -- what every write keeps, steps keep
  pub steps_keep : (P : List ℕ → Type 0) → ((m : List ℕ) (a k v : ℕ) → P m → P (set_bytes m a k v)) → (n : ℕ) (p q : Place)
      → steps core n p ≡ some q → P p.memory → P q.memory
  unfolding steps
  steps_keep P write zero p q h x = rw (none_taken p q h) at x
  steps_keep P write (suc n) p q h x =
      let (g, rest) = went (step_of core p) p (steps core n) h in
      steps_keep P write n (landed (step_of core p) p) q rest (kept (step_of core p))
    where
      kept : (e : Effect) → P (memory_after p.memory e)
      kept (refuse o) = x
      kept (stop t) = x
      kept (go t a k v) = write p.memory a k v x

  pub steps_length : (n : ℕ) (p q : Place) → steps core n p ≡ some q → length q.memory ≡ length p.memory
  steps_length n p q h = steps_keep (λ m. length m ≡ length p.memory) (λ m a k v e. length-set_bytes m a k v ∙ e) n p q h refl

  -- n steps done, and the run goes on from there with the count at c + n
  pub run_follows : (n k c : ℕ) (p q : Place) → steps core n p ≡ some q → run_from core (n + k) c p ≡ run_from core k (c + n) q
  unfolding steps run_from
  run_follows zero k c p q h = rw (zero-add, add-zero, none_taken p q h)
  run_follows (suc n) k c p q h =
      let (g, rest) = went (step_of core p) p (steps core n) h in
      rw suc-add
      (run_goes_on (step_of core p) c p (run_from core (n + k)) g
      ∙ run_follows n k (c + 1) (landed (step_of core p) p) q rest
      ∙ ap (λ (x : ℕ). run_from core k x q) (omega arith))
