-- A run comes on: by no step, by two ways one after the other, and by a step that is done.
use Prim.Native.Nat.{ℕ, ◌+◌, ◌-◌, ◌<◌}
use mathlib.Core.Path.{◌≡◌, refl, sym, ap, ◌∙◌}
use mathlib.Core.List.{List}
use native.Mathlib.Omega.{arith}
use lib.ListN.{length}
use Rattle.machine.specs.declared.Core.{Core}
use Rattle.machine.specs.declared.State.{State}
use Rattle.machine.specs.declared.Answer.TheVariants.{Done}
use Rattle.memory.proofs.Memory.{length-set_bytes}
use Rattle.machine.specs.State.{Place, place}
use Rattle.machine.specs.Effects.{Effect, Effect.refuse, Effect.stop, Effect.go, memory_after}
use Rattle.machine.specs.Table.{step_of}
use Rattle.machine.specs.Inner.{Ready, Carried}
use Rattle.laws.proofs.Steps.{no_step, steps_add}
use Rattle.laws.proofs.Kept.{done_in}
use Rattle.laws.proofs.Turns.{one_more}
use Rattle.stretch.specs.Reaching.{Reaches}

pub none_done : {core : Core} {l : ℕ} {p : Place} (l' : ℕ) → l' ≡ l → Reaches core l p l' p
none_done {core} {l} {p} l' e =
    let z : l - l' ≡ 0 = omega arith in
    record { no_more = omega arith; by_steps = rw z (no_step core p) }

pub joined : {core : Core} {l l' l'' : ℕ} {p q r : Place} → Reaches core l p l' q → Reaches core l' q l'' r → Reaches core l p l'' r
joined {core} {l} {l'} {l''} {p} {q} a b =
    let f = a.no_more in
    let g = b.no_more in
    let i : l - l'' ≡ (l - l') + (l' - l'') = omega arith in
    record { no_more = omega arith; by_steps = rw i (steps_add core (l - l') (l' - l'') p q a.by_steps ∙ b.by_steps) }

-- memory keeps its length
same_length : (m : List ℕ) (e : Effect) → length (memory_after m e) ≡ length m
same_length m (refuse o) = refl
same_length m (stop t) = refl
same_length m (go t a k v) = length-set_bytes m a k v

module _ (core : Core) {m m' : List ℕ} {s t : State} (done : Carried m s (step_of core (place m s)) (Done t) m') where
  pub kept : length m' ≡ length m
  kept = ap length done.memory ∙ same_length m (step_of core (place m s))

  pub one_further : {l l' : ℕ} {p : Place} → Reaches core l p l' (place m s) → (more : ℕ) → more + 1 ≡ l'
      → Reaches core l p more (place m' t)
  one_further {l} {l'} {p} a more k =
      let f = a.no_more in
      let i : l - more ≡ l - l' + 1 = omega arith in
      record { no_more = omega arith; by_steps = rw i (one_more core (l - l') p a.by_steps done refl) }

  pub ready_on : Ready m s → Ready m' t
  ready_on r =
      record {
        not_over = omega (arith, kept, r.not_over);
        whole = omega (arith, kept, r.whole);
        sp_inside = rw kept (done_in m s r.sp_inside core t (sym done.answer));
      }

-- from p, with `limit` steps, the run has come to m and s, and `left` are left
pub record SoFar (core : Core) (limit : ℕ) (p : Place) (m : List ℕ) (s : State) (left : ℕ) : Type 0 where
  pub ready : Ready m s
  pub reaches : Reaches core limit p left (place m s)

pub stepped : {core : Core} {limit : ℕ} {p : Place} {m : List ℕ} {s : State} {left : ℕ} → SoFar core limit p m s left
    → {t : State} {m' : List ℕ} → Carried m s (step_of core (place m s)) (Done t) m' → 0 < left → SoFar core limit p m' t (left - 1)
stepped {core} {left = left} u d k =
    record { ready = ready_on core d u.ready; reaches = one_further core d u.reaches (left - 1) (omega arith) }
