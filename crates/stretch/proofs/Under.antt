-- A stretch under way: what holds at the head of its loop, and how a turn keeps it.
use Prim.Native.Nat.{ℕ, ◌+◌, ◌-◌, ◌^◌, ◌<◌, ◌≤◌, min}
use mathlib.Core.Path.{◌≡◌, refl, sym, ◌∙◌}
use mathlib.Core.Bool.{Bool, false}
use mathlib.Core.List.{List}
use native.Mathlib.Omega.{arith}
use denote.Enum.Declared.{tag_of}
use lib.Dec.{eqb}
use lib.ListN.{length}
use borrow.Author.Tests.{eqb-false, lt-ltb}
use Rattle.std.proofs.Common.{Option, None, Some, IfSome, Result, Ok, Err, IfOk}
use Rattle.std.proofs.Math.Option as logic
use Rattle.arithmetic.specs.Words.{wrap}
use Rattle.machine.specs.declared.Core.{Core}
use Rattle.machine.specs.declared.State.{State}
use Rattle.machine.specs.declared.Outcome.{Outcome}
use Rattle.machine.specs.declared.Way.{Way}
use Rattle.machine.specs.declared.Way.TheVariants.{Next, NextFlagged, Jump, Stop}
use Rattle.machine.specs.declared.Answer.TheVariants.{Done}
use Rattle.machine.specs.declared.machine.Machine.{Machine}
use Rattle.machine.specs.State.{Place, place, fetched}
use Rattle.machine.specs.Instructions.{Instr, decode}
use Rattle.machine.specs.Effects.{Effect, Effect.refuse, Effect.stop, Effect.go, memory_after}
use Rattle.machine.specs.Table.{effect_of, step_of}
use Rattle.machine.specs.Inner.{answer_of, Carried, answered, Ready}
use Rattle.machine.specs.contracts.Way
use Rattle.common_instructions.specs.Tried.{Tried}
use Rattle.stretch.specs.Reaching.{Reaches}
use Rattle.stretch.proofs.Reaching.{SoFar, stepped, kept}

-- from p, with `left` steps, the run has come to m and s; it comes to its limit at `goal`, and pauses at `halt`
pub record Under (core : Core) (left : ℕ) (p : Place) (m : List ℕ) (s : State) (goal last halt : ℕ) : Type 0 where
  pub so_far : SoFar core left p m s (goal - s.pc.0)
  pub last_byte : last + 1 ≡ length m
  pub before_halt : s.pc.0 ≤ halt
  pub before_last : halt ≤ last
  pub before_goal : halt ≤ goal
  pub fits : left < 2 ^ 32

module _ {core : Core} {left : ℕ} {p : Place} {m : List ℕ} {s : State} {goal last halt : ℕ}
    (u : Under core left p m s goal last halt) (running : eqb s.pc.0 halt ≡ false) {t : State} {m' : List ℕ}
    (d : Carried m s (effect_of m s (decode core (fetched (place m s)))) (Done t) m') where
  pub moving : s.pc.0 < halt
  moving = let n = eqb-false s.pc.0 halt running in omega (arith, n, u.before_halt)

  done : Carried m s (step_of core (place m s)) (Done t) m'
  unfolding step_of
  done = rw (lt-ltb s.pc.0 (length m) (omega (arith, u.before_halt, u.before_last, u.last_byte))) d

  -- the step is one of those that were left
  pub came : (more : ℕ) → more ≡ goal - s.pc.0 - 1 → SoFar core left p m' t more
  came more k = rw k (stepped u.so_far done (omega (arith, moving, u.before_goal)))

  pub come_to : {more : ℕ} → more ≡ goal - s.pc.0 - 1 → Ready m' t × Reaches core left p more (place m' t)
  come_to {more} k = let v = came more k in (v.ready, v.reaches)

  pub moved_on : t.pc.0 ≡ wrap (s.pc.0 + 1) → Under core left p m' t goal last halt
  moved_on e =
      let n = moving in
      let k : t.pc.0 ≡ s.pc.0 + 1 = omega (arith, e, u.before_last, u.last_byte, u.so_far.ready.not_over) in
      record {
        so_far = came (goal - t.pc.0) (omega arith);
        last_byte = u.last_byte ∙ sym (kept core done);
        before_halt = omega arith;
        before_last = u.before_last;
        before_goal = u.before_goal;
        fits = u.fits;
      }

  -- the limit moves with the counter
  pub jumped : {goal' halt' : ℕ} → goal' ≡ t.pc.0 + (goal - s.pc.0 - 1) → t.pc.0 ≤ last → halt' ≡ min goal' last
      → Under core left p m' t goal' last halt'
  jumped {goal'} k b q =
      record {
        so_far = came (goal' - t.pc.0) (omega arith);
        last_byte = u.last_byte ∙ sym (kept core done);
        before_halt = omega arith;
        before_last = omega arith;
        before_goal = omega arith;
        fits = u.fits;
      }

-- what does not go on leaves memory as it was
pub left_alone : (p q : Machine) (told : logic.Option Instr) (i : Instr) (pause : Bool) (r : Option (Result Way Outcome)) → Tried p told i pause r q
    → IfSome r (λ w. (t : State) → answered p.state w ≡ Done t → ⊥) → q.image.now ≡ p.image.now
left_alone p q told i pause None d k = d.0.memory
left_alone p q told i pause (Some w) d k = d.1.carried.memory ∙ quiet (effect_of p.image.now p.state i) d.1.carried.answer
  where
    quiet : (x : Effect) → answered p.state w ≡ answer_of p.state x → memory_after p.image.now x ≡ p.image.now
    quiet (refuse o) h = refl
    quiet (stop t) h = refl
    quiet (go t a n v) h = absurd (k t h)

-- with the counter moved on, fewer steps are left
pub shorter : {core : Core} {left : ℕ} {p : Place} {m m' : List ℕ} {s t : State} {goal last halt : ℕ}
    → Under core left p m s goal last halt → Under core left p m' t goal last halt → t.pc.0 ≡ wrap (s.pc.0 + 1)
    → goal - t.pc.0 < goal - s.pc.0
shorter u v e = omega (arith, e, u.before_halt, u.before_last, u.last_byte, u.so_far.ready.not_over, v.before_halt, v.before_goal)

-- the way that ends a stretch goes on to no state, nor does a refusal
pub ends : (s : State) (r : Result Way Outcome) → IfOk r (λ w. tag_of Way.the_type w ≡ 3) → (t : State) → answered s r ≡ Done t → ⊥
ends s (Ok (Next x)) k t h = omega arith
ends s (Ok (NextFlagged x)) k t h = omega arith
ends s (Ok (Jump p x)) k t h = omega arith
ends s (Ok Stop) k t h = let z : ◌≡◌ {A = ℕ} 0 1 = cc in omega arith
ends s (Err o) k t h = let z : ◌≡◌ {A = ℕ} 0 1 = cc in omega arith
