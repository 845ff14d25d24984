-- The narrow core follows the frame machine through straight code that stands below the window.
use Prim.Native.Nat.{ℕ, suc, ◌+◌, ◌*◌, ◌≤◌, ◌<◌}
use mathlib.Core.Path.{◌≡◌}
use mathlib.Core.Logic.{inl}
use mathlib.Core.Bool.{Bool, false}
use mathlib.Core.List.{List, [], ◌∷◌}
use mathlib.Core.Option.{some}
use native.Mathlib.Nat.{add_assoc, add-zero}
use native.Mathlib.Numerals.{one-add}
use native.Mathlib.Omega.{arith}
use borrow.Author.Tests.{lt-ltb}
use lib.ListN.{length, get_or}
use Rattle.arithmetic.specs.Words.{wrap}
use Rattle.machine.specs.declared.Core.TheVariants.{Narrow}
use Rattle.machine.specs.State.{Place, state}
use Rattle.machine.specs.Instructions.{Instr, Instr.BREAK, decode}
use Rattle.machine.specs.Table.{effect_of, step_of}
use Rattle.machine.specs.Run.{steps}
use Rattle.laws.proofs.Steps.{steps_add, no_step}
use Rattle.frame.proofs.Frame.{Frame, Frame.running, Frame.jumped, Frame.stuck, and_then, instruction, through}
use Rattle.frame.proofs.Window.{Window}
use Rattle.frame.proofs.Follows.{place_at, Comes, Follows, follows}

-- memory u has this code from address c on
abbrev pub Code : List ℕ → ℕ → List Instr → Type 0
Code u c is = (j : ℕ) → j < length is → decode Narrow (get_or u (c + j) 0) ≡ get_or is j BREAK

module _ (base end : ℕ) (u : List ℕ) where
  -- from x the narrow core comes to where the frame machine says of the k instructions from address c on
  abbrev pub ComesThrough : ℕ → ℕ → Frame → Place → Type 0
  ComesThrough c k (running q g vs) x = Comes base end u (c + k) q g vs (steps Narrow k x)
  ComesThrough c k (jumped w q vs) x = (n : ℕ) × (n ≤ k) × Comes base end u w q false vs (steps Narrow n x)
  ComesThrough c k stuck x = Unit {0}

  earlier : (c k : ℕ) (y : Frame) (x z : Place) → steps Narrow 1 x ≡ some z → ComesThrough (c + 1) k y z → ComesThrough c (suc k) y x
  earlier c k (running q g vs) x z e r = rw (← one-add k, steps_add Narrow 1 k x z e) (rw (add_assoc c 1 k) at r)
  earlier c k (jumped w q vs) x z e (n, l, r) = (1 + n, omega arith, rw (steps_add Narrow 1 n x z e) r)
  earlier c k stuck x z e r = tt

  joined : (c k : ℕ) (y : Frame) (rest : ℕ → Bool → List ℕ → Frame) (x : Place)
      → Follows base end u c y (step_of Narrow x) x → wrap (c + 1) ≡ c + 1
      → ((q : ℕ) (g : Bool) (vs m : List ℕ) → Window base end q u m vs
      → ComesThrough (c + 1) k (rest q g vs) (place_at (c + 1) (base + q) g m))
      → ComesThrough c (suc k) (and_then y rest) x
  unfolding steps
  joined c k (running q g vs) rest x (m, e, W) n more =
      earlier c k (rest q g vs) x (place_at (c + 1) (base + q) g m) (rw n at e) (more q g vs m W)
  joined c k (jumped w q vs) rest x r n more = (1, omega arith, r)
  joined c k stuck rest x r n more = tt

  does : (c p : ℕ) (f : Bool) (m ws : List ℕ) (i : Instr) → Window base end p u m ws → c < 4 * base → decode Narrow (get_or u c 0) ≡ i
      → step_of Narrow (place_at c (base + p) f m) ≡ effect_of m (state c (base + p) f) i
  unfolding step_of
  does c p f m ws i W h e =
      rw (lt-ltb c (length m) (omega (arith, W.inside, W.fits)), W.outside c (inl h), e)

  pub code_runs : (is : List Instr) (c p : ℕ) (f : Bool) (m ws : List ℕ) → Code u c is → c + length is ≤ 4 * base
      → Window base end p u m ws → ComesThrough c (length is) (through base is p f ws) (place_at c (base + p) f m)
  unfolding through
  code_runs [] c p f m ws C h W = (m, rw (add-zero c) (no_step Narrow _), W)
  code_runs (i ∷ is) c p f m ws C h W =
      joined c (length is) (instruction base i p f ws) (through base is) (place_at c (base + p) f m)
      (rw (does c p f m ws i W (omega arith) (rw (add-zero c) at (C 0 (omega arith)))) (follows base end u c f m i p ws W))
      (omega (arith, W.in_reach, W.fits))
      (λ q g vs m₁ W₁.
      code_runs is (c + 1) q g m₁ vs (λ j k. rw (add_assoc c 1 j, one-add j) (C (suc j) (omega arith))) (omega arith) W₁)
