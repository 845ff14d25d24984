-- How a short instruction ends: where its path has arrived as the wide step says, the step is matched.
use Prim.Native.Nat.{ℕ, suc, ◌+◌, ◌-◌, ◌*◌, ◌/◌, ◌%◌, ◌^◌, ◌<◌}
use mathlib.Core.Path.{◌≡◌, refl, sym, ◌∙◌}
use mathlib.Core.Logic.{inl, inr}
use mathlib.Core.Bool.{Bool, true, false, not, ◌&&◌}
use mathlib.Core.List.{[], ◌∷◌}
use mathlib.Core.Option.{some}
use native.Mathlib.Nat.{add-zero, not-suc-le-zero}
use native.Mathlib.Omega.{arith}
use native.Mathlib.Decide.{dec_lt}
use lib.ListN.{length, get_or}
use lib.Dec.{T}
use Rattle.memory.specs.Memory.{set_bytes, word}
use Rattle.memory.proofs.Tests.{holds, true_is, neither}
use Rattle.memory.proofs.Memory.{none_written, Outside, narrower, past, Bytes, outside_same, read_written, alike_read, written_bytes}
use Rattle.machine.specs.declared.Core.TheVariants.{Narrow, Wide}
use Rattle.machine.specs.State.{state, jump, Place}
use Rattle.machine.specs.Effects.{Effect.go, landed}
use Rattle.machine.specs.Table.{step_of}
use Rattle.machine.specs.Run.{steps}
use Rattle.laws.proofs.Steps.{steps_keep, steps_length}
use Rattle.frame.proofs.Window.{Window}
use Rattle.paths.proofs.Paths.{Stand, stand, placed, Arrives}
use Rattle.emulation.specs.LeftBehind.{writes, leaves}
use Rattle.emulation.specs.Emulation.{Reached, dirt_of}
use Rattle.emulation.proofs.Between.{not_between, is_between}
use Rattle.emulation.proofs.Entry.{Begins, base, end, space}

module _ {b n k : ℕ} {p : Place} (R : Begins b n k p) where
  abbrev sp : ℕ
  sp = p.state.sp.0

  -- byte x is not left behind at y
  abbrev Aside : Stand → ℕ → Type 0
  Aside y x = Outside (4 * base R) (4 * (base R + y.free)) x

  -- y is as the wide core's q: its state, its words on the stack, its memory around the window; and what the wide step has
  -- written is not left behind
  pub record Settled (q : Place) (y : Stand) : Type 0 where
    pub lands : q.state ≡ state y.counter (base R + y.free) y.flag
    pub words : (j : ℕ) → j < length y.words → word q.memory (base R + y.free + j) ≡ get_or y.words j 0
    pub around : (x : ℕ) → Outside (4 * base R) (4 * end R) x → get_or y.around x 0 ≡ get_or q.memory x 0
    pub kept : (x : ℕ) → T (writes (step_of Wide p) x) → Aside y x

  module _ {N : ℕ} {q : Place} {y : Stand} (a : Arrives (space R) N p y) (S : Settled q y) (one : steps Wide 1 p ≡ some q) where
    W : Window (base R) (end R) y.free y.around a.memory y.words
    W = a.holds.window

    aside : (x : ℕ) → dirt_of (suc k) p q x ≡ false → Aside y x
    aside x h = by (writes (step_of Wide p) x) refl (rw S.lands at h)
      where
        by : (t : Bool) → writes (step_of Wide p) x ≡ t → not t && leaves (suc k) sp (base R + y.free) x ≡ false → Aside y x
        by true e h = S.kept x (holds e)
        by false e h = unfold leaves in (
            let (under, off) = neither _ _ h in
            past (not_between _ _ x under) (not_between _ _ x off) (omega arith) (omega arith) (omega arith))

    same : (x : ℕ) → Aside y x → Dec (x < 4 * end R) → get_or a.memory x 0 ≡ get_or q.memory x 0
    same x (inl l) d = W.outside x (inl l) ∙ S.around x (inl l)
    same x (inr l) (no h) = W.outside x (inr (omega arith)) ∙ S.around x (inr (omega arith))
    same x (inr l) (yes h) =
        let j : ℕ = x / 4 - (base R + y.free) in
        let spot : 4 * (base R + y.free + j) + x % 4 ≡ x = omega arith in
        let i : j < length y.words = omega (arith, W.fits) in
        let bytes : Bytes q.memory = steps_keep Wide Bytes written_bytes 1 p q one R.start.bytes in
        rw spot at (alike_read q.memory a.memory (4 * (base R + y.free + j)) 4 bytes W.bytes
        (W.holds j i ∙ sym (S.words j i)) (x % 4) (omega arith))

    pub matched : Reached N p q (dirt_of (suc k) p q)
    matched = record {
      count = a.count;
      within_bound = a.within;
      end = placed (space R) y a.memory;
      reached = a.reached;
      alike = record {
        same_state = sym S.lands;
        same_length = steps_length Narrow a.count p (placed (space R) y a.memory) a.reached ∙ sym (steps_length Wide 1 p q one);
        same_bytes = λ x h. same x (aside x h) (dec_lt x (4 * end R));
      };
    }

  sp_is : (j : ℕ) → base R + (suc k + j) ≡ sp + j
  sp_is j = omega (arith, R.room)

  -- a word is left in the place of the last operand
  pub word_left : {q : Place} {pc v : ℕ} (j : ℕ) → n ≡ j + 1 → v < 2 ^ 32 → q ≡ landed (step_of Wide p) p
      → step_of Wide p ≡ go (jump p.state pc (sp + j)) (4 * (sp + j)) 4 v
      → Settled q (stand pc (suc k + j) false (v ∷ []) p.memory)
  word_left {q} {pc} {v} j e small lands is = rw (lands, is) (record {
    lands = rw (sp_is j);
    words = λ i l. rw (sp_is j) (at_top i l);
    around = λ x o. sym (outside_same p.memory (4 * (sp + j)) 4 v x (narrower o (omega (arith, R.room)) (omega arith)));
    kept = λ x t. inr (omega (arith, R.room, (is_between (4 * (sp + j)) (4 * (sp + j) + 4) x (true_is _ (rw is at t))).0));
  })
    where
      at_top : (i : ℕ) → i < 1 → word (set_bytes p.memory (4 * (sp + j)) 4 v) (sp + j + i) ≡ get_or (v ∷ []) i 0
      at_top i l =
          let first : i ≡ 0 = omega arith in
          rw (first, add-zero (sp + j)) (read_written p.memory (4 * (sp + j)) 4 v (omega (arith, R.there)) small)

  -- every operand is popped off, and nothing is written
  pub nothing_left : {q : Place} {pc : ℕ} (j : ℕ) → q ≡ landed (step_of Wide p) p → step_of Wide p ≡ go (jump p.state pc (sp + j)) 0 0 0
      → Settled q (stand pc (suc k + j) false [] p.memory)
  nothing_left j lands is = rw (lands, is) (record {
    lands = rw (sp_is j);
    words = λ i l. absurd (not-suc-le-zero l);
    around = λ x o. rw (none_written p.memory 0 0);
    kept = λ x t. absurd (omega (arith, is_between 0 (0 + 0) x (true_is _ (rw is at t))));
  })
