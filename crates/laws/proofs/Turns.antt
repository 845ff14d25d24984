-- How steps and a run go on from a step: what the loop of the code needs to know.
use Prim.Native.Nat.{ℕ, suc, ◌+◌, ◌-◌, ◌/◌, ◌<◌, ◌≤◌}
use mathlib.Core.Path.{◌≡◌, refl, sym, ap, ◌∙◌}
use mathlib.Core.Bool.{true, false}
use mathlib.Core.List.{List}
use mathlib.Core.Option.{some}
use mathlib.Core.Logic.{◌⊎◌, ⊎_elim}
use native.Mathlib.Omega.{arith}
use native.Mathlib.Nat.{add-zero, zero-add}
use lib.ListN.{length}
use denote.Enum.Declared.{tag_of}
use borrow.Author.Tests.{le-leb, lt-leb}
use Rattle.machine.specs.contracts.Answer
use Rattle.machine.specs.declared.Core.{Core}
use Rattle.machine.specs.declared.State.{State}
use Rattle.machine.specs.declared.Outcome.TheVariants.{Limit, Image, Start}
use Rattle.machine.specs.declared.Answer.{Answer}
use Rattle.machine.specs.declared.Answer.TheVariants.{Done}
use Rattle.memory.specs.Memory.{good_length}
use Rattle.machine.specs.State.{Place, place}
use Rattle.machine.specs.Effects.{Effect, Effect.refuse, Effect.stop, Effect.go, memory_after}
use Rattle.machine.specs.Run.{Ran, onward, steps, ended, after, run_from, run, handed_back}
use Rattle.machine.specs.Table.{step_of}
use Rattle.machine.specs.Inner.{answer_of, Carried, finish_of}
use Rattle.laws.proofs.Steps.{one_step, steps_add, run_follows}

-- a step that is done goes on
done_on : (m : List ℕ) (s : State) {m' : List ℕ} {t : State} (e : Effect) → answer_of s e ≡ Done t → m' ≡ memory_after m e
    → onward e (place m s) some ≡ some (place m' t)
done_on m s (refuse o) h k = let z : ◌≡◌ {A = ℕ} 0 1 = cc in absurd (omega arith)
done_on m s (stop u) h k = let z : ◌≡◌ {A = ℕ} 0 1 = cc in absurd (omega arith)
done_on m s {t = t} (go u a n v) h k = let q : u ≡ t = cc in rw (q, k)

-- any other answer ends the run
ends_there : (m : List ℕ) (s : State) (e : Effect) (n : ℕ) (more : ℕ → Place → Ran) → ((t : State) → answer_of s e ≡ Done t → ⊥)
    → after e n (place m s) more ≡ handed_back (finish_of (answer_of s e) n) (memory_after m e)
ends_there m s (refuse o) n more h = refl
ends_there m s (stop u) n more h = refl
ends_there m s (go u a k v) n more h = absurd (h u refl)

-- n steps have led from p to s and m
module _ (core : Core) (n : ℕ) (p : Place) {m : List ℕ} {s : State} (so_far : steps core n p ≡ some (place m s)) where
  -- with n for the limit, the run ends there
  pub spent : run_from core n 0 p ≡ ended Limit n (place m s)
  unfolding run_from
  spent = ap (λ (x : ℕ). run_from core x 0 p) (sym (add-zero n)) ∙ run_follows core n 0 0 p (place m s) so_far ∙ rw zero-add

  module _ {r : Answer} {m' : List ℕ} (done : Carried m s (step_of core (place m s)) r m') where
    pub one_more : {t : State} → r ≡ Done t → steps core (n + 1) p ≡ some (place m' t)
    one_more {t = t} h =
        steps_add core n 1 p (place m s) so_far
        ∙ one_step core (place m s) (place m' t) (done_on m s (step_of core (place m s)) (sym done.answer ∙ h) done.memory)

    pub last : (l : ℕ) → n < l → ((t : State) → r ≡ Done t → ⊥) → run_from core l 0 p ≡ handed_back (finish_of r n) m'
    unfolding run_from
    last l h k =
        let e = step_of core (place m s) in
        let i : n + suc (l - n - 1) ≡ l = omega arith in
        ap (λ (x : ℕ). run_from core x 0 p) (sym i)
        ∙ run_follows core n (suc (l - n - 1)) 0 p (place m s) so_far
        ∙ ends_there m s e (0 + n) (run_from core (l - n - 1)) (λ t q. k t (done.answer ∙ q))
        ∙ rw (done.answer, done.memory, zero-add)

-- an answer whose tag is none of `Done`'s
pub not_done : (a : Answer) → (tag_of Answer.the_type a ≡ 1) ⊎ (tag_of Answer.the_type a ≡ 2) → (t : State) → a ≡ Done t → ⊥
not_done a h t e =
    let z : tag_of Answer.the_type a ≡ 0 = rw e in
    ⊎_elim (λ x. let y : ◌≡◌ {A = ℕ} 0 1 = cc in omega arith) (λ x. let y : ◌≡◌ {A = ℕ} 0 2 = cc in omega arith) h

module _ (core : Core) (l : ℕ) (m : List ℕ) (s : State) where
  pub run_image : good_length (length m) ≡ false → run core l (place m s) ≡ ended Image 0 (place m s)
  unfolding run
  run_image h = simp h

  pub run_start : good_length (length m) ≡ true → length m / 4 < s.sp.0 → run core l (place m s) ≡ ended Start 0 (place m s)
  unfolding run
  run_start h k = simp (h, lt-leb s.sp.0 (length m / 4) k)

  pub run_goes : good_length (length m) ≡ true → s.sp.0 ≤ length m / 4 → run core l (place m s) ≡ run_from core l 0 (place m s)
  unfolding run
  run_goes h k = simp (h, le-leb s.sp.0 (length m / 4) k)
