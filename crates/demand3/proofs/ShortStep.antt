-- A short instruction: the narrow core does by the page what it owes, within the bound and the words of demand 3.
use Prim.Native.Nat.{ℕ, ◌+◌, ◌-◌, ◌*◌, ◌≤◌, ◌<◌}
use mathlib.Core.Path.{◌≡◌, refl, ◌∙◌}
use mathlib.Core.Logic.{inl, inr}
use mathlib.Core.Bool.{Bool, true, false, not, ◌&&◌, ◌||◌, and-false}
use mathlib.Core.List.{List, [], ◌∷◌, map}
use mathlib.Core.Option.{some}
use native.Mathlib.Omega.{arith}
use borrow.Author.Tests.{eqb-true}
use lib.Dec.{T, eqb}
use Rattle.memory.proofs.Memory.{narrower}
use Rattle.memory.proofs.Tests.{In, true_is, neither}
use Rattle.machine.specs.declared.Core.TheVariants.{Wide}
use Rattle.machine.specs.State.{Place, fetched}
use Rattle.machine.specs.Effects.{Effect, state_after, landed}
use Rattle.machine.specs.Instructions.{among}
use Rattle.machine.specs.Table.{step_of}
use Rattle.laws.proofs.Steps.{Goes, goes_on, one_step}
use Rattle.routines.specs.Constants.{page_length, first_stack_word, free_words}
use Rattle.routines.specs.Shorts.{Short, shorts}
use Rattle.routines.proofs.Numbers.{within_both}
use Rattle.emulation.specs.LeftBehind.{Dirt, writes, leaves}
use Rattle.emulation.specs.Emulation.{WithPage, Alike, dirt_of}
use Rattle.emulation.proofs.Between.{not_between, outside}
use Rattle.emulation.proofs.Theorem.{emulates}
use Rattle.demand3.specs.Dirt.{is_short, dirtied}
use Rattle.demand3.specs.Demand3.{Allowed}
use Rattle.demand3.proofs.Dependence.{same_byte, same_step}
use Rattle.demand3.proofs.Matched.{Matched}

-- an entry of os whose byte is b
abbrev OneOf : ℕ → List Short → Type 0
OneOf b os = (o : Short) × In o os × (b ≡ o.byte)

abbrev among_bytes : ℕ → List Short → Bool
among_bytes b os = among b (map (λ o. o.byte) os)

found : (b : ℕ) (os : List Short) → T (among_bytes b os) → OneOf b os
found b [] t = absurd t
found b (o ∷ os) t = by (eqb b o.byte) refl t (λ u. found b os u)
  where
    by : (x : Bool) → eqb b o.byte ≡ x → T (x || among_bytes b os) → (T (among_bytes b os) → OneOf b os) → OneOf b (o ∷ os)
    by true e u rest = (o, inl refl, eqb-true b o.byte e)
    by false e u rest = let (r, i, k) = rest u in (r, inr i, k)

the_short : (b : ℕ) → T (is_short b) → OneOf b shorts
unfolding is_short
the_short b t = found b shorts t

module _ (w old new x : ℕ) where
  -- fewer words below sp, and less is left behind
  fewer : (n : ℕ) → w ≤ n → leaves n old new x ≡ false → leaves w old new x ≡ false
  unfolding leaves
  fewer n l h =
      let (under, off) = neither _ _ h in
      rw (outside (4 * (old - w)) (4 * old) x (narrower (not_between _ _ x under) (omega arith) (omega arith)), off)

  -- nothing is left behind in the page
  above_page : first_stack_word + w ≤ old → x < page_length → leaves w old new x ≡ false
  unfolding leaves
  above_page h l = rw (outside (4 * (old - w)) (4 * old) x (inl (omega arith)), outside (4 * old) (4 * new) x (inl (omega arith)))

module _ {d : Dirt} {p x : Place} (E : Alike d p x) (F : Allowed p d) (going : Goes (step_of Wide p)) (short : T (is_short (fetched p)))
    (start : WithPage x) where
  abbrev e : Effect
  e = step_of Wide p

  abbrev new : ℕ
  new = (state_after p.state e).sp.0

  -- what is clean by the words of demand 3 is clean by those of the instruction
  still_clean : (w a : ℕ) → w ≤ free_words → dirtied e p d a ≡ false → not (writes e a) && leaves w p.state.sp.0 new a ≡ false
  unfolding dirtied
  still_clean w a l h = by (writes e a) (omega arith) h
    where
      by : (t : Bool) {n : ℕ} → w ≤ n → not t && (d a || is_short (fetched p) && leaves n p.state.sp.0 new a) ≡ false
          → not t && leaves w p.state.sp.0 new a ≡ false
      by true l h = refl
      by false {n} l h = fewer w p.state.sp.0 new a n l (rw (true_is (is_short (fetched p)) short) at (neither (d a) _ h).1)

  pub short_step : Matched e p d x
  short_step =
      let (o, member, here) = the_short (fetched p) short in
      let (few, words) = within_both member in
      let same : step_of Wide x ≡ e = same_step E F in
      let room : first_stack_word + o.words ≤ p.state.sp.0 = omega (arith, F.room short) in
      record {
        bound = o.steps;
        few = few;
        dirt = dirt_of o.words x (landed e x);
        reaches = emulates member x (landed e x) start (same_byte E F ∙ here) (rw E.same_state room)
            (one_step Wide x _ (rw same (goes_on e x some going)));
        no_more = λ a h. rw (same, E.same_state) (still_clean o.words a words h);
        off_page = λ a l. rw (same, E.same_state, above_page o.words p.state.sp.0 new a room l) (and-false (not (writes e a)));
      }
