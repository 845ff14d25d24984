-- What a wide step that goes on tells: its counter is inside, the words that its row reads are there, and it does what the row says.
use Prim.Native.Nat.{ℕ, zero, suc, ◌+◌, ◌/◌, ◌≤◌, ◌<◌}
use mathlib.Core.Path.{◌≡◌, refl, sym, ◌∙◌}
use mathlib.Core.Bool.{Bool, true, false}
use mathlib.Core.List.{List}
use mathlib.Core.Option.{some}
use native.Mathlib.Nat.{not-suc-le-zero}
use native.Mathlib.Omega.{arith}
use borrow.Author.Tests.{ltb-true}
use lib.ListN.{length}
use lib.Dec.{ltb}
use Rattle.machine.specs.declared.Core.TheVariants.{Wide}
use Rattle.machine.specs.declared.State.{State}
use Rattle.machine.specs.declared.Outcome.{Outcome}
use Rattle.machine.specs.declared.Outcome.TheVariants.{Fetch, Stack}
use Rattle.machine.specs.State.{Place, fetched}
use Rattle.machine.specs.Effects.{Effect, guard, landed}
use Rattle.machine.specs.Instructions.{decode}
use Rattle.machine.specs.Table.{Act, ◌⇒◌, row, reading, doing, effect_of, step_of}
use Rattle.machine.specs.Run.{steps}
use Rattle.laws.proofs.Steps.{Goes, first_step, none_taken}
use Rattle.routines.proofs.Straight.{words_from}

-- a test that an effect which goes on has passed
passed : (t : Bool) (o : Outcome) (e : Effect) → Goes (guard t o e) → (t ≡ true) × (guard t o e ≡ e)
passed true o e g = (refl, refl)
passed false o e g = absurd g

passed_reads : (m : List ℕ) (s : State) (n w : ℕ) (e : Effect) → Goes (reading m s (words_from n w) e)
    → (0 < n → w + n ≤ length m / 4) × (reading m s (words_from n w) e ≡ e)
passed_reads m s zero w e g = (λ h. absurd (not-suc-le-zero h), refl)
passed_reads m s (suc n) w e g =
    let (t, p) = passed (ltb w (length m / 4)) Stack (reading m s (words_from n (w + 1)) e) g in
    let (i, q) = passed_reads m s n (w + 1) e (rw p at g) in
    (λ h. last n (ltb-true w (length m / 4) t) i, p ∙ q)
  where
    last : (n : ℕ) → w < length m / 4 → (0 < n → w + 1 + n ≤ length m / 4) → w + suc n ≤ length m / 4
    last zero h i = omega arith
    last (suc n) h i = omega (arith, i (omega arith))

pub record WideStep (n : ℕ) (act : Act) (p q : Place) : Type 0 where
  pub inside : p.state.pc.0 < length p.memory
  pub there : 0 < n → p.state.sp.0 + n ≤ length p.memory / 4
  pub is : step_of Wide p ≡ doing p.memory p.state act
  pub lands : q ≡ landed (step_of Wide p) p

pub wide_step : {b n : ℕ} {act : Act} {p q : Place} → fetched p ≡ b
    → row p.memory p.state (decode Wide b) ≡ (words_from n p.state.sp.0 ⇒ act) → steps Wide 1 p ≡ some q → WideStep n act p q
wide_step {b} {n} {act} {p} {q} here means one =
    let (going, rest) = first_step Wide 0 p one in
    let (fetches, x) = passed (ltb p.state.pc.0 (length p.memory)) Fetch read (rw in_row at going) in
    let (reads, y) = passed_reads p.memory p.state n p.state.sp.0 (doing p.memory p.state act) (rw (in_row, x) at going) in
    record { inside = ltb-true _ _ fetches; there = reads; is = in_row ∙ x ∙ y; lands = sym (none_taken Wide _ q rest) }
  where
    read : Effect
    read = reading p.memory p.state (words_from n p.state.sp.0) (doing p.memory p.state act)

    in_row : step_of Wide p ≡ guard (ltb p.state.pc.0 (length p.memory)) Fetch read
    in_row = unfold step_of effect_of in (rw (here, means))
