-- Starts that meet the hypotheses of the theorems, so that none of them is empty.
use Prim.Native.Nat.{ℕ, ◌≤◌, ◌<◌}
use mathlib.Core.Path.{◌≡◌, refl}
use mathlib.Core.Bool.{false}
use mathlib.Core.List.{[], ◌∷◌}
use mathlib.Core.Option.{none, some}
use native.Mathlib.Omega.{arith}
use Rattle.machine.specs.declared.Core.TheVariants.{Wide, Narrow}
use Rattle.machine.specs.declared.State.{State}
use Rattle.machine.specs.declared.Outcome.TheVariants.{Limit, Break, Image, Start, Fetch, Illegal, Stack, Address, Divide}
use Rattle.machine.specs.Instructions.{below32, below64, decode}
use Rattle.machine.specs.Table.{row, effect_of, step_of}
use Rattle.memory.specs.Memory.{good_length, get_bytes, set_bytes}
use Rattle.machine.specs.State.{state, Place, place}
use Rattle.machine.specs.Effects.{Effect.refuse, Effect.stop}
use Rattle.machine.specs.Run.{steps, ended, run}
use Rattle.laws.specs.Ends.{Admitted, Ends}
use Rattle.laws.specs.Given.{refusal_of, fetch, illegal, stack, address, divide}
use Rattle.laws.proofs.Demand1.{image_refused, start_refused, refusal_leaves_all, entry_hands_back, image_reason, start_reason}
use Rattle.laws.proofs.Demand2.{demand2, limit_first, break_counted, refused_uncounted}
use Rattle.laws.proofs.Given.{exactly, fetch_given, illegal_given, stack_given, address_given, divide_given, break_given}

abbrev at : ℕ → ℕ → State
at pc sp = state pc sp false

-- a NOP, an illegal byte and two BREAKs, the stack empty
abbrev small : ℕ → Place
small pc = place (11 ∷ 1 ∷ 0 ∷ 0 ∷ []) (at pc 1)

abbrev nops : ℕ → Place
nops pc = place (11 ∷ 11 ∷ 11 ∷ 11 ∷ []) (at pc 1)

small_admitted : (pc : ℕ) → Admitted (small pc)
unfolding good_length
small_admitted pc = record { image = refl; start = omega arith }

no_image : run Wide 7 (place [] (at 0 0)) ≡ ended Image 0 (place [] (at 0 0))
unfolding good_length
no_image = image_refused Wide 7 (place [] (at 0 0)) refl

past_the_stack : run Narrow 7 (place (0 ∷ 0 ∷ 0 ∷ 0 ∷ []) (at 0 2)) ≡ ended Start 0 (place (0 ∷ 0 ∷ 0 ∷ 0 ∷ []) (at 0 2))
unfolding good_length
past_the_stack = start_refused Narrow 7 (place (0 ∷ 0 ∷ 0 ∷ 0 ∷ []) (at 0 2)) refl (omega arith)

some_run : Ends Wide 2 (small 0) (run Wide 2 (small 0))
some_run = demand2 Wide 2 (small 0) (small_admitted 0)

-- the NOP at the last byte leaves the counter at L, and the limit hides that
limit_hides_fetch : run Wide 1 (nops 3) ≡ ended Limit 1 (nops 4)
unfolding good_length set_bytes steps below32 decode row effect_of step_of
limit_hides_fetch = limit_first Wide 1 (nops 3) (nops 4) (record { image = refl; start = omega arith }) refl

break_stops : step_of Wide (small 2) ≡ stop (at 3 1)
unfolding fetch
break_stops = (break_given Wide (small 2) (at 3 1)).1 (refl, refl)

break_is_the_last : run Wide 1 (small 2) ≡ ended Break 1 (small 3)
unfolding steps
break_is_the_last = break_counted Wide 0 0 (small 2) (small 2) (at 3 1) (small_admitted 2) refl break_stops

illegal_uncounted : run Wide 2 (small 0) ≡ ended Illegal 1 (small 1)
unfolding set_bytes steps below32 decode row effect_of step_of
illegal_uncounted = refused_uncounted Wide 1 0 (small 0) (small 1) Illegal (small_admitted 0) refl refl

illegal_leaves_all : steps Wide (run Wide 2 (small 0)).steps (small 0) ≡ some (run Wide 2 (small 0)).place
illegal_leaves_all =
    let h : 2 ≤ (run Wide 2 (small 0)).outcome = rw illegal_uncounted (omega arith) in refusal_leaves_all Wide 2 (small 0) h

no_image_hands_back : ((run Wide 7 (place [] (at 0 0))).steps ≡ 0) × ((run Wide 7 (place [] (at 0 0))).place ≡ place [] (at 0 0))
no_image_hands_back = entry_hands_back Wide 7 (place [] (at 0 0)) (rw no_image (omega arith)) (rw no_image (omega arith))

no_image_reason : good_length 0 ≡ false
no_image_reason = image_reason Wide 7 (place [] (at 0 0)) (rw no_image refl)

past_the_stack_reason : 1 < 2
past_the_stack_reason = start_reason Narrow 7 (place (0 ∷ 0 ∷ 0 ∷ 0 ∷ []) (at 0 2)) (rw past_the_stack refl)

-- past the last byte
fetch_refused : step_of Wide (nops 4) ≡ refuse Fetch
unfolding fetch
fetch_refused = (fetch_given Wide (nops 4)).1 refl

illegal_refused : step_of Wide (small 1) ≡ refuse Illegal
unfolding fetch illegal
illegal_refused = (illegal_given Wide (small 1)).1 refl

-- POPPC with sp = W
stack_refused : step_of Narrow (place (4 ∷ 0 ∷ 0 ∷ 0 ∷ []) (at 0 1)) ≡ refuse Stack
unfolding below32 decode row fetch illegal stack
stack_refused = (stack_given Narrow (place (4 ∷ 0 ∷ 0 ∷ 0 ∷ []) (at 0 1))).1 refl

-- LOAD with the address in word 1, at L - 1 and at L
abbrev loading : ℕ → Place
loading a = place (8 ∷ 0 ∷ 0 ∷ 0 ∷ 0 ∷ 0 ∷ 0 ∷ a ∷ []) (at 0 1)

address_answered : refusal_of (step_of Narrow (loading 7)) ≡ none
unfolding get_bytes below32 decode row fetch illegal stack address divide
address_answered = exactly Narrow (loading 7)

address_refused : step_of Narrow (loading 8) ≡ refuse Address
unfolding get_bytes below32 decode row fetch illegal stack address
address_refused = (address_given Narrow (loading 8)).1 refl

-- DIV with both words 0
abbrev dividing : Place
dividing = place (53 ∷ 0 ∷ 0 ∷ 0 ∷ 0 ∷ 0 ∷ 0 ∷ 0 ∷ 0 ∷ 0 ∷ 0 ∷ 0 ∷ []) (at 0 1)

divide_refused : step_of Wide dividing ≡ refuse Divide
unfolding get_bytes below64 decode row fetch illegal stack address divide
divide_refused = (divide_given Wide dividing).1 refl
