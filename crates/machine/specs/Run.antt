-- Steps in order, and the run: those steps, counted, to the first stop.
use Rattle.std.specs.Prelude.{◌≡◌, ℕ, zero, suc, ◌+◌, ◌/◌, cond, List, length, nat_le}
use Rattle.std.proofs.Math.Option.{Option, none, some}
use Rattle.memory.specs.Memory.{good_length}
use Rattle.machine.specs.declared.Core.{Core}
use Rattle.machine.specs.declared.Outcome.{Outcome}
use Rattle.machine.specs.declared.Outcome.TheVariants.{Limit, Break, Image, Start}
use Rattle.machine.specs.declared.Finish.{Finish}
use Rattle.machine.specs.Outcomes.{number}
use Rattle.machine.specs.State.{Place, place}
use Rattle.machine.specs.Effects.{Effect, Effect.refuse, Effect.stop, Effect.go, landed}
use Rattle.machine.specs.Table.{step_of}

-- an effect carried out at p, and what is done from there: nothing where it stops or is refused
abbrev pub onward : Effect → Place → (Place → Option Place) → Option Place
onward (refuse o) p more = none
onward (stop t) p more = none
onward (go t a k v) p more = more (landed (go t a k v) p)

-- n steps, none of which stops or is refused
unfoldable pub steps : Core → ℕ → Place → Option Place
steps core zero p = some p
steps core (suc n) p = onward (step_of core p) p (steps core n)

-- what a run hands back, the outcome by the paper's number
pub record Ran : Type 0 where
  pub outcome : ℕ
  pub steps : ℕ
  pub place : Place

abbrev pub ended : Outcome → ℕ → Place → Ran
ended o n p = record { outcome = number o; steps = n; place = p }

-- the run goes on from p by an effect, n steps done
abbrev pub after : Effect → ℕ → Place → (ℕ → Place → Ran) → Ran
after (refuse o) n p more = ended o n p
after (stop t) n p more = ended Break (n + 1) (landed (stop t) p)
after (go t a k v) n p more = more (n + 1) (landed (go t a k v) p)

-- at most k steps more, n done
unfoldable pub run_from : Core → ℕ → ℕ → Place → Ran
run_from core zero n p = ended Limit n p
run_from core (suc k) n p = after (step_of core p) n p (run_from core k)

unfoldable pub run : Core → ℕ → Place → Ran
run core limit p =
    cond (good_length (length p.memory))
    (cond (nat_le p.state.sp.0 (length p.memory / 4)) (run_from core limit 0 p) (ended Start 0 p))
    (ended Image 0 p)

-- what f and the image m say of a run
abbrev pub handed_back : Finish → List ℕ → Ran
handed_back f m = record { outcome = number f.outcome; steps = f.steps; place = place m f.state }

-- f and the image m are what a run from p hands back
abbrev pub Runs : Core → ℕ → Place → Finish → List ℕ → Type 0
Runs core limit p f m = handed_back f m ≡ run core limit p
