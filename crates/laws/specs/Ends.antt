-- How a run may end: the place is where the steps done lead, and what ended it is what the definition says of that place.
use Rattle.std.specs.Prelude.{ℕ, ◌+◌, ◌/◌, ◌<◌, ◌≤◌, ◌≡◌, true, length}
use Rattle.std.proofs.Math.Option.{some}
use Rattle.machine.specs.declared.Core.{Core}
use Rattle.machine.specs.declared.State.{State}
use Rattle.machine.specs.declared.Outcome.{Outcome}
use Rattle.machine.specs.declared.Outcome.TheVariants.{Limit, Break}
use Rattle.machine.specs.Outcomes.{number}
use Rattle.memory.specs.Memory.{good_length}
use Rattle.machine.specs.State.{Place, place}
use Rattle.machine.specs.Effects.{Effect.refuse, Effect.stop}
use Rattle.machine.specs.Run.{steps, Ran, ended}
use Rattle.machine.specs.Table.{step_of}

-- neither IMAGE nor START, which are tested once at entry
pub record Admitted (p : Place) : Type 0 where
  pub image : good_length (length p.memory) ≡ true
  pub start : p.state.sp.0 ≤ length p.memory / 4

pub data Ends (core : Core) (limit : ℕ) (p : Place) : Ran → Type 0 where
  by_limit : {q : Place} → steps core limit p ≡ some q → Ends core limit p (ended Limit limit q)
  by_break : {n : ℕ} {q : Place} {t : State} → n < limit → steps core n p ≡ some q
      → step_of core q ≡ stop t → Ends core limit p (ended Break (n + 1) (place q.memory t))
  by_refusal : {n : ℕ} {q : Place} {o : Outcome} → n < limit → 4 ≤ number o → steps core n p ≡ some q
      → step_of core q ≡ refuse o → Ends core limit p (ended o n q)

-- the outcome is one of the nine
abbrev pub Listed : Ran → Type 0
Listed r = (o : Outcome) × (r.outcome ≡ number o)

-- state and memory are those to which the steps done lead: nothing of a refused instruction is left
abbrev pub LeavesAll : Core → Place → Ran → Type 0
LeavesAll core p r = steps core r.steps p ≡ some r.place
