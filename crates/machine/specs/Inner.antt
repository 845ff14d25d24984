-- What the inner functions ask and promise.
use Rattle.std.specs.Prelude.{◌≡◌, ℕ, ◌+◌, ◌/◌, ◌%◌, ◌≤◌, List, length, Ok, Err}
use Rattle.std.specs.declared.result.Result.{Result}
use Rattle.machine.specs.declared.State.{State}
use Rattle.machine.specs.declared.Way.{Way}
use Rattle.machine.specs.declared.Way.TheVariants.{Next, NextFlagged, Jump, Stop}
use Rattle.machine.specs.declared.Answer.{Answer}
use Rattle.machine.specs.declared.Answer.TheVariants.{Done, Broke, Refused}
use Rattle.machine.specs.declared.Finish.{Finish}
use Rattle.machine.specs.declared.Outcome.{Outcome}
use Rattle.machine.specs.declared.Outcome.TheVariants.{Limit, Break}
use Rattle.machine.specs.State.{next, next_flagged, jump}
use Rattle.machine.specs.Effects.{Effect, Effect.refuse, Effect.stop, Effect.go, memory_after}

-- what holds of memory and state from the run's entry on
pub record Ready (m : List ℕ) (s : State) : Type 0 where
  pub not_over : length m ≤ 65536
  pub whole : length m % 4 ≡ 0
  pub sp_inside : s.sp.0 ≤ length m / 4

-- what a step from s answers
abbrev pub answer_of : State → Effect → Answer
answer_of s (refuse o) = Refused s o
answer_of s (stop t) = Broke t
answer_of s (go t a k v) = Done t

-- e was carried out from m and s: r was answered, and m' is memory then
pub record Carried (m : List ℕ) (s : State) (e : Effect) (r : Answer) (m' : List ℕ) : Type 0 where
  pub answer : r ≡ answer_of s e
  pub memory : m' ≡ memory_after m e

-- the answer of a step from s whose instruction goes by a way, or is refused
abbrev pub answered : State → Result Way Outcome → Answer
answered s (Ok (Next sp)) = Done (next s sp.0)
answered s (Ok (NextFlagged sp)) = Done (next_flagged s sp.0)
answered s (Ok (Jump pc sp)) = Done (jump s pc.0 sp.0)
answered s (Ok Stop) = Broke (next s s.sp.0)
answered s (Err o) = Refused s o

-- how a run would end by an answer, n steps before it; `Done` ends none
abbrev pub finish_of : Answer → ℕ → Finish
finish_of (Done t) n = record { outcome = Limit; steps = n + 1; state = t }
finish_of (Broke t) n = record { outcome = Break; steps = n + 1; state = t }
finish_of (Refused t o) n = record { outcome = o; steps = n; state = t }
