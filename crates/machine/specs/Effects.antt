-- What a step does: it is refused, it stops the run, as BREAK does, or it goes on.
use Rattle.std.specs.Prelude.{ℕ, Bool, cond, List}
use Rattle.memory.specs.Memory.{set_bytes}
use Rattle.machine.specs.declared.State.{State}
use Rattle.machine.specs.declared.Outcome.{Outcome}
use Rattle.machine.specs.State.{Place, place}

-- `go t a k v` goes on to t and puts the k low bytes of v, which may be none, at address a
pub data Effect : Type 0 where
  refuse : Outcome → Effect
  stop : State → Effect
  go : State → ℕ → ℕ → ℕ → Effect

-- the outcome o is given unless the test holds
abbrev pub guard : Bool → Outcome → Effect → Effect
guard t o e = cond t e (refuse o)

abbrev pub memory_after : List ℕ → Effect → List ℕ
memory_after m (refuse o) = m
memory_after m (stop t) = m
memory_after m (go t a k v) = set_bytes m a k v

-- the state after it, from s
abbrev pub state_after : State → Effect → State
state_after s (refuse o) = s
state_after s (stop t) = t
state_after s (go t a k v) = t

-- where an effect carried out at p leads
abbrev pub landed : Effect → Place → Place
landed e p = place (memory_after p.memory e) (state_after p.state e)
