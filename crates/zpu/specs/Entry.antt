-- What the tests at a run's entry answer.
use Rattle.std.specs.Prelude.{◌≡◌, ℕ, ◌/◌, ◌<◌, ◌≤◌, true, false, List, length, MatchResult, ◌⊎◌}
use Rattle.std.specs.declared.result.Result.{Result}
use Rattle.memory.specs.Memory.{good_length}
use Rattle.machine.specs.declared.State.{State}
use Rattle.machine.specs.declared.Outcome.{Outcome}
use Rattle.machine.specs.declared.Outcome.TheVariants.{Image, Start}

-- an image and a stack pointer in it; or IMAGE, or START
abbrev pub Enters : List ℕ → State → Result Unit Outcome → Type 0
Enters m s r =
    MatchResult r
    (λ _. (good_length (length m) ≡ true) × (s.sp.0 ≤ length m / 4))
    (λ o.
    ((o ≡ Image) × (good_length (length m) ≡ false))
    ⊎ ((o ≡ Start) × (good_length (length m) ≡ true) × (length m / 4 < s.sp.0)))
