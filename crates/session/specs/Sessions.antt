-- A session: the images that are taken, where a core starts on one, and how it ends.
use Rattle.std.specs.Prelude.{ℕ, ◌+◌, ◌/◌, ◌%◌, ◌*◌, Bool, false, ◌&&◌, List, length, leb, eqb}
use Rattle.machine.specs.declared.Core.{Core}
use Rattle.machine.specs.declared.Core.TheVariants.{Narrow, Wide}
use Rattle.machine.specs.declared.State.{State}
use Rattle.machine.specs.State.{state, place}
use Rattle.machine.specs.Run.{Ran, run}
use Rattle.routines.specs.Constants.{page_length, step_bound}
use Rattle.microcode.specs.Laying.{laid}

-- the bytes of an image that is taken, at least and at most
abbrev pub shortest : ℕ
shortest = page_length + 4

abbrev pub longest : ℕ
longest = 16384

-- the sizes that are taken
unfoldable pub takes : ℕ → Bool
takes l = leb shortest l && leb l longest && eqb (l % 4) 0

-- the steps that a core may take
abbrev pub wide_limit : ℕ
wide_limit = 1000

abbrev pub narrow_limit : ℕ
narrow_limit = step_bound * wide_limit

abbrev pub limit_of : Core → ℕ
limit_of Wide = wide_limit
limit_of Narrow = narrow_limit

-- just above the page, sp = W, the flag clear
abbrev pub start : ℕ → State
start l = state page_length (l / 4) false

-- how a core ends, at most `limit` steps from the start
unfoldable pub session : Core → ℕ → List ℕ → Ran
session core limit input = run core limit (place (laid input) (start (length input)))
