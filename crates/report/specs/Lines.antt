-- A line that zpurun prints: core, outcome, counter, sp and top, a blank between.
use Rattle.std.specs.Prelude.{ℕ, ◌/◌, ◌≤◌, cond, List, [], ◌∷◌, ◌++◌, length, eqb}
use Rattle.memory.specs.Memory.{word}
use Rattle.machine.specs.Run.{Ran}
use Rattle.machine.specs.declared.Core.{Core}
use Rattle.machine.specs.declared.Core.TheVariants.{Narrow, Wide}
use Rattle.text.specs.Decimal.{decimal}

-- `wide` or `narrow`
abbrev pub name : Core → List ℕ
name Wide = 119 ∷ 105 ∷ 100 ∷ 101 ∷ []
name Narrow = 110 ∷ 97 ∷ 114 ∷ 114 ∷ 111 ∷ 119 ∷ []

abbrev pub blank : ℕ
blank = 32

abbrev pub dash : ℕ
dash = 45

abbrev pub line_feed : ℕ
line_feed = 10

-- the top, `-` where sp = W
unfoldable pub top : List ℕ → ℕ → List ℕ
top m sp = cond (eqb sp (length m / 4)) (dash ∷ []) (decimal (word m sp))

unfoldable pub line : Core → Ran → List ℕ
line core r =
    name core
    ++ blank ∷ decimal r.outcome
    ++ blank ∷ decimal r.place.state.pc.0
    ++ blank ∷ decimal r.place.state.sp.0
    ++ blank ∷ top r.place.memory r.place.state.sp.0
    ++ line_feed ∷ []

-- a blank and a number of 32 bits take no more
abbrev pub field_room : ℕ
field_room = 11

-- a line takes no more
abbrev pub line_room : ℕ
line_room = 64

-- a word of memory or the end of it
abbrev pub Inside : List ℕ → ℕ → Type 0
Inside m sp = (length m ≤ 65536) × (sp ≤ length m / 4)
