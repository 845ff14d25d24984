-- What zpurun prints of its input.
use Rattle.std.specs.Prelude.{ℕ, ◌≡◌, cond, List, [], ◌∷◌, ◌++◌, length, drop}
use Rattle.machine.specs.declared.Core.TheVariants.{Narrow, Wide}
use Rattle.session.specs.Sessions.{takes, wide_limit, narrow_limit, session}
use Rattle.report.specs.Lines.{line, line_feed}

-- both cores from the same start
unfoldable pub lines : List ℕ → List ℕ
lines input = line Wide (session Wide wide_limit input) ++ line Narrow (session Narrow narrow_limit input)

-- `input` and a line feed
abbrev pub refusal : List ℕ
refusal = 105 ∷ 110 ∷ 112 ∷ 117 ∷ 116 ∷ line_feed ∷ []

unfoldable pub printed : List ℕ → List ℕ
printed input = cond (takes (length input)) (lines input) refusal

-- the first r bytes are what is printed, and the others stay
abbrev pub Reports : List ℕ → List ℕ → ℕ → List ℕ → Type 0
Reports input m r m' = (r ≡ length (printed input)) × (m' ≡ printed input ++ drop r m)
