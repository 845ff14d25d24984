-- Dirt, by byte, along the wide run.
use Rattle.std.specs.Prelude.{ℕ, Bool, false, not, ◌&&◌, ◌||◌, [], ◌∷◌}
use Rattle.machine.specs.State.{Place, fetched}
use Rattle.machine.specs.Effects.{Effect, state_after}
use Rattle.machine.specs.Instructions.{among}
use Rattle.routines.specs.Constants.{free_words}
use Rattle.emulation.specs.LeftBehind.{Dirt, writes, leaves}

-- at the start no byte is dirty
abbrev pub clean : Dirt
clean a = false

-- the twelve short ones
unfoldable pub is_short : ℕ → Bool
is_short b = among b (36 ∷ 37 ∷ 38 ∷ 39 ∷ 45 ∷ 46 ∷ 47 ∷ 48 ∷ 49 ∷ 50 ∷ 56 ∷ 61 ∷ [])

-- the dirt after an effect at p: a short one's is added, and then what the step itself writes is clean
unfoldable pub dirtied : Effect → Place → Dirt → Dirt
dirtied e p d x =
    not (writes e x) && (d x || is_short (fetched p) && leaves free_words p.state.sp.0 (state_after p.state e).sp.0 x)
