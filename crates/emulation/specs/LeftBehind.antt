-- What an effect writes, and what a short instruction leaves behind, by byte.
use Rattle.std.specs.Prelude.{ℕ, ◌+◌, ◌-◌, ◌*◌, Bool, false, ◌&&◌, ◌||◌, ltb, leb}
use Rattle.machine.specs.Effects.{Effect, Effect.refuse, Effect.stop, Effect.go}

-- which bytes are dirty
abbrev pub Dirt : Type 0
Dirt = ℕ → Bool

-- byte x is one of those from a up to e
abbrev pub between : ℕ → ℕ → ℕ → Bool
between a e x = leb a x && ltb x e

-- the bytes that an effect writes
abbrev pub writes : Effect → ℕ → Bool
writes (refuse o) x = false
writes (stop t) x = false
writes (go t a k v) x = between a (a + k) x

-- the w words directly below sp
abbrev pub below : ℕ → ℕ → ℕ → Bool
below w sp x = between (4 * (sp - w)) (4 * sp) x

-- the words between the old sp and the new
abbrev pub popped : ℕ → ℕ → ℕ → Bool
popped old new x = between (4 * old) (4 * new) x

-- what a short one leaves behind that uses w words below sp
unfoldable pub leaves : ℕ → ℕ → ℕ → ℕ → Bool
leaves w old new x = below w old x || popped old new x
