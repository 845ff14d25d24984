-- An unsigned number in decimal, as ASCII digits, with no zero in front.
use Rattle.std.specs.Prelude.{ℕ, zero, suc, ◌+◌, ◌/◌, ◌%◌, Bool, true, false, List, [], ◌∷◌, ◌++◌, ltb}

abbrev pub digit : ℕ → ℕ
digit d = 48 + d

-- a number below ten is one digit; any other is what f gives for its tenth, and one digit more
abbrev pub spelt : Bool → ℕ → (ℕ → List ℕ) → List ℕ
spelt true n f = digit n ∷ []
spelt false n f = f (n / 10) ++ digit (n % 10) ∷ []

-- the digits of n, of which there are at most k + 1
unfoldable pub digits : ℕ → ℕ → List ℕ
digits zero n = digit n ∷ []
digits (suc k) n = spelt (ltb n 10) n (digits k)

-- n has at most n + 1 digits
unfoldable pub decimal : ℕ → List ℕ
decimal n = digits n n
