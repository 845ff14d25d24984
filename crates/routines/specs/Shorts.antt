-- The twelve short instructions, and what each costs on the narrow core.
use Rattle.std.specs.Prelude.{ℕ, List, [], ◌∷◌}

pub record Short : Type 0 where
  pub byte : ℕ
  -- the narrow steps that it takes at most, EMULATE among them
  pub steps : ℕ
  -- the words below sp that it uses at most, the return address among them
  pub words : ℕ

abbrev short : ℕ → ℕ → ℕ → Short
short b n w = record { byte = b; steps = n; words = w }

abbrev pub shorts : List Short
shorts =
    short 36 23 5  -- LESSTHAN
    ∷ short 37 21 5  -- LESSTHANOREQUAL
    ∷ short 38 22 5  -- ULESSTHAN
    ∷ short 39 21 5  -- ULESSTHANOREQUAL
    ∷ short 45 6 3  -- CALL
    ∷ short 46 18 4  -- EQ
    ∷ short 47 17 4  -- NEQ
    ∷ short 48 7 3  -- NEG
    ∷ short 49 9 3  -- SUB
    ∷ short 50 15 4  -- XOR
    ∷ short 56 21 4  -- NEQBRANCH
    ∷ short 61 10 3  -- PUSHSPADD
    ∷ []
