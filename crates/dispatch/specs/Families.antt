-- The bytes below 64 that data_instructions serves: members of a family, which differ in an operation or a width.
use Rattle.std.specs.Prelude.{ℕ, List, [], ◌∷◌}

abbrev pub families : List ℕ
families =
    5 ∷ 6 ∷ 7 ∷ 8 ∷ 9 ∷ 10 ∷ 12 ∷ 34 ∷ 35 ∷ 36 ∷ 37 ∷ 38 ∷ 39 ∷ 41 ∷ 42 ∷ 43 ∷ 44 ∷ 46 ∷ 47 ∷ 48 ∷ 49 ∷ 50 ∷ 51 ∷ 52 ∷ 53 ∷ 54 ∷ []
