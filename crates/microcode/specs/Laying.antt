-- The page over the first bytes of an image. An image too short for it stays as it is.
use Rattle.std.specs.Prelude.{ℕ, ◌≡◌, cond, List, ◌++◌, length, drop, ltb, Result, Ok, Err}
use Rattle.routines.specs.Constants.{page_length}
use Rattle.routines.specs.Page.{page}
use Rattle.microcode.specs.declared.TooShort.{TooShort}

-- the number of an answer: too short for the page is IMAGE's
abbrev pub number : Result (Unit {0}) TooShort → ℕ
number (Ok _) = 0
number (Err _) = 2

-- the page over the first bytes of m
abbrev pub laid : List ℕ → List ℕ
laid m = page ++ drop page_length m

-- from the image m the answer's number is n, and m' is the image then
abbrev pub Lays : List ℕ → ℕ → List ℕ → Type 0
Lays m n m' =
    (n ≡ cond (ltb (length m) page_length) 2 0) × (m' ≡ cond (ltb (length m) page_length) m (laid m))
