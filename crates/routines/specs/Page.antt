-- The page, made of parts: a part is an address and the lines that stand from there on.
use Rattle.std.specs.Prelude.{ℕ, ◌+◌, ◌-◌, ◌*◌, List, [], ◌∷◌, ◌++◌, map, length, replicate}
use Rattle.routines.specs.Constants.{page_length}
use Rattle.routines.specs.Routines.{Line, less_than, less_than_or_equal, u_less_than, u_less_than_or_equal, call, eq, neq, neg, sub, xor, neq_branch, push_sp_add}

abbrev pub Part : Type 0
Part = ℕ × List Line

-- where the narrow core goes for a byte
abbrev pub vector : ℕ → ℕ
vector b = 32 * (b - 32)

-- in the order of their addresses, none over another
abbrev pub parts : List Part
parts =
    (vector 36, less_than)
    ∷ (vector 37, less_than_or_equal)
    ∷ (vector 38, u_less_than)
    ∷ (vector 39, u_less_than_or_equal)
    ∷ (vector 45, call)
    ∷ (vector 46, eq)
    ∷ (vector 47, neq)
    ∷ (vector 48, neg)
    ∷ (vector 49, sub)
    ∷ (vector 50, xor)
    ∷ (vector 56, neq_branch)
    ∷ (vector 61, push_sp_add)
    ∷ []

-- unused bytes are NOPs
abbrev unused : ℕ → List ℕ
unused n = replicate n 11

abbrev bytes_of : List Line → List ℕ
bytes_of = map (λ l. l.0)

-- from address c to the page's end: the parts os, and unused bytes between and after them
abbrev laid : ℕ → List Part → List ℕ
laid c [] = unused (page_length - c)
laid c (o ∷ os) = unused (o.0 - c) ++ bytes_of o.1 ++ laid (o.0 + length o.1) os

unfoldable pub page : List ℕ
page = laid 0 parts
