-- The rules of the page: what its bytes are, that the unused ones are 11, and that each straight routine keeps to its own vector.
use Prim.Native.Nat.{ℕ, zero, suc, ◌+◌, ◌≤◌, ◌<◌}
use mathlib.Core.Path.{◌≡◌, refl, sym, ap, ◌∙◌}
use mathlib.Core.Logic.{◌≢◌}
use mathlib.Core.Bool.{Bool, true, cond, not, ◌&&◌, ◌||◌}
use mathlib.Core.List.{List, [], ◌∷◌}
use native.Mathlib.Nat.{le_of_suc-le-suc, not-suc-le-zero, zero-add, add-zero}
use native.Mathlib.Omega.{arith}
use borrow.Author.Tests.{eqb-true, eqb-false, leb-true, not-true, eq-eqb, ne_eqb}
use lib.ListN.{length, get_or, length-map}
use lib.Dec.{ltb, leb, eqb}
use Rattle.machine.specs.declared.Core.TheVariants.{Narrow}
use Rattle.machine.specs.Instructions.{decode}
use Rattle.memory.proofs.Tests.{In, both, every, at_entry, at_each}
use Rattle.routines.specs.Constants.{page_length}
use Rattle.routines.specs.Page.{parts, vector, page}
use Rattle.routines.proofs.Entries.{same_at}
use Rattle.routines.proofs.InPage.{code, bytes_at, byte_at}
use Rattle.routines.proofs.Straight.{Straight, rows, code_of, code_in_page, same_code}

pub page_length_lem : length page ≡ page_length
page_length_lem = unfold page in refl

-- each byte is an IM or a core instruction, never 0, 1, 3, 14, 15 or 32 to 63
abbrev barred : ℕ → Bool
barred b = eqb b 0 || eqb b 1 || eqb b 3 || eqb b 14 || eqb b 15 || leb 32 b && ltb b 64

abbrev pub permitted : ℕ → Bool
permitted b = ltb b 256 && not (barred b)

-- one test over the whole table
rule : every permitted page ≡ true
unfolding page
rule = refl

pub page_rule : (x : ℕ) → x < page_length → permitted (get_or page x 0) ≡ true
page_rule x h = at_each permitted 0 page rule x (rw page_length_lem h)

-- the test holds of every byte and its address, the first address being x
abbrev every_from : (ℕ → ℕ → Bool) → ℕ → List ℕ → Bool
every_from f x [] = true
every_from f x (b ∷ bs) = f x b && every_from f (suc x) bs

at_address : (f : ℕ → ℕ → Bool) (x : ℕ) (bs : List ℕ) → every_from f x bs ≡ true → (j : ℕ) → j < length bs
    → f (x + j) (get_or bs j 0) ≡ true
at_address f x [] e j h = absurd (not-suc-le-zero h)
at_address f x (b ∷ bs) e zero h = rw (add-zero x) (both (f x b) (every_from f (suc x) bs) e).0
at_address f x (b ∷ bs) e (suc j) h =
    let next : suc x + j ≡ x + suc j = omega arith in
    rw next at (at_address f (suc x) bs (both (f x b) (every_from f (suc x) bs) e).1 j (le_of_suc-le-suc h))

-- address x lies in no part
abbrev in_no_part : ℕ → Bool
in_no_part x = every (λ o. ltb x o.0 || leb (o.0 + length (code o.1)) x) parts

abbrev eleven_if_unused : ℕ → ℕ → Bool
eleven_if_unused x b = not (in_no_part x) || eqb b 11

unused_test : every_from eleven_if_unused 0 page ≡ true
unfolding page
unused_test = refl

-- unused bytes are 11
pub unused : (x : ℕ) → x < page_length → in_no_part x ≡ true → get_or page x 0 ≡ 11
unused x h e = eqb-true _ _ (rw (zero-add x, e) at (at_address eleven_if_unused 0 page unused_test x (rw page_length_lem h)))

-- byte j of n is POPPC just where it is the last
abbrev poppc_last : ℕ → ℕ → ℕ → Bool
poppc_last n j b = cond (eqb (suc j) n) (eqb b 4) (not (eqb b 4))

abbrev own_vector : Straight → Bool
own_vector o = leb (length (code_of o)) 32 && every_from (poppc_last (length (code_of o))) 0 (bytes_at (vector o.byte) (length (code_of o)))

own_vector_test : every own_vector rows ≡ true
unfolding page
own_vector_test = refl

-- a straight routine lies whole within the 32 bytes of its vector, and leaves them only by its last instruction, its one POPPC
pub record OwnVector (o : Straight) : Type 0 where
  pub whole : length (code_of o) ≤ 32
  pub last : (j : ℕ) → suc j ≡ length (code_of o) → get_or page (vector o.byte + j) 0 ≡ 4
  pub no_other : (j : ℕ) → suc j < length (code_of o) → get_or page (vector o.byte + j) 0 ≢ 4

pub own_vector_lem : {o : Straight} → In o rows → OwnVector o
own_vector_lem {o} i = record {
  whole = leb-true _ _ tests.0;
  last = λ j h. eqb-true _ _ (rw (eq-eqb (suc j) n h) at (at j (omega arith)));
  no_other = λ j h. eqb-false _ _ (not-true _ (rw (ne_eqb (suc j) n (omega arith)) at (at j (omega arith))));
}
  where
    n : ℕ
    n = length (code_of o)

    bytes : List ℕ
    bytes = bytes_at (vector o.byte) n

    tests : (leb n 32 ≡ true) × (every_from (poppc_last n) 0 bytes ≡ true)
    tests = both (leb n 32) (every_from (poppc_last n) 0 bytes) (at_entry own_vector rows own_vector_test i)

    same_length : length bytes ≡ n
    same_length = sym (length-map bytes (decode Narrow)) ∙ ap length (same_at code_in_page code_of rows same_code i)

    at : (j : ℕ) → j < n → poppc_last n j (get_or page (vector o.byte + j) 0) ≡ true
    at j h = rw (zero-add j, byte_at (vector o.byte) n j h) at (at_address (poppc_last n) 0 bytes tests.1 j (rw same_length h))
