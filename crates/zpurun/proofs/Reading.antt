-- What reads put into a buffer, and what is taken of it.
use Rattle.std.proofs.Common.{◌≡◌, ℕ, ◌+◌, ◌≤◌, ◌<◌, List, [], ◌++◌, None, Some, IfSome, Bool, true, false, refl, length, take, drop, ◌⊎◌, inl, inr, arith, drop_at, length-take-le}
use borrow.Rule.Slice.PartMut.{put_mid, post_of}
use lib.Seq.{take-add}
use Rattle.std.proofs.lemmas.Bool.{cases_lt}
use Rattle.std.proofs.lemmas.Grind.{common_steps}
use Rattle.std.specs.Bool.{then_some}
use Rattle.std.specs.declared.option.Option.{Option}
use Rattle.std.specs.Io.KnownBytes.{Consumes, IsAtEnd}
use Rattle.zpurun.specs.Printing.{most, IsFront}

drop-put : (a k : ℕ) (xs ys : List ℕ) → a ≤ length xs → drop a (put_mid a k xs ys) ≡ ys ++ post_of a k xs
drop-put a k xs ys within = drop_at (take a xs) (ys ++ post_of a k xs) a (length-take-le a xs within)

-- a read at a put n bytes of ys there
pub filled : (a k n : ℕ) (xs ys : List ℕ) → a ≤ length xs → n ≤ length ys → take a xs ++ take n ys ≡ take (a + n) (put_mid a k xs ys)
filled a k n xs ys within fits = grind (arith, common_steps, take-add, drop-put)

-- n bytes of xs are the whole input, or all the m that there is room for
front : (bytes left xs : List ℕ) (n m : ℕ) → length xs ≡ m → n ≤ m → bytes ≡ take n xs ++ left → (n < m → left ≡ []) → take n xs ≡ take m bytes
front bytes left xs n m long fits read end = of (cases_lt n m) where
  of : (n < m) ⊎ (m ≤ n) → take n xs ≡ take m bytes
  of (inl short) = let none = end short in grind (arith, common_steps)
  of (inr full) = grind (arith, common_steps)

pub is_front : (a b : Option (List ℕ)) (xs : List ℕ) (n : ℕ) → length xs ≡ most → n ≤ most → Consumes a b (take n xs) → (n < most → IsAtEnd b)
    → IsFront a (take n xs)
is_front None b xs n long fits read end = tt
is_front (Some bytes) None xs n long fits read end = absurd read
is_front (Some bytes) (Some left) xs n long fits read end = front bytes left xs n most long fits read end

pub if_true : {A : Type 0} (t : Bool) (x : A) (P : A → Type 0) → (t ≡ true → P x) → IfSome (then_some t x) P
if_true true x P h = h refl
if_true false x P h = tt
