-- A word is a number below 2 ^ 32.
use Rattle.std.specs.Prelude.{ℕ, zero, suc, ◌+◌, ◌-◌, ◌*◌, ◌/◌, ◌%◌, ◌^◌, Bool, cond, ℤ, pos, negsuc, nat_lt}

-- sums are modulo 2 ^ 32
abbrev pub wrap : ℕ → ℕ
wrap n = n % 2 ^ 32

abbrev pub one_if : Bool → ℕ
one_if t = cond t 1 0

-- the integer that a word stands for when it is read as signed
unfoldable pub signed : ℕ → ℤ
signed x = cond (nat_lt x (2 ^ 31)) (pos x) (negsuc (2 ^ 32 - 1 - x))

-- the word of an integer, modulo 2 ^ 32
unfoldable pub word_of : ℤ → ℕ
word_of (pos n) = wrap n
word_of (negsuc n) = 2 ^ 32 - 1 - wrap n

-- the k low bits of x the other way round: bit 0 becomes bit k - 1
unfoldable pub flipped : ℕ → ℕ → ℕ
flipped zero x = 0
flipped (suc k) x = (x % 2) * 2 ^ k + flipped k (x / 2)
