-- Memory is a lent byte image of length L. What is wider than a byte has its highest byte first.
use Rattle.std.specs.Prelude.{ℕ, zero, suc, ◌+◌, ◌*◌, ◌/◌, ◌%◌, Bool, ◌&&◌, List, get_or, set, ltb, leb, eqb}

-- L is not 0, not over 65,536 and a multiple of 4
unfoldable pub good_length : ℕ → Bool
good_length l = ltb 0 l && leb l 65536 && eqb (l % 4) 0

-- the number that the k bytes from address a are
unfoldable pub get_bytes : List ℕ → ℕ → ℕ → ℕ
get_bytes m a zero = 0
get_bytes m a (suc k) = get_bytes m a k * 256 + get_or m (a + k) 0

-- m with the k low bytes of v in their place
unfoldable pub set_bytes : List ℕ → ℕ → ℕ → ℕ → List ℕ
set_bytes m a zero v = m
set_bytes m a (suc k) v = set (set_bytes m a k (v / 256)) (a + k) (v % 256)

-- word w is bytes 4w (highest) to 4w + 3
abbrev pub word : List ℕ → ℕ → ℕ
word m w = get_bytes m (4 * w) 4
