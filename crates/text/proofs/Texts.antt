-- What is put: a copy over a part of the buffer, text after text, and a number's last digit after the others.
use Prim.Native.Nat.{ℕ, suc, ◌+◌, ◌≤◌}
use mathlib.Core.Path.{◌≡◌}
use mathlib.Core.List.{List, [], ◌∷◌, ◌++◌}
use native.Mathlib.Nat.{add-zero, add-suc, suc-add}
use native.Mathlib.Omega.{arith}
use lib.ListN.{length, drop, set, length-append}
use lib.Seq.{sets, sets-eq, length-sets}
use Rattle.memory.proofs.Copies.{stored}
use Rattle.text.specs.declared.Text.{Text}
use Rattle.text.specs.Text.{Puts}
use Rattle.text.proofs.Decimals.{one_digit, more_digits}

pub ruleset copies = (stored, length-sets)

sets_then : (s t m : List ℕ) (a : ℕ) → sets (sets m a s) (a + length s) t ≡ sets m a (s ++ t)
sets_then [] t m a = rw add-zero
sets_then (b ∷ s) t m a = rw (add-suc, ← suc-add a (length s)) (sets_then s t (set m a b) (suc a))

pub set_then : (s m : List ℕ) (a b : ℕ) → set (sets m a s) (a + length s) b ≡ sets m a (s ++ b ∷ [])
set_then s m a b = sets_then s (b ∷ []) m a

pub ruleset decimals = (one_digit, more_digits, length-append, set_then)

pub puts_then : {s t : List ℕ} {p q r : Text} → Puts s p q → Puts t q r → Puts (s ++ t) p r
puts_then {s} {t} {p} h k = record {
  same_buffer = cc;
  same_length = cc;
  place = omega (arith, length-append s t);
  bytes = cc (sets_then s t p.out.now p.at);
}

-- text at the start of a buffer that has room for it
pub alone : {t m : List ℕ} {p q : Text} {r : ℕ} → Puts t p q → p.at ≡ 0 → p.out.now ≡ m → r ≡ q.at → length t ≤ length m
    → (r ≡ length t) × (q.out.now ≡ t ++ drop r m)
alone {t} {m} h start bytes end room = (omega arith, cc (sets-eq t m 0 (omega arith)))
