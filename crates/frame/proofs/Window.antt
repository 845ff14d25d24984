-- The window of memory that the frame machine speaks of: the free words below sp and the words from sp up.
use Prim.Native.Nat.{ℕ, zero, suc, ◌+◌, ◌*◌, ◌^◌, ◌≤◌, ◌<◌}
use mathlib.Core.Path.{◌≡◌, sym, ap, ◌∙◌}
use mathlib.Core.Logic.{inl, inr, ◌≢◌}
use mathlib.Core.List.{List, ◌∷◌}
use native.Mathlib.Nat.{add-zero}
use native.Mathlib.Omega.{arith}
use native.Mathlib.Decide.{dec_lt, ℕ_discrete}
use lib.ListN.{length, get_or, set, length-set}
use lib.Seq.{get_or-set_same, get_or-set_other}
use Rattle.memory.specs.Memory.{set_bytes, word}
use Rattle.memory.proofs.Memory.{length-set_bytes, Outside, narrower, Bytes, outside_same, read_written, read_outside, written_bytes, read_lt}

-- memory m is u but for the words from base up to end; free of them are below sp, and the others, from sp up, are ws
pub record Window (base end free : ℕ) (u m ws : List ℕ) : Type 0 where
  pub inside : 4 * end ≤ length m
  pub in_reach : 4 * end ≤ 65536
  pub fits : base + free + length ws ≡ end
  pub outside : (x : ℕ) → Outside (4 * base) (4 * end) x → get_or m x 0 ≡ get_or u x 0
  pub holds : (j : ℕ) → j < length ws → word m (base + free + j) ≡ get_or ws j 0
  pub bytes : Bytes m

-- a word written leaves the others
other_word : (m : List ℕ) (w v i : ℕ) → i ≢ w → word (set_bytes m (4 * w) 4 v) i ≡ word m i
other_word m w v i h = read_outside m (4 * w) 4 v (4 * i) 4 (λ n l. apart n l (dec_lt i w))
  where
    apart : (n : ℕ) → n < 4 → Dec (i < w) → Outside (4 * w) (4 * w + 4) (4 * i + n)
    apart n l (yes k) = inl (omega arith)
    apart n l (no k) = inr (omega arith)

module _ {base end : ℕ} {u : List ℕ} where
  pub top : {p x : ℕ} {m xs : List ℕ} → Window base end p u m (x ∷ xs) → word m (base + p) ≡ x
  top {p} {m = m} W = ap (word m) (sym (add-zero (base + p))) ∙ W.holds 0 (omega arith)

  pub small : {p : ℕ} {m ws : List ℕ} → Window base end p u m ws → (j : ℕ) → j < length ws → get_or ws j 0 < 2 ^ 32
  small {p} {m} W j h = rw (W.holds j h) at (read_lt m (4 * (base + p + j)) 4 W.bytes)

  -- the top is popped off
  pub shrunk : {p x : ℕ} {m xs : List ℕ} → Window base end p u m (x ∷ xs) → Window base end (suc p) u m xs
  shrunk {m = m} W = record {
    inside = W.inside;
    in_reach = W.in_reach;
    fits = omega (arith, W.fits);
    outside = W.outside;
    holds = λ j h. ap (word m) (omega arith) ∙ W.holds (suc j) (omega arith);
    bytes = W.bytes;
  }

  -- a word of it is written, and then q are free and vs from sp up
  written : {p q : ℕ} {m ws vs : List ℕ} (w v : ℕ) → Window base end p u m ws → base ≤ w → w < end → base + q + length vs ≡ end
      → ((j : ℕ) → j < length vs → word (set_bytes m (4 * w) 4 v) (base + q + j) ≡ get_or vs j 0)
      → Window base end q u (set_bytes m (4 * w) 4 v) vs
  written {m = m} w v W low high fit hold = record {
    inside = rw (length-set_bytes m (4 * w) 4 v) W.inside;
    in_reach = W.in_reach;
    fits = fit;
    outside = λ x o. outside_same m (4 * w) 4 v x (narrower o (omega arith) (omega arith)) ∙ W.outside x o;
    holds = hold;
    bytes = written_bytes m (4 * w) 4 v W.bytes;
  }

  -- v is pushed
  pub grown : {p : ℕ} {m ws : List ℕ} (v : ℕ) → v < 2 ^ 32 → Window base end (suc p) u m ws
      → Window base end p u (set_bytes m (4 * (base + p)) 4 v) (v ∷ ws)
  grown {p} {m} {ws} v h W = written (base + p) v W (omega arith) (omega (arith, W.fits)) (omega (arith, W.fits)) hold
    where
      hold : (j : ℕ) → j < length (v ∷ ws) → word (set_bytes m (4 * (base + p)) 4 v) (base + p + j) ≡ get_or (v ∷ ws) j 0
      hold zero l =
          rw (add-zero (base + p)) (read_written m (4 * (base + p)) 4 v (omega (arith, W.inside, W.fits)) h)
      hold (suc j) l =
          let next : base + p + suc j ≡ base + suc p + j = omega arith in
          rw next (other_word m (base + p) v (base + suc p + j) (omega arith) ∙ W.holds j (omega arith))

  -- the word just below sp is written
  pub written_below : {p : ℕ} {m ws : List ℕ} (v : ℕ) → Window base end (suc p) u m ws
      → Window base end (suc p) u (set_bytes m (4 * (base + p)) 4 v) ws
  written_below {p} {m} {ws} v W =
      written (base + p) v W (omega arith) (omega (arith, W.fits)) W.fits
      (λ j h. other_word m (base + p) v (base + suc p + j) (omega arith) ∙ W.holds j h)

  -- word n from sp up is written
  pub changed : {p : ℕ} {m ws : List ℕ} (n v : ℕ) → n < length ws → v < 2 ^ 32 → Window base end p u m ws
      → Window base end p u (set_bytes m (4 * (base + p + n)) 4 v) (set ws n v)
  changed {p} {m} {ws} n v h k W =
      written (base + p + n) v W (omega arith) (omega (arith, W.fits)) (rw (length-set ws n v) W.fits)
      (λ j l. hold j (rw (length-set ws n v) at l) (ℕ_discrete j n))
    where
      hold : (j : ℕ) → j < length ws → Dec (j ≡ n) → word (set_bytes m (4 * (base + p + n)) 4 v) (base + p + j) ≡ get_or (set ws n v) j 0
      hold j l (yes e) =
          rw e (read_written m (4 * (base + p + n)) 4 v (omega (arith, W.inside, W.fits)) k
          ∙ sym (get_or-set_same ws n v 0 h))
      hold j l (no e) =
          other_word m (base + p + n) v (base + p + j) (omega arith) ∙ W.holds j l ∙ sym (get_or-set_other ws n j v 0 e)
