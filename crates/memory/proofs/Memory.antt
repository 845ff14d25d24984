-- Reading and writing k bytes, for any k: memory keeps its length, and bytes stay bytes.
use Prim.Native.Nat.{ℕ, zero, suc, ◌+◌, ◌*◌, ◌/◌, ◌%◌, ◌^◌, ◌≤◌, ◌<◌}
use mathlib.Core.Path.{◌≡◌, refl, sym, ap₂, ◌∙◌}
use mathlib.Core.Logic.{◌⊎◌, inl, inr, ◌≢◌}
use mathlib.Core.List.{List, [], ◌∷◌}
use native.Mathlib.Nat.{pow-suc, not-suc-le-zero}
use native.Mathlib.Omega.{arith}
use native.Mathlib.Decide.{dec_lt, ℕ_discrete}
use lib.ListN.{length, get_or, set, length-set, get_or-eq_default}
use lib.Seq.{get_or-set_same, get_or-set_other}
use Rattle.memory.specs.Memory.{get_bytes, set_bytes}

-- a write leaves memory as long as it was
pub length-set_bytes : (m : List ℕ) (a k v : ℕ) → length (set_bytes m a k v) ≡ length m
unfolding set_bytes
length-set_bytes m a zero v = refl
length-set_bytes m a (suc k) v = length-set (set_bytes m a k (v / 256)) (a + k) (v % 256) ∙ length-set_bytes m a k (v / 256)

-- a write of no bytes leaves it as it was
pub none_written : (m : List ℕ) (a v : ℕ) → set_bytes m a 0 v ≡ m
unfolding set_bytes
none_written m a v = refl

-- x is none of the bytes from a up to e
abbrev pub Outside : ℕ → ℕ → ℕ → Type 0
Outside a e x = (x < a) ⊎ (e ≤ x)

pub narrower : {a e x u v : ℕ} → Outside a e x → a ≤ u → v ≤ e → Outside u v x
narrower (inl l) h j = inl (omega arith)
narrower (inr l) h j = inr (omega arith)

-- two spans, of which the second begins before the first ends
pub past : {a b c e x u v : ℕ} → Outside a b x → Outside c e x → a ≤ u → c ≤ b → v ≤ e → Outside u v x
past (inl l) k h i j = inl (omega arith)
past (inr l) (inl k) h i j = absurd (omega arith)
past (inr l) (inr k) h i j = inr (omega arith)

abbrev pub Bytes : List ℕ → Type 0
Bytes m = (i : ℕ) → get_or m i 0 < 256

pub outside_same : (m : List ℕ) (a k v x : ℕ) → Outside a (a + k) x → get_or (set_bytes m a k v) x 0 ≡ get_or m x 0
unfolding set_bytes
outside_same m a zero v x o = refl
outside_same m a (suc k) v x (inl l) =
    get_or-set_other (set_bytes m a k (v / 256)) (a + k) x (v % 256) 0 (omega arith) ∙ outside_same m a k (v / 256) x (inl l)
outside_same m a (suc k) v x (inr l) =
    get_or-set_other (set_bytes m a k (v / 256)) (a + k) x (v % 256) 0 (omega arith) ∙ outside_same m a k (v / 256) x (inr (omega arith))

-- bytes that are alike make the same number
pub read_alike : (m m' : List ℕ) (a k : ℕ) → ((j : ℕ) → j < k → get_or m' (a + j) 0 ≡ get_or m (a + j) 0) → get_bytes m' a k ≡ get_bytes m a k
unfolding get_bytes
read_alike m m' a zero h = refl
read_alike m m' a (suc k) h =
    ap₂ (λ (x y : ℕ). x * 256 + y) (read_alike m m' a k (λ j l. h j (omega arith))) (h k (omega arith))

-- and the same number has bytes that are alike
digits : {x y x' y' : ℕ} → y < 256 → y' < 256 → x' * 256 + y' ≡ x * 256 + y → (x' ≡ x) × (y' ≡ y)
digits h h' e = (omega arith, omega arith)

pub alike_read : (m m' : List ℕ) (a k : ℕ) → Bytes m → Bytes m' → get_bytes m' a k ≡ get_bytes m a k → (j : ℕ) → j < k
    → get_or m' (a + j) 0 ≡ get_or m (a + j) 0
unfolding get_bytes
alike_read m m' a zero b b' e j h = absurd (not-suc-le-zero h)
alike_read m m' a (suc k) b b' e j h =
    let (high, low) : (get_bytes m' a k ≡ get_bytes m a k) × (get_or m' (a + k) 0 ≡ get_or m (a + k) 0) = digits (b (a + k)) (b' (a + k)) e in
    elim (ℕ_discrete j k) [
      | yes p ↦ rw p low
      | no n ↦ alike_read m m' a k b b' high j (omega arith)
    ]

pub read_written : (m : List ℕ) (a k v : ℕ) → a + k ≤ length m → v < 256 ^ k → get_bytes (set_bytes m a k v) a k ≡ v
unfolding get_bytes set_bytes
read_written m a zero v fit h = omega arith
read_written m a (suc k) v fit h =
    let m₁ : List ℕ = set_bytes m a k (v / 256) in
    let small : v < 256 ^ k * 256 = rw (pow-suc 256 k) at h in
    let high : get_bytes (set m₁ (a + k) (v % 256)) a k ≡ v / 256 =
    read_alike m₁ (set m₁ (a + k) (v % 256)) a k (λ j l. get_or-set_other m₁ (a + k) (a + j) (v % 256) 0 (omega arith))
    ∙ read_written m a k (v / 256) (omega arith) (omega arith) in
    let low : get_or (set m₁ (a + k) (v % 256)) (a + k) 0 ≡ v % 256 =
    get_or-set_same m₁ (a + k) (v % 256) 0 (omega (arith, length-set_bytes m a k (v / 256))) in
    ap₂ (λ (x y : ℕ). x * 256 + y) high low ∙ omega arith

pub read_outside : (m : List ℕ) (a k v x n : ℕ) → ((j : ℕ) → j < n → Outside a (a + k) (x + j))
    → get_bytes (set_bytes m a k v) x n ≡ get_bytes m x n
read_outside m a k v x n o = read_alike m (set_bytes m a k v) x n (λ j l. outside_same m a k v (x + j) (o j l))

-- bytes stay bytes
set_byte : (m : List ℕ) (j v : ℕ) → v < 256 → Bytes m → Bytes (set m j v)
set_byte [] j v h b i = b i
set_byte (x ∷ m) zero v h b zero = h
set_byte (x ∷ m) zero v h b (suc i) = b (suc i)
set_byte (x ∷ m) (suc j) v h b zero = b zero
set_byte (x ∷ m) (suc j) v h b (suc i) = set_byte m j v h (λ k. b (suc k)) i

pub written_bytes : (m : List ℕ) (a k v : ℕ) → Bytes m → Bytes (set_bytes m a k v)
unfolding set_bytes
written_bytes m a zero v b = b
written_bytes m a (suc k) v b = set_byte (set_bytes m a k (v / 256)) (a + k) (v % 256) (omega arith) (written_bytes m a k (v / 256) b)

pub read_lt : (m : List ℕ) (a k : ℕ) → Bytes m → get_bytes m a k < 256 ^ k
unfolding get_bytes
read_lt m a zero b = omega arith
read_lt m a (suc k) b = rw (pow-suc 256 k) (omega (arith, read_lt m a k b, b (a + k)))

-- the same bytes written in two memories of one length: byte x is alike if it was, or is one of those written
set_alike : (m m' : List ℕ) (j v x : ℕ) → length m' ≡ length m → (x ≢ j → get_or m' x 0 ≡ get_or m x 0)
    → get_or (set m' j v) x 0 ≡ get_or (set m j v) x 0
set_alike m m' j v x e h = at (ℕ_discrete x j) (dec_lt j (length m))
  where
    at : Dec (x ≡ j) → Dec (j < length m) → get_or (set m' j v) x 0 ≡ get_or (set m j v) x 0
    at (yes p) (yes l) = rw p (get_or-set_same m' j v 0 (omega arith) ∙ sym (get_or-set_same m j v 0 l))
    at (yes p) (no l) =
        get_or-eq_default (set m' j v) 0 (simp length-set (omega arith))
        ∙ sym (get_or-eq_default (set m j v) 0 (simp length-set (omega arith)))
    at (no n) l = get_or-set_other m' j x v 0 n ∙ h n ∙ sym (get_or-set_other m j x v 0 n)

pub written_alike : (m m' : List ℕ) (a k v x : ℕ) → length m' ≡ length m → (Outside a (a + k) x → get_or m' x 0 ≡ get_or m x 0)
    → get_or (set_bytes m' a k v) x 0 ≡ get_or (set_bytes m a k v) x 0
unfolding set_bytes
written_alike m m' a zero v x e h = h (side (dec_lt x a))
  where
    side : Dec (x < a) → Outside a (a + 0) x
    side (yes l) = inl l
    side (no l) = inr (omega arith)
written_alike m m' a (suc k) v x e h =
    set_alike (set_bytes m a k (v / 256)) (set_bytes m' a k (v / 256)) (a + k) (v % 256) x
    (length-set_bytes m' a k (v / 256) ∙ e ∙ sym (length-set_bytes m a k (v / 256)))
    (λ n. written_alike m m' a k (v / 256) x e (λ o. h (wider n o)))
  where
    wider : x ≢ a + k → Outside a (a + k) x → Outside a (a + suc k) x
    wider n (inl l) = inl l
    wider n (inr l) = inr (omega arith)
