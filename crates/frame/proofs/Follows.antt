-- The narrow core follows the frame machine, an instruction at a time.
use Prim.Native.Nat.{ℕ, zero, suc, ◌+◌, ◌-◌, ◌*◌, ◌/◌, ◌^◌, ◌<◌}
use mathlib.Core.Path.{◌≡◌, refl}
use mathlib.Core.Bool.{Bool, true, false, cond}
use mathlib.Core.List.{List, [], ◌∷◌}
use mathlib.Core.Option.{Option, some}
use native.Mathlib.Nat.{add-zero}
use native.Mathlib.Omega.{arith}
use borrow.Author.Tests.{lt-ltb}
use lib.ListN.{length, get_or}
use lib.Dec.{T, ltb, ltb→lt}
use Rattle.memory.specs.Memory.{set_bytes}
use Rattle.memory.proofs.Memory.{none_written}
use Rattle.arithmetic.specs.Words.{wrap}
use Rattle.arithmetic.specs.Operations.{binary_of}
use Rattle.arithmetic.proofs.Bounds.{unary_lt, binary_lt}
use Rattle.machine.specs.declared.State.{State}
use Rattle.machine.specs.State.{state, Place, place}
use Rattle.machine.specs.Effects.{Effect, Effect.go}
use Rattle.machine.specs.Instructions.{Instr, Instr.IM, Instr.STORESP, Instr.LOADSP, Instr.EMULATE, Instr.ADDSP, Instr.PUSHSP, Instr.POPSP, Instr.POPPC, Instr.NOP, Instr.BREAK, Instr.ILLEGAL, Instr.PUSHSPADD, Instr.CALL, Instr.CALLPCREL, Instr.POPPCREL, Instr.PUSHPC, Instr.NEQBRANCH, Instr.EQBRANCH, Instr.unary, Instr.binary, Instr.division, Instr.load, Instr.store}
use Rattle.machine.specs.Table.{Act.pushes, extended, row, doing, effect_of}
use Rattle.machine.specs.Run.{onward}
use Rattle.machine.proofs.Stack.{has_room}
use Rattle.frame.proofs.Frame.{Frame, Frame.running, Frame.jumped, Frame.stuck, check, pushed, popping, reaching, put, address, instruction}
use Rattle.frame.proofs.Window.{Window, top, small, shrunk, grown, written_below, changed}

abbrev pub place_at : ℕ → ℕ → Bool → List ℕ → Place
place_at pc sp f m = place m (state pc sp f)

module _ (base end : ℕ) (u : List ℕ) where
  -- r is a place at counter pc with q words free, flag g and vs from sp up
  abbrev pub Comes : ℕ → ℕ → Bool → List ℕ → Option Place → Type 0
  Comes pc q g vs r = (m : List ℕ) × (r ≡ some (place_at pc (base + q) g m)) × Window base end q u m vs

  -- the effect e at x, whose counter is c, leads where the frame machine says
  abbrev pub Follows : ℕ → Frame → Effect → Place → Type 0
  Follows c (running q g vs) e x = Comes (wrap (c + 1)) q g vs (onward e x some)
  Follows c (jumped w q vs) e x = Comes w q false vs (onward e x some)
  Follows c stuck e x = Unit {0}

  module _ (c : ℕ) (f : Bool) (m : List ℕ) where
    abbrev s : ℕ → State
    s p = state c (base + p) f

    abbrev effect : ℕ → Instr → Effect
    effect p i = effect_of m (s p) i

    abbrev Does : ℕ → Frame → Effect → Type 0
    Does p y e = Follows c y e (place m (s p))

    abbrev Holds : ℕ → List ℕ → Type 0
    Holds p ws = Window base end p u m ws

    checked : (p : ℕ) (t : Bool) (y : Frame) (e : Effect) → (T t → Does p y e) → Does p (check t y) e
    checked p true y e h = h tt
    checked p false y e h = tt

    popped : (p : ℕ) {q : ℕ} (ws : List ℕ) (k : ℕ → List ℕ → Frame) (e : Effect) → Holds q ws
        → ((x : ℕ) (xs : List ℕ) → Holds q (x ∷ xs) → Does p (k x xs) e) → Does p (popping ws k) e
    popped p [] k e W h = tt
    popped p (x ∷ xs) k e W h = h x xs W

    reached : (p n : ℕ) (ws : List ℕ) (k : ℕ → Frame) (e : Effect) → (n < length ws → Does p (k (get_or ws n 0)) e)
        → Does p (reaching n ws k) e
    reached p zero [] k e h = tt
    reached p (suc n) [] k e h = tt
    reached p zero (x ∷ xs) k e h = h (omega arith)
    reached p (suc n) (x ∷ xs) k e h = reached p n xs k e (λ l. h (omega arith))

    -- word n from sp up is in memory
    there : {p : ℕ} {ws : List ℕ} → Holds p ws → (n : ℕ) → n < length ws → ltb (base + p + n) (length m / 4) ≡ true
    there {p} W n h = lt-ltb (base + p + n) (length m / 4) (omega (arith, W.inside, W.fits))

    top_there : {p x : ℕ} {xs : List ℕ} → Holds p (x ∷ xs) → ltb (base + p) (length m / 4) ≡ true
    top_there {p} W = rw (add-zero (base + p)) at (there W 0 (omega arith))

    above : (p : ℕ) → base + p + 1 ≡ base + suc p
    above p = omega arith

    -- v becomes the top, in place of what was there
    puts : (p : ℕ) {q v : ℕ} {g : Bool} {xs : List ℕ} (e : Effect) → Holds (suc q) xs → v < 2 ^ 32
        → e ≡ go (state (wrap (c + 1)) (base + q) g) (4 * (base + q)) 4 v → Does p (running q g (v ∷ xs)) e
    puts p {q} {v} e W h i = (set_bytes m (4 * (base + q)) 4 v, rw i, grown v h W)

    grows : (p v : ℕ) (g : Bool) {ws : List ℕ} (e : Effect) → Holds p ws → v < 2 ^ 32
        → e ≡ doing m (s p) (pushes (state (wrap (c + 1)) (base + p - 1) g) v) → Does p (pushed p g ws v) e
    grows zero v g e W h i = tt
    grows (suc p) v g e W h i =
        let under : base + suc p - 1 ≡ base + p = omega arith in
        puts (suc p) e W h (rw (i, has_room m (s (suc p)) _ v (omega arith) (omega (arith, W.inside, W.fits)), under))

    extended_lt : (v : ℕ) (t : Bool) → v < 128 → cond t v (2 ^ 32 - 128 + v) < 2 ^ 32
    extended_lt v true h = omega arith
    extended_lt v false h = omega arith

    im : (v p : ℕ) (ws : List ℕ) (g : Bool) → f ≡ g → Holds p ws → Does p (instruction base (IM v) p g ws) (effect p (IM v))
    unfolding effect_of row
    im v p ws true e W = popped p ws _ _ W λ x xs W. puts p (effect p (IM v)) (shrunk W) (omega arith) (rw (e, top_there W, top W))
    im v p ws false e W = checked p (ltb v 128) _ _ λ t.
        grows p (extended v) true (effect p (IM v)) W (extended_lt v (ltb v 64) (ltb→lt v 128 t)) (rw e)

    storesp : (n p x : ℕ) (xs : List ℕ) → n < length (x ∷ xs) → Holds p (x ∷ xs)
        → Does p (running (suc p) false (put n x xs)) (effect p (STORESP n))
    unfolding effect_of row
    storesp zero p x xs h W =
        (set_bytes m (4 * (base + p)) 4 x, rw (top_there W, add-zero (base + p), top_there W, top W, above p), written_below x (shrunk W))
    storesp (suc n) p x xs h W =
        let up : base + p + suc n ≡ base + suc p + n = omega arith in (
          set_bytes m (4 * (base + suc p + n)) 4 x,
          rw (top_there W, up, there (shrunk W) n (omega arith), top W, above p),
          changed n x (omega arith) (small W 0 (omega arith)) (shrunk W),
        )

    pub follows : (i : Instr) (p : ℕ) (ws : List ℕ) → Holds p ws → Does p (instruction base i p f ws) (effect p i)
    unfolding effect_of row address binary_of
    follows (IM v) p ws W = im v p ws f refl W
    follows (STORESP n) p ws W = popped p ws _ _ W λ x xs W. reached p n (x ∷ xs) _ _ λ h. storesp n p x xs h W
    follows (LOADSP n) p ws W = reached p n ws _ _ λ h.
        grows p (get_or ws n 0) false (effect p (LOADSP n)) W (small W n h) (rw (there W n h, W.holds n h))
    follows (ADDSP n) p ws W = popped p ws _ _ W λ x xs W. reached p n (x ∷ xs) _ _ λ h.
        puts p (effect p (ADDSP n)) (shrunk W) (omega arith) (rw (top_there W, there W n h, top W, W.holds n h))
    follows PUSHSP p ws W = grows p (4 * (base + p)) false (effect p PUSHSP) W (omega (arith, W.in_reach, W.fits)) refl
    follows POPPC p ws W = popped p ws _ _ W λ x xs W. (m, rw (top_there W, none_written m 0 0, top W, above p), shrunk W)
    follows NOP p ws W = (m, rw (none_written m 0 0), W)
    follows (unary op) p ws W = popped p ws _ _ W λ x xs W.
        puts p (effect p (unary op)) (shrunk W) (unary_lt op x) (rw (top_there W, top W))
    follows (binary op) p ws W = popped p ws _ _ W λ x xs W. popped p xs _ _ (shrunk W) λ y ys X.
        puts p (effect p (binary op)) (shrunk X) (binary_lt op (small W 0 (omega arith)) (small X 0 (omega arith)))
        (rw (above p, top_there W, top_there X, top W, top X))
    follows (EMULATE k) p ws W = tt
    follows POPSP p ws W = tt
    follows BREAK p ws W = tt
    follows ILLEGAL p ws W = tt
    follows PUSHSPADD p ws W = tt
    follows CALL p ws W = tt
    follows CALLPCREL p ws W = tt
    follows POPPCREL p ws W = tt
    follows PUSHPC p ws W = tt
    follows NEQBRANCH p ws W = tt
    follows EQBRANCH p ws W = tt
    follows (division op) p ws W = tt
    follows (load w) p ws W = tt
    follows (store w) p ws W = tt
