-- What a stack word at an offset being there, or not, makes of an effect, over the offset: STORESP, LOADSP and ADDSP, which are
-- proved by it, as document 01 wants, and with n = 1 whatever reads the second. The same of the top, and of a push; and of a
-- machine, which keeps its state and its image.
use Rattle.std.proofs.Common.{◌≡◌, ℕ, ◌+◌, ◌-◌, ◌*◌, ◌/◌, ◌<◌, ◌≤◌, ltb, List, [], ◌∷◌, length, refl, ◌∙◌, inl, inr, arith, le-ltb, lt-ltb, Result, Err}
use Rattle.memory.specs.Memory.{set_bytes}
use Rattle.machine.specs.Effects.{Effect, Effect.refuse, Effect.go}
use Rattle.memory.proofs.Tests.{either_way, In}
use Rattle.memory.proofs.Memory.{none_written}
use Rattle.machine.specs.declared.State.{State}
use Rattle.machine.specs.declared.Answer.{Answer}
use Rattle.machine.specs.declared.Answer.TheVariants.{Done, Refused}
use Rattle.machine.specs.declared.Outcome.{Outcome}
use Rattle.machine.specs.declared.Outcome.TheVariants.{Stack}
use Rattle.machine.specs.Table.{Act.goes, Act.puts, Act.pushes, sp, reading, doing}
use Rattle.machine.specs.Inner.{Carried, answered}
use Rattle.machine.specs.Machines.{With, Carries}
use Rattle.machine.specs.declared.Way.{Way}
use Rattle.machine.specs.declared.machine.Machine.{Machine}

module _ (m : List ℕ) (s : State) where
  abbrev pub AllInside : List ℕ → Type 0
  AllInside [] = Unit {0}
  AllInside (w ∷ ws) = (w < length m / 4) × AllInside ws

  all_inside : (ws : List ℕ) (e : Effect) → AllInside ws → reading m s ws e ≡ e
  all_inside [] e h = refl
  all_inside (w ∷ ws) e h = rw (lt-ltb w (length m / 4) h.0) (all_inside ws e h.1)

  one_past : (ws : List ℕ) (e : Effect) (w : ℕ) → In w ws → length m / 4 ≤ w → reading m s ws e ≡ refuse Stack
  one_past [] e w i h = absurd i
  one_past (x ∷ ws) e w (inl p) h = rw (← p, le-ltb w (length m / 4) h)
  one_past (x ∷ ws) e w (inr i) h = rw (one_past ws e w i h) (either_way (ltb x (length m / 4)) (refuse Stack))

  both_there : (n : ℕ) (e : Effect) → s.sp.0 + n < length m / 4 → reading m s (sp m s ∷ (sp m s + n) ∷ []) e ≡ e
  both_there n e h = all_inside (sp m s ∷ (sp m s + n) ∷ []) e (omega arith, (h, tt))

  pub has_room : (t : State) (v : ℕ) → 0 < s.sp.0 → s.sp.0 ≤ length m / 4
      → doing m s (pushes t v) ≡ go t (4 * (s.sp.0 - 1)) 4 v
  has_room t v h k = rw (lt-ltb 0 s.sp.0 h, lt-ltb (s.sp.0 - 1) (length m / 4) (omega arith))

module _ {m : List ℕ} {s : State} where
  pub refused : {e : Effect} {o : Outcome} → e ≡ refuse o → Carried m s e (Refused s o) m
  refused h = rw h (record { answer = refl; memory = refl })

  module _ {r : Answer} where
    does : {e : Effect} {t : State} {a k v : ℕ} {m' : List ℕ} → e ≡ go t a k v → r ≡ Done t → m' ≡ set_bytes m a k v → Carried m s e r m'
    does h j k = rw h (record { answer = j; memory = k })

    -- nothing is written
    gone : {e : Effect} {t : State} → e ≡ go t 0 0 0 → r ≡ Done t → Carried m s e r m
    gone h j = rw h (record { answer = j; memory = rw none_written })

  -- the top
  pub top_past : (e : Effect) → length m / 4 ≤ s.sp.0 → Carried m s (reading m s (sp m s ∷ []) e) (Refused s Stack) m
  top_past e h = refused (one_past m s (sp m s ∷ []) e (sp m s) (inl refl) h)

  pub top_fails : (e : Effect) {o : Outcome} → s.sp.0 < length m / 4 → e ≡ refuse o
      → Carried m s (reading m s (sp m s ∷ []) e) (Refused s o) m
  top_fails e h k = refused (all_inside m s (sp m s ∷ []) e (h, tt) ∙ k)

  module _ (t : State) {r : Answer} (there : s.sp.0 < length m / 4) (done : r ≡ Done t) where
    pub top_puts : (v : ℕ) {m' : List ℕ} → m' ≡ set_bytes m (4 * s.sp.0) 4 v
        → Carried m s (reading m s (sp m s ∷ []) (doing m s (puts t (sp m s) v))) r m'
    top_puts v k = does (all_inside m s (sp m s ∷ sp m s ∷ []) (go t (4 * sp m s) 4 v) (there, (there, tt))) done k

    pub top_goes : Carried m s (reading m s (sp m s ∷ []) (doing m s (goes t))) r m
    top_goes = gone (all_inside m s (sp m s ∷ []) (go t 0 0 0) (there, tt)) done

  -- word sp + n, and with n = 1 the second
  pub offset_past : (n : ℕ) (e : Effect) → length m / 4 ≤ s.sp.0 + n
      → Carried m s (reading m s (sp m s ∷ (sp m s + n) ∷ []) e) (Refused s Stack) m
  offset_past n e h = refused (one_past m s (sp m s ∷ (sp m s + n) ∷ []) e (sp m s + n) (inr (inl refl)) h)

  pub offset_fails : (n : ℕ) (e : Effect) {o : Outcome} → s.sp.0 + n < length m / 4 → e ≡ refuse o
      → Carried m s (reading m s (sp m s ∷ (sp m s + n) ∷ []) e) (Refused s o) m
  offset_fails n e h k = refused (both_there m s n e h ∙ k)

  module _ (n : ℕ) (t : State) {r : Answer} (there : s.sp.0 + n < length m / 4) (done : r ≡ Done t) where
    pub offset_does : (a k v : ℕ) {m' : List ℕ} → m' ≡ set_bytes m a k v
        → Carried m s (reading m s (sp m s ∷ (sp m s + n) ∷ []) (go t a k v)) r m'
    offset_does a k v = does (both_there m s n (go t a k v) there) done

    pub offset_goes : Carried m s (reading m s (sp m s ∷ (sp m s + n) ∷ []) (doing m s (goes t))) r m
    offset_goes = gone (both_there m s n (go t 0 0 0) there) done

    -- the word put is one of those read
    pub offset_puts : (w v : ℕ) {m' : List ℕ} → w ≤ s.sp.0 + n → m' ≡ set_bytes m (4 * w) 4 v
        → Carried m s (reading m s (sp m s ∷ (sp m s + n) ∷ []) (doing m s (puts t w v))) r m'
    offset_puts w v l = does (both_there m s n _ there ∙ all_inside m s (w ∷ []) (go t (4 * w) 4 v) (omega arith, tt)) done

  -- LOADSP reads word sp + n alone, and pushes
  pub word_past : (n : ℕ) (e : Effect) → length m / 4 ≤ s.sp.0 + n
      → Carried m s (reading m s ((sp m s + n) ∷ []) e) (Refused s Stack) m
  word_past n e h = refused (one_past m s ((sp m s + n) ∷ []) e (sp m s + n) (inl refl) h)

  pub word_there : (n : ℕ) (e : Effect) {r : Answer} {m' : List ℕ} → s.sp.0 + n < length m / 4 → Carried m s e r m'
      → Carried m s (reading m s ((sp m s + n) ∷ []) e) r m'
  word_there n e h k = rw (all_inside m s ((sp m s + n) ∷ []) e (h, tt)) k

  -- a push
  pub push_refused : (t : State) (v : ℕ) → s.sp.0 ≡ 0 → Carried m s (doing m s (pushes t v)) (Refused s Stack) m
  push_refused t v h = refused (rw (le-ltb 0 s.sp.0 (omega arith)))

  pub push_room : (t : State) (v : ℕ) {r : Answer} {m' : List ℕ} → 0 < s.sp.0 → s.sp.0 ≤ length m / 4 → r ≡ Done t
      → m' ≡ set_bytes m (4 * (s.sp.0 - 1)) 4 v → Carried m s (doing m s (pushes t v)) r m'
  push_room t v h k = does (has_room m s t v h k)

-- of a machine: its memory is what the effect makes of it, or the instruction is refused and it stays
module _ {p : Machine} {e : Effect} where
  pub carries : {r : Answer} {m : List ℕ} {q : Machine} → With p m q → Carried p.image.now p.state e r m → Carries p e r q
  carries w c = record { carried = rw w.memory c; state = w.state; image = w.image }

  pub stays : {w : Result Way Outcome} {o : Outcome} → w ≡ Err o → Carried p.image.now p.state e (Refused p.state o) p.image.now
      → Carries p e (answered p.state w) p
  stays h c = record { carried = rw h c; state = refl; image = refl }
