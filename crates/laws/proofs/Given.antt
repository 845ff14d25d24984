-- Each of the outcomes 1 and 4 to 8 is given exactly when document 01's table says.
use Prim.Native.Nat.{ℕ, zero, suc, ◌-◌, ◌≤◌, ◌<◌}
use mathlib.Core.Path.{◌≡◌, refl, sym, ap, subst}
use mathlib.Core.Logic.Iff
use mathlib.Core.Logic.{◌↔◌}
use mathlib.Core.Bool.{Bool, true, false, cond, not, ◌&&◌, ◌||◌, and-true, and-false, and_assoc, or-false}
use mathlib.Core.List.{List, [], ◌∷◌}
use mathlib.Core.Option.{Option, none, some}
use native.Mathlib.Omega.{arith}
use native.Mathlib.Decide.{dec_lt}
use lib.ListN.{length}
use lib.Dec.{T, ltb, leb, eqb, ltb→lt}
use borrow.Author.Tests.{le-ltb, eqb-true, eq-eqb, ne_eqb}
use Rattle.memory.proofs.Tests.{either_way}
use Rattle.machine.specs.declared.Core.{Core}
use Rattle.machine.specs.declared.Core.TheVariants.{Narrow, Wide}
use Rattle.machine.specs.declared.State.{State}
use Rattle.machine.specs.declared.Outcome.{Outcome}
use Rattle.machine.specs.declared.Outcome.TheVariants.{Fetch, Illegal, Stack, Address, Divide}
use Rattle.machine.specs.Outcomes.{number}
use Rattle.machine.specs.State.{Place, fetched, next}
use Rattle.machine.specs.Effects.{Effect, Effect.refuse, Effect.stop, Effect.go}
use Rattle.machine.specs.Instructions.{Instr, Instr.STORESP, Instr.LOADSP, Instr.IM, decode, below32, below64, inverted, among}
use Rattle.machine.specs.Table.{Row, row, reading, doing, effect_of, step_of}
use Rattle.laws.specs.Given.{refusal_of, first_given, illegals, accesses, divisions, fetch, illegal, stack, address, divide, given}
use Rattle.laws.proofs.Unique.{one_outcome}
use Rattle.arithmetic.proofs.Signed.{not_ltb}
use Rattle.laws.proofs.Refusals.{Kind, plain, Refused, kind, refused, not_leb}

inward : {X Y : Type 0} (f : X → Y) (t : Bool) (x y : X) → f (cond t x y) ≡ cond t (f x) (f y)
inward f true x y = refl
inward f false x y = refl

-- what f gives below n
abbrev table : {X : Type 0} → (ℕ → X) → ℕ → List X
table f zero = []
table f (suc n) = f n ∷ table f n

same_table : {X : Type 0} (f g : ℕ → X) (n : ℕ) → table f n ≡ table g n → (b : ℕ) → b < n → f b ≡ g b
same_table f g zero e b h = absurd (omega arith)
same_table f g (suc n) e b h = elim (dec_lt b n) [
  | yes k ↦ same_table f g n (cc) b k
  | no k ↦ let q : b ≡ n = omega arith in rw q (cc)
]

-- a byte's kind by the paper's lists
abbrev listed : Core → ℕ → Kind
listed core b = (among b (illegals core), eqb b 13, among b (accesses core), among b (divisions core))

-- no byte from 64 on is listed
module _ (b : ℕ) (h : 64 ≤ b) where
  past : (k : ℕ) → T (ltb k 64) → eqb b k ≡ false
  past k t = ne_eqb b k λ q. omega (arith, ltb→lt k 64 t)

  none_listed : (core : Core) → plain ≡ listed core b
  none_listed Narrow = simp (past, tt {0})
  none_listed Wide = simp (past, tt {0})

-- a law of every byte: below 64 by a table, and from there on each is STORESP, LOADSP or IM
every_byte : {X : Type 0} (f : Instr → X) (g : ℕ → X) (core : Core) → table (λ b. f (decode core b)) 64 ≡ table g 64
    → ((b : ℕ) → 64 ≤ b → (n : ℕ) → (f (STORESP n) ≡ g b) × (f (LOADSP n) ≡ g b) × (f (IM n) ≡ g b))
    → (b : ℕ) → f (decode core b) ≡ g b
unfolding decode
every_byte f g core e k b = elim (dec_lt b 64) [
  | yes h ↦ same_table (λ b. f (decode core b)) g 64 e b h
  | no h ↦ let l : 64 ≤ b = omega arith in let k = k b l in
      simp (le-ltb b 32 (omega arith), le-ltb b 64 l, inward f, either_way, (k (inverted b)).0, (k (inverted b)).1, (k (b - 128)).2)
]

module _ (m : List ℕ) (s : State) where
  below_64 : (core : Core) → table (λ b. (kind m s (decode core b)).0) 64 ≡ table (listed core) 64
  unfolding kind decode below32 below64
  below_64 Narrow = refl
  below_64 Wide = refl

  as_listed : (core : Core) (b : ℕ) → (kind m s (decode core b)).0 ≡ listed core b
  unfolding kind
  as_listed core = every_byte (λ i. (kind m s i).0) (listed core) core (below_64 core) λ b h n.
      let e = none_listed b h core in (e, e, e)

  by_byte : (core : Core) (b : ℕ) → Refused m s (listed core b) (row m s (decode core b))
  by_byte core b = subst (λ (k : Kind). Refused m s k (row m s (decode core b))) (as_listed core b) (kind m s (decode core b)).1

-- a refusal is with this outcome
abbrev is : Outcome → Option Outcome → Bool
is o none = false
is o (some q) = eqb (number o) (number q)

is_first : (o q : Outcome) (t : Bool) (x : Option Outcome) → is o (cond t (some q) x) ≡ cond t (is o (some q)) (is o x)
is_first o q t x = inward (is o) t (some q) x

in_words : (t u v : Bool) → cond t u v ≡ t && u || not t && v
in_words true u v = sym (or-false u)
in_words false u v = refl

ruleset first = (is_first, in_words, and-true, and-false, or-false, and_assoc)

refused_with : (o : Outcome) (e : Effect) → (e ≡ refuse o) ↔ (is o (refusal_of e) ≡ true)
refused_with o (refuse q) = (λ h. eq-eqb (number o) (number q) (cc), λ h. ap refuse (sym (one_outcome (eqb-true _ _ h))))
refused_with o (stop t) = (λ h. cc, λ h. cc)
refused_with o (go t a k v) = (λ h. cc, λ h. cc)

module _ (core : Core) (p : Place) where
  -- a step is refused with the first outcome that applies, and is not refused where none does
  pub exactly : refusal_of (step_of core p) ≡ first_given (given core p)
  unfolding step_of effect_of fetch illegal stack address divide
  exactly =
      simp (refused, not_ltb)
      (ap (cond (leb (length p.memory) p.state.pc.0) (some Fetch)) (by_byte p.memory p.state core (fetched p)))

  exactly_when : (o : Outcome) {t : Bool} → is o (first_given (given core p)) ≡ t → (step_of core p ≡ refuse o) ↔ (t ≡ true)
  exactly_when o h = rw (← h, ← exactly) (refused_with o (step_of core p))

  pub fetch_given : step_of core p ≡ refuse Fetch ↔ fetch core p ≡ true
  fetch_given = exactly_when Fetch (simp first)

  pub illegal_given : step_of core p ≡ refuse Illegal ↔ not (fetch core p) && illegal core p ≡ true
  illegal_given = exactly_when Illegal (simp first)

  pub stack_given : step_of core p ≡ refuse Stack ↔ not (fetch core p) && not (illegal core p) && stack core p ≡ true
  stack_given = exactly_when Stack (simp first)

  pub address_given : step_of core p ≡ refuse Address
      ↔ not (fetch core p) && not (illegal core p) && not (stack core p) && address core p ≡ true
  address_given = exactly_when Address (simp first)

  pub divide_given : step_of core p ≡ refuse Divide
      ↔ not (fetch core p) && not (illegal core p) && not (stack core p) && not (address core p) && divide core p ≡ true
  divide_given = exactly_when Divide (simp first)

-- the state that a step stops with, if it does
abbrev stop_of : Effect → Option State
stop_of (refuse o) = none
stop_of (stop t) = some t
stop_of (go t a k v) = none

stopped_with : (t : State) (e : Effect) → (e ≡ stop t) ↔ (stop_of e ≡ some t)
stopped_with t (refuse o) = (λ h. cc, λ h. cc)
stopped_with t (stop u) = (λ h. cc, λ h. cc)
stopped_with t (go u a k v) = (λ h. cc, λ h. cc)

only_then : (t u : Bool) (x y : State) → (cond t (cond u (some x) none) none ≡ some y) ↔ (t && u ≡ true) × (y ≡ x)
only_then true true x y = (λ h. (refl, cc), λ h. cc)
only_then true false x y = (λ h. (cc, cc), λ h. cc)
only_then false u x y = (λ h. (cc, cc), λ h. cc)

module _ (m : List ℕ) (s : State) where
  abbrev stop_by : Row → Option State
  stop_by r = stop_of (reading m s r.reads (doing m s r.act))

  abbrev if_break : ℕ → Option State
  if_break b = cond (eqb b 0) (some (next s s.sp.0)) none

  stops_below_64 : (core : Core) → table (λ b. stop_by (row m s (decode core b))) 64 ≡ table if_break 64
  unfolding decode below32 below64 row
  stops_below_64 Narrow = simp (inward stop_of, either_way)
  stops_below_64 Wide = simp (inward stop_of, inward (doing m s), either_way)

  stops_by_byte : (core : Core) (b : ℕ) → stop_by (row m s (decode core b)) ≡ if_break b
  unfolding row
  stops_by_byte core = every_byte (λ i. stop_by (row m s i)) if_break core (stops_below_64 core) λ b h n.
      simp (past b h 0 tt, inward stop_by, inward stop_of, either_way) (refl, refl, refl)

-- BREAK is byte 0 carried out: the counter moves on by 1, the flag is clear, and sp stays
pub break_given : (core : Core) (p : Place) (t : State) → step_of core p ≡ stop t
    ↔ (not (fetch core p) && eqb (fetched p) 0 ≡ true) × (t ≡ next p.state p.state.sp.0)
unfolding step_of effect_of fetch
break_given core p t =
    let end = only_then (ltb p.state.pc.0 (length p.memory)) (eqb (fetched p) 0) (next p.state p.state.sp.0) t in
    rw not_leb (Iff.trans (stopped_with t (step_of core p)) (rw (inward stop_of, stops_by_byte) end))
