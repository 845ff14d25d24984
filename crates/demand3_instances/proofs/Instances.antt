-- Demand 3 is not empty: its hypotheses hold of each case, by computation.
use Prim.Native.Nat.{ℕ, zero, suc, ◌+◌, ◌-◌, ◌*◌, ◌≤◌, ◌<◌}
use mathlib.Core.Path.{◌≡◌, refl, ◌∙◌}
use mathlib.Core.Bool.{Bool, true, false, not, ◌&&◌, ◌||◌}
use mathlib.Core.List.{List, [], ◌∷◌, ◌++◌}
use mathlib.Core.Logic.{inl}
use mathlib.Core.Option.{Option, none, some}
use native.Mathlib.Omega.{arith}
use native.Mathlib.Nat.{not-suc-le-zero}
use native.Mathlib.Decide.{dec_lt, ℕ_discrete}
use borrow.Author.Tests.{not-true, leb-true, ltb-true, ltb-false, eqb-true}
use lib.ListN.{length, get_or, replicate, get_or-eq_default}
use lib.Seq.{take_at}
use lib.Dec.{T, ltb, leb, eqb, lit<}
use Rattle.memory.specs.Memory.{get_bytes, set_bytes, word, good_length}
use Rattle.memory.proofs.Tests.{In, both, holds, true_is, every, at_entry, at_each}
use Rattle.memory.proofs.Memory.{read_alike}
use Rattle.arithmetic.specs.Words.{signed, word_of, flipped}
use Rattle.arithmetic.specs.Operations.{unary_of, binary_of}
use Rattle.machine.specs.declared.Core.TheVariants.{Narrow, Wide}
use Rattle.machine.specs.State.{Place, fetched}
use Rattle.machine.specs.Effects.{Effect, Effect.refuse, Effect.stop, Effect.go, landed}
use Rattle.machine.specs.Instructions.{decode, below32, below64}
use Rattle.machine.specs.Table.{row, effect_of, step_of}
use Rattle.machine.specs.Run.{steps}
use Rattle.routines.specs.Constants.{page_length, first_stack_word, free_words, step_bound}
use Rattle.routines.specs.Page.{page}
use Rattle.routines.specs.Shorts.{Short}
use Rattle.routines.proofs.Rule.{page_length_lem}
use Rattle.emulation.specs.LeftBehind.{Dirt, writes, leaves}
use Rattle.emulation.specs.Emulation.{WithPage, Reached, dirt_of}
use Rattle.emulation.proofs.Between.{is_between}
use Rattle.emulation.proofs.Theorem.{emulates}
use Rattle.demand3.specs.Dirt.{clean, is_short, dirtied}
use Rattle.demand3.specs.Demand3.{is_core, spans, Clean, AllClean, Allowed, AllAllowed, dirt_after, WideRun}
use Rattle.demand3.proofs.Theorem.{demand3}
use Rattle.demand3_instances.proofs.Cases.{Case, start, alone, cases}

-- the hypotheses as tests
abbrev is_clean : Dirt → ℕ → ℕ → Bool
is_clean d a zero = true
is_clean d a (suc k) = is_clean d a k && not (d (a + k))

abbrev are_clean : Dirt → List (ℕ × ℕ) → Bool
are_clean d bs = every (λ b. is_clean d b.0 b.1) bs

abbrev is_in_page : ℕ → Bool
is_in_page x = ltb x page_length

abbrev keeps_page : Effect → Bool
keeps_page (refuse o) = true
keeps_page (stop t) = true
keeps_page (go t a k v) = is_clean is_in_page a k

abbrev all : List Bool → Bool
all ts = every (λ t. t) ts

abbrev tests : Place → Dirt → List Bool
tests p d =
    (is_core (fetched p) || is_short (fetched p))
    ∷ keeps_page (step_of Wide p)
    ∷ (not (is_short (fetched p)) || leb (first_stack_word + free_words) p.state.sp.0)
    ∷ not (d p.state.pc.0)
    ∷ are_clean d (spans (row p.memory p.state (decode Wide (fetched p))))
    ∷ []

unfoldable all_allowed : ℕ → Place → Dirt → Bool
all_allowed zero p d = true
all_allowed (suc n) p d = all (tests p d) && all_allowed n (landed (step_of Wide p) p) (dirtied (step_of Wide p) p d)

abbrev reached : Case → Place → List Bool
reached c q =
    eqb q.state.pc.0 c.counter
    ∷ eqb q.state.sp.0 c.sp
    ∷ eqb (word q.memory c.sp) c.top
    ∷ []

abbrev arrives : Case → Option Place → Bool
arrives c none = false
arrives c (some q) = all (reached c q)

abbrev is_byte : ℕ → Bool
is_byte b = ltb b 256

-- the page is in place, and the wide core arrives where the case says
abbrev begins : Case → List Bool
begins c =
    good_length (length (start c).memory)
    ∷ every is_byte (start c).memory
    ∷ arrives c (steps Wide c.count (start c))
    ∷ []

-- each step is allowed, and the top is clean then
abbrev hypotheses : Case → List Bool
hypotheses c =
    all (begins c)
    ∷ all_allowed c.count (start c) clean
    ∷ is_clean (dirt_after c.count (start c) clean) (4 * c.sp) 4
    ∷ []

all_hold : every (λ c. all (hypotheses c)) cases ≡ true
unfolding cases page good_length all_allowed dirt_after is_short dirtied leaves steps step_of effect_of row decode below32 below64
    unary_of binary_of get_bytes set_bytes signed word_of flipped
all_hold = refl

-- from the tests to the hypotheses
is_clean_lem : (d : Dirt) (a k : ℕ) → is_clean d a k ≡ true → (j : ℕ) → j < k → d (a + j) ≡ false
is_clean_lem d a zero h j l = absurd (not-suc-le-zero l)
is_clean_lem d a (suc k) h j l =
    let (x, y) = both (is_clean d a k) (not (d (a + k))) h in
    elim (ℕ_discrete j k) [
      | yes e ↦ rw e (not-true (d (a + k)) y)
      | no n ↦ is_clean_lem d a k x j (omega arith)
    ]

are_clean_lem : (d : Dirt) (bs : List (ℕ × ℕ)) → are_clean d bs ≡ true → AllClean d bs
unfolding Clean
are_clean_lem d [] h = tt
are_clean_lem d (b ∷ bs) h =
    let (x, y) = both (is_clean d b.0 b.1) (are_clean d bs) h in
    (is_clean_lem d b.0 b.1 x, are_clean_lem d bs y)

kept : (e : Effect) → keeps_page e ≡ true → (a : ℕ) → T (writes e a) → page_length ≤ a
kept (refuse o) h a w = absurd w
kept (stop t) h a w = absurd w
kept (go t b k v) h a w =
    let (low, high) = is_between b (b + k) a (true_is _ w) in
    omega (arith, ltb-false (b + (a - b)) page_length (is_clean_lem is_in_page b k h (a - b) (omega arith)))

implied : (t u : Bool) → not t || u ≡ true → T t → u ≡ true
implied true u e h = e
implied false u e h = absurd h

is_allowed : (p : Place) (d : Dirt) → all (tests p d) ≡ true → Allowed p d
is_allowed p d h =
    let t = at_each (λ t. t) false (tests p d) h in
    record {
      core_or_short = holds (t 0 (lit< tt));
      page_kept = kept (step_of Wide p) (t 1 (lit< tt));
      room = λ s. leb-true (first_stack_word + free_words) p.state.sp.0 (implied (is_short (fetched p)) _ (t 2 (lit< tt)) s);
      fetch_clean = not-true (d p.state.pc.0) (t 3 (lit< tt));
      reads_clean = are_clean_lem d (spans (row p.memory p.state (decode Wide (fetched p)))) (t 4 (lit< tt));
    }

are_allowed : (n : ℕ) (p : Place) (d : Dirt) → all_allowed n p d ≡ true → AllAllowed n p d
unfolding all_allowed AllAllowed
are_allowed zero p d h = tt
are_allowed (suc n) p d h =
    let q : Place = landed (step_of Wide p) p in
    let e : Dirt = dirtied (step_of Wide p) p d in
    let (x, y) = both (all (tests p d)) (all_allowed n q e) h in
    (is_allowed p d x, are_allowed n q e y)

are_bytes : (m : List ℕ) → every is_byte m ≡ true → (a : ℕ) → get_or m a 0 < 256
are_bytes m h a =
    elim (dec_lt a (length m)) [
      | yes l ↦ ltb-true (get_or m a 0) 256 (at_each is_byte 0 m h a l)
      | no l ↦ rw (get_or-eq_default m 0 {n = a} (omega arith)) (omega arith)
    ]

-- where the wide core arrives
pub record Arrival (c : Case) : Type 0 where
  pub start_paged : WithPage (start c)
  pub end : Place
  pub none_stops : steps Wide c.count (start c) ≡ some end
  pub counter : end.state.pc.0 ≡ c.counter
  pub sp : end.state.sp.0 ≡ c.sp
  pub top : word end.memory c.sp ≡ c.top

arrival : (c : Case) → all (begins c) ≡ true → Arrival c
arrival c h = by (steps Wide c.count (start c)) refl (t 2 (lit< tt))
  where
    t : (j : ℕ) → j < 3 → get_or (begins c) j false ≡ true
    t = at_each (λ t. t) false (begins c) h

    paged : WithPage (start c)
    paged = record {
      good_length = t 0 (lit< tt);
      bytes = are_bytes (start c).memory (t 1 (lit< tt));
      page_in_place = take_at page (c.program ++ replicate (c.size - page_length - length c.program) 0) page_length page_length_lem;
    }

    by : (r : Option Place) → steps Wide c.count (start c) ≡ r → arrives c r ≡ true → Arrival c
    by none e h = let z : ◌≡◌ {A = ℕ} 0 1 = cc in absurd (omega arith)
    by (some q) e h =
        let u = at_each (λ t. t) false (reached c q) h in
        record {
          start_paged = paged;
          end = q;
          none_stops = e;
          counter = eqb-true _ _ (u 0 (lit< tt));
          sp = eqb-true _ _ (u 1 (lit< tt));
          top = eqb-true _ _ (u 2 (lit< tt));
        }

-- the narrow core follows there
pub record Instance (c : Case) : Type 0 where
  pub wide : Arrival c
  pub run : WideRun c.count (start c) wide.end
  pub follows : Reached (step_bound * c.count) (start c) wide.end (dirt_after c.count (start c) clean)
  pub narrow_top : word follows.end.memory c.sp ≡ c.top

pub instances : {c : Case} → In c cases → Instance c
instances {c} i =
    let t = at_each (λ t. t) false (hypotheses c) (at_entry (λ c. all (hypotheses c)) cases all_hold i) in
    let w : Arrival c = arrival c (t 0 (lit< tt)) in
    let r : WideRun c.count (start c) w.end =
    record { none_stops = w.none_stops; all_allowed = are_allowed c.count (start c) clean (t 1 (lit< tt)) } in
    let f = demand3 c.count (start c) w.end w.start_paged r in
    let top_clean = is_clean_lem (dirt_after c.count (start c) clean) (4 * c.sp) 4 (t 2 (lit< tt)) in
    record {
      wide = w;
      run = r;
      follows = f;
      narrow_top = read_alike w.end.memory f.end.memory (4 * c.sp) 4
          (λ j l. f.alike.same_bytes (4 * c.sp + j) (top_clean j l)) ∙ w.top;
    }

-- `Emulated` is not empty either: LESSTHAN alone
alone_begins : all (begins alone) ≡ true
unfolding page good_length steps step_of effect_of row decode below64 binary_of get_bytes set_bytes signed
alone_begins = refl

pub alone_arrives : Arrival alone
alone_arrives = arrival alone alone_begins

pub less_than_owes : Reached 23 (start alone) alone_arrives.end (dirt_of 5 (start alone) alone_arrives.end)
unfolding page
less_than_owes =
    let less_than : Short = record { byte = 36; steps = 23; words = 5 } in
    emulates {o = less_than} (inl refl) (start alone) alone_arrives.end alone_arrives.start_paged refl (omega arith)
    alone_arrives.none_stops

-- and the narrow core does take 23 steps
pub narrow_alone : arrives alone (steps Narrow 23 (start alone)) ≡ true
unfolding page steps step_of effect_of row decode below32 below64 unary_of binary_of get_bytes set_bytes flipped
narrow_alone = refl
