-- Demand 3 holds.
use Prim.Native.Nat.{ℕ, zero, suc, ◌+◌, ◌*◌, ◌≤◌, ◌<◌, min}
use mathlib.Core.Path.{◌≡◌, refl, sym, ap, ◌∙◌}
use mathlib.Core.Bool.{Bool, true, false}
use mathlib.Core.List.{List}
use mathlib.Core.Option.{some}
use native.Mathlib.Omega.{arith}
use lib.ListN.{length, get_or, take, length-take}
use lib.Seq.{get_or-take, ext_get_or}
use lib.Dec.{T}
use Rattle.memory.proofs.Tests.{holds}
use Rattle.memory.proofs.Memory.{Outside, Bytes, outside_same, written_bytes}
use Rattle.machine.specs.declared.Core.TheVariants.{Narrow, Wide}
use Rattle.machine.specs.State.{Place, fetched}
use Rattle.machine.specs.Effects.{Effect, Effect.refuse, Effect.stop, Effect.go, memory_after, landed}
use Rattle.machine.specs.Table.{step_of}
use Rattle.machine.specs.Run.{steps}
use Rattle.laws.proofs.Steps.{Goes, first_step, no_step, none_taken, steps_add, steps_keep, steps_length}
use Rattle.routines.specs.Constants.{page_length, step_bound}
use Rattle.emulation.specs.LeftBehind.{Dirt, between, writes}
use Rattle.emulation.specs.Emulation.{WithPage, Alike, Reached}
use Rattle.emulation.proofs.Between.{not_between}
use Rattle.demand3.specs.Dirt.{clean, dirtied}
use Rattle.demand3.specs.Demand3.{Allowed, AllAllowed, dirt_after, Demand3, is_core}
use Rattle.demand3.proofs.Alike.{itself, after, joined}
use Rattle.demand3.proofs.Matched.{Matched}
use Rattle.demand3.proofs.CoreStep.{core_step}
use Rattle.demand3.proofs.ShortStep.{short_step}

-- any allowed step
any_step : {d : Dirt} {p x : Place} → Alike d p x → Allowed p d → Goes (step_of Wide p) → WithPage x → Matched (step_of Wide p) p d x
any_step {d} {p} {x} E F g S = by (is_core (fetched p)) refl
  where
    by : (t : Bool) → is_core (fetched p) ≡ t → Matched (step_of Wide p) p d x
    by true e = core_step E F g (rw e tt)
    by false e = short_step E F g (rw e at F.core_or_short) S

-- an effect that keeps off the page leaves its bytes
page_stays : (m : List ℕ) (e : Effect) → ((a : ℕ) → T (writes e a) → page_length ≤ a) → (a : ℕ) → a < page_length
    → get_or (memory_after m e) a 0 ≡ get_or m a 0
page_stays m (refuse o) k a h = refl
page_stays m (stop t) k a h = refl
page_stays m (go t b n v) k a h = outside_same m b n v a (off (between b (b + n) a) refl)
  where
    off : (t : Bool) → between b (b + n) a ≡ t → Outside b (b + n) a
    off true e = absurd (omega (arith, k a (holds e)))
    off false e = not_between b (b + n) a e

same_page : (m m' : List ℕ) → length m' ≡ length m → ((a : ℕ) → a < page_length → get_or m' a 0 ≡ get_or m a 0)
    → take page_length m' ≡ take page_length m
same_page m m' l h =
    ext_get_or 0 (take page_length m') (take page_length m)
    (length-take page_length m' ∙ ap (min page_length) l ∙ sym (length-take page_length m))
    (λ i k.
    let j : i < page_length = omega (arith, length-take page_length m') in
    get_or-take page_length m' i 0 j ∙ h i j ∙ sym (get_or-take page_length m i 0 j))

module _ {d : Dirt} {p x : Place} (E : Alike d p x) (F : Allowed p d) (g : Goes (step_of Wide p)) (S : WithPage x) where
  abbrev e : Effect
  e = step_of Wide p

  one : Matched e p d x
  one = any_step E F g S

  -- where the narrow core is after it
  abbrev y : Place
  y = one.reaches.end

  still_alike : Alike (dirtied e p d) (landed e p) y
  still_alike = joined one.reaches.alike (after E e g) one.no_more

  same_length : length y.memory ≡ length x.memory
  same_length = steps_length Narrow one.reaches.count x y one.reaches.reached

  still_paged : WithPage y
  still_paged = record {
    good_length = rw same_length S.good_length;
    bytes = steps_keep Narrow Bytes written_bytes one.reaches.count x y one.reaches.reached S.bytes;
    page_in_place =
        same_page x.memory y.memory same_length
        (λ a h. one.reaches.alike.same_bytes a (one.off_page a h) ∙ page_stays x.memory e F.page_kept a h)
        ∙ S.page_in_place;
  }

-- n of them
follows : (n : ℕ) (p q : Place) (d : Dirt) (x : Place) → steps Wide n p ≡ some q → AllAllowed n p d → Alike d p x → WithPage x
    → Reached (step_bound * n) x q (dirt_after n p d)
unfolding AllAllowed dirt_after
follows zero p q d x r F E S =
    rw (← none_taken Wide p q r) (record { count = 0; within_bound = omega arith; end = x; reached = no_step Narrow x; alike = E })
follows (suc n) p q d x r F E S =
    let e = step_of Wide p in
    let (g, rest) = first_step Wide n p r in
    let o = one E F.0 g S in
    let f = o.reaches in
    let t = follows n (landed e p) q (dirtied e p d) f.end rest F.1 (still_alike E F.0 g S) (still_paged E F.0 g S) in
    record {
      count = f.count + t.count;
      within_bound = omega (arith, o.few, f.within_bound, t.within_bound);
      end = t.end;
      reached = steps_add Narrow f.count t.count x f.end f.reached ∙ t.reached;
      alike = t.alike;
    }

pub demand3 : Demand3
demand3 n p q S R = follows n p q clean p R.none_stops R.all_allowed itself S
