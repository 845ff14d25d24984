-- A core instruction: both cores have the same effect.
use Prim.Native.Nat.{ℕ}
use mathlib.Core.Path.{◌≡◌, refl, ◌∙◌}
use mathlib.Core.Logic.{inl, inr}
use mathlib.Core.Bool.{false}
use mathlib.Core.Option.{some}
use native.Mathlib.Omega.{arith}
use borrow.Author.Tests.{lt-ltb, le-ltb, not-true}
use lib.Dec.{T}
use Rattle.memory.proofs.Memory.{Outside}
use Rattle.memory.proofs.Tests.{true_is}
use Rattle.machine.specs.declared.Core.TheVariants.{Narrow, Wide}
use Rattle.machine.specs.State.{Place, fetched}
use Rattle.machine.specs.Effects.{Effect, landed}
use Rattle.machine.specs.Instructions.{decode}
use Rattle.machine.specs.Table.{step_of}
use Rattle.laws.proofs.Steps.{Goes, goes_on, one_step}
use Rattle.emulation.specs.LeftBehind.{Dirt}
use Rattle.emulation.specs.Emulation.{Alike}
use Rattle.emulation.proofs.Between.{not_between}
use Rattle.demand3.specs.Demand3.{Allowed, is_core}
use Rattle.demand3.proofs.Alike.{itself}
use Rattle.demand3.proofs.Dependence.{same_byte, same_step}
use Rattle.demand3.proofs.Matched.{Matched}

same_decode : (b : ℕ) → T (is_core b) → decode Narrow b ≡ decode Wide b
same_decode b h = by (not_between 32 64 b (not-true _ (true_is _ h)))
  where
    by : Outside 32 64 b → decode Narrow b ≡ decode Wide b
    by (inl l) = unfold decode in (rw (lt-ltb b 32 l))
    by (inr l) = unfold decode in (rw (le-ltb b 32 (omega arith), le-ltb b 64 l))

same_core : (x : Place) → T (is_core (fetched x)) → step_of Narrow x ≡ step_of Wide x
unfolding step_of
same_core x h = rw (same_decode (fetched x) h)

pub core_step : {p x : Place} {d : Dirt} → Alike d p x → Allowed p d → Goes (step_of Wide p) → T (is_core (fetched p))
    → Matched (step_of Wide p) p d x
core_step {p} {x} {d} E F g c =
    let e : Effect = step_of Wide p in
    let same : step_of Narrow x ≡ e = same_core x (rw (same_byte E F) c) ∙ same_step E F in
    record {
      bound = 1;
      few = omega arith;
      dirt = λ a. false;
      reaches = record {
        count = 1;
        within_bound = omega arith;
        end = landed e x;
        reached = one_step Narrow x _ (rw same (goes_on e x some g));
        alike = itself;
      };
      no_more = λ a h. refl;
      off_page = λ a h. refl;
    }
