-- Places that are alike but for dirty bytes.
use Prim.Native.Nat.{ℕ, ◌+◌}
use mathlib.Core.Path.{◌≡◌, refl, sym, ◌∙◌}
use mathlib.Core.Bool.{false}
use Rattle.memory.proofs.Tests.{neither}
use Rattle.memory.proofs.Memory.{length-set_bytes, written_alike}
use Rattle.machine.specs.State.{Place}
use Rattle.machine.specs.Effects.{Effect, Effect.refuse, Effect.stop, Effect.go, landed}
use Rattle.laws.proofs.Steps.{Goes}
use Rattle.emulation.specs.LeftBehind.{Dirt}
use Rattle.emulation.specs.Emulation.{Alike}
use Rattle.emulation.proofs.Between.{outside}
use Rattle.demand3.specs.Dirt.{dirtied}

pub itself : {d : Dirt} {p : Place} → Alike d p p
itself = record { same_state = refl; same_length = refl; same_bytes = λ a h. refl }

-- one effect at both leaves them so
pub after : {d : Dirt} {p x : Place} → Alike d p x → (e : Effect) → Goes e → Alike (dirtied e p d) (landed e p) (landed e x)
unfolding dirtied
after E (refuse o) g = absurd g
after E (stop t) g = absurd g
after {d} {p} {x} E (go t a n v) g = record {
  same_state = refl;
  same_length = length-set_bytes x.memory a n v ∙ E.same_length ∙ sym (length-set_bytes p.memory a n v);
  same_bytes = λ b h. written_alike p.memory x.memory a n v b E.same_length
      (λ o. E.same_bytes b (neither (d b) _ (rw (outside a (a + n) b o) at h)).0);
}

-- what is alike but for some bytes, and then but for others
pub joined : {d δ : Dirt} {p y x : Place} → Alike δ y x → Alike d p y → ((a : ℕ) → d a ≡ false → δ a ≡ false) → Alike d p x
joined F E within = record {
  same_state = F.same_state ∙ E.same_state;
  same_length = F.same_length ∙ E.same_length;
  same_bytes = λ a h. F.same_bytes a (within a h) ∙ E.same_bytes a h;
}
