-- The promise of `run` and of `step` fixes the result and every byte: two results that it allows are equal.
use Prim.Native.Nat.{ℕ}
use mathlib.Core.Path.{◌≡◌, refl, sym, ap, ◌∙◌}
use mathlib.Core.List.{List, [], ◌∷◌}
use lib.ListN.{get_or}
use Rattle.machine.specs.declared.Core.{Core}
use Rattle.machine.specs.declared.Finish.{Finish}
use Rattle.machine.specs.declared.Outcome.{Outcome}
use Rattle.machine.specs.declared.Outcome.TheVariants.{Limit, Break, Image, Start, Fetch, Illegal, Stack, Address, Divide}
use Rattle.machine.specs.Outcomes.{number}
use Rattle.machine.specs.State.{Place}
use Rattle.machine.specs.Run.{Ran, handed_back, Runs}
use Rattle.memory.proofs.Tests.{told_apart}

abbrev listed : List Outcome
listed = Limit ∷ Break ∷ Image ∷ Start ∷ Fetch ∷ Illegal ∷ Stack ∷ Address ∷ Divide ∷ []

by_number : (o : Outcome) → get_or listed (number o) Limit ≡ o
by_number Limit = refl
by_number Break = refl
by_number Image = refl
by_number Start = refl
by_number Fetch = refl
by_number Illegal = refl
by_number Stack = refl
by_number Address = refl
by_number Divide = refl

pub one_outcome : {o q : Outcome} → number o ≡ number q → o ≡ q
one_outcome = told_apart number (λ n. get_or listed n Limit) by_number

pub one_result : (core : Core) (limit : ℕ) (p : Place) (f g : Finish) (m n : List ℕ) → Runs core limit p f m → Runs core limit p g n
    → (f ≡ g) × (m ≡ n)
one_result core limit p f g m n h k = (same_finish, ap (λ (x : Ran). x.place.memory) e)
  where
    e : handed_back f m ≡ handed_back g n
    e = h ∙ sym k

    same_outcome : f.outcome ≡ g.outcome
    same_outcome = one_outcome (ap (λ (x : Ran). x.outcome) e)

    same_steps : f.steps ≡ g.steps
    same_steps = ap (λ (x : Ran). x.steps) e

    same_state : f.state ≡ g.state
    same_state = ap (λ (x : Ran). x.place.state) e

    same_finish : f ≡ g
    same_finish = λ i. record { outcome = same_outcome i; steps = same_steps i; state = same_state i }
