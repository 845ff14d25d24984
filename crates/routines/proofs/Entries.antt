-- What is proved of each entry of a list.
use mathlib.Core.Path.{◌≡◌, refl}
use mathlib.Core.Logic.{inl, inr}
use mathlib.Core.List.{List, [], ◌∷◌, map}
use Rattle.memory.proofs.Tests.{In}

infixr 5 ◌&◌
-- P of each entry
pub data Each {A : Type 0} (P : A → Type 0) : List A → Type 0 where
  end : Each P []
  ◌&◌ : {x : A} {xs : List A} → P x → Each P xs → Each P (x ∷ xs)

pub law_at : {A : Type 0} {P : A → Type 0} {x : A} {xs : List A} → Each P xs → In x xs → P x
law_at end i = absurd i
law_at (p & ps) (inl e) = rw e p
law_at (p & ps) (inr i) = law_at ps i

-- two functions that agree on a whole list, by one computation
pub same_at : {A B : Type 0} (f g : A → B) {x : A} (xs : List A) → map f xs ≡ map g xs → In x xs → f x ≡ g x
same_at f g [] e i = absurd i
same_at f g (y ∷ ys) e (inl p) = rw p (cc)
same_at f g (y ∷ ys) e (inr i) = same_at f g ys (cc) i

pub each_of : {A B : Type 0} {P : B → Type 0} (f : A → B) (xs : List A) → ((x : A) → In x xs → P (f x)) → Each P (map f xs)
each_of f [] h = end
each_of f (x ∷ xs) h = h x (inl refl) & each_of f xs (λ y i. h y (inr i))
