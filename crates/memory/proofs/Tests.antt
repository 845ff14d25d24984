-- What tests say, of one thing and of a list.
use Prim.Native.Nat.{ℕ, ◌<◌}
use mathlib.Core.Path.{◌≡◌, refl, sym, ap, ◌∙◌}
use mathlib.Core.Logic.{◌⊎◌, inl, inr}
use mathlib.Core.Bool.{Bool, true, false, cond}
use mathlib.Core.List.{List, [], ◌∷◌}
use lib.ListN.{length, get_or}
use lib.Dec.{T}
use Rattle.std.proofs.lemmas.List.Sums.{AllPass-from_list_all}
pub use Rattle.std.proofs.lemmas.Bool.{and_parts as both, or_parts as neither}
-- the test holds of every entry
pub use Rattle.std.specs.List.{list_all as every}

pub holds : {t : Bool} → t ≡ true → T t
holds e = rw e tt

pub true_is : (t : Bool) → T t → t ≡ true
true_is true h = refl
true_is false h = absurd h

pub either_way : {A : Type 0} (t : Bool) (x : A) → cond t x x ≡ x
either_way true x = refl
either_way false x = refl

-- x is an entry
abbrev pub In : {A : Type 0} → A → List A → Type 0
In x [] = ⊥
In x (y ∷ ys) = (x ≡ y) ⊎ In x ys

pub at_entry : {A : Type 0} (f : A → Bool) {x : A} (xs : List A) → every f xs ≡ true → In x xs → f x ≡ true
at_entry f [] e i = absurd i
at_entry f (y ∷ ys) e (inl p) = rw p (both (f y) (every f ys) e).0
at_entry f (y ∷ ys) e (inr i) = at_entry f ys (both (f y) (every f ys) e).1 i

pub at_each : {A : Type 0} (f : A → Bool) (d : A) (xs : List A) → every f xs ≡ true → (j : ℕ) → j < length xs → f (get_or xs j d) ≡ true
at_each f d xs e j h = AllPass-from_list_all f xs e j d h

-- what has an inverse tells things apart
pub told_apart : {A : Type 0} (f : A → ℕ) (g : ℕ → A) → ((x : A) → g (f x) ≡ x) → {x y : A} → f x ≡ f y → x ≡ y
told_apart f g inverse {x} {y} h = sym (inverse x) ∙ ap g h ∙ inverse y
