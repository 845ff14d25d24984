-- The ends of the numbers in decimal, by the definitions alone.
use mathlib.Core.Path.{◌≡◌, refl}
use mathlib.Core.List.{[], ◌∷◌}
use Rattle.text.specs.Decimal.{digits, decimal}

zero_digit : decimal 0 ≡ 48 ∷ []
unfolding decimal digits
zero_digit = refl

largest_word : decimal 4294967295 ≡ 52 ∷ 50 ∷ 57 ∷ 52 ∷ 57 ∷ 54 ∷ 55 ∷ 50 ∷ 57 ∷ 53 ∷ []
unfolding decimal digits
largest_word = refl
