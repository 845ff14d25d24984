-- What is printed of the image is due of the whole input, or refuses it.
use Rattle.std.proofs.Common.{◌≡◌, ℕ, ◌≤◌, ◌<◌, Bor, List, [], length, take, false, cond, None, Some, IfSome, unwrap_or, ap, ◌∙◌, ◌⊎◌, inl, inr, subst, refl, arith, length-take-le}
use Rattle.std.proofs.lemmas.Bool.{cases_lt}
use Rattle.std.proofs.lemmas.List.{take_all}
use Rattle.std.specs.declared.option.Option.{Option}
use Rattle.std.specs.Io.KnownBytes.{Appends}
use Rattle.session.specs.Sessions.{takes}
use Rattle.report.specs.Printed.{lines, refusal, printed}
use Rattle.zpurun.specs.Printing.{most, IsFront, Prints}

none : takes 0 ≡ false
unfolding takes
none = refl

too_long : takes most ≡ false
unfolding takes
too_long = refl

refused : (image : List ℕ) → takes (length image) ≡ false → printed image ≡ refusal
unfolding printed
refused image e = ap (λ t. cond t (lines image) refusal) e

of_front : (bytes : List ℕ) → (most < length bytes) ⊎ (length bytes ≤ most)
    → (printed (take most bytes) ≡ printed bytes) ⊎ (printed (take most bytes) ≡ refusal)
of_front bytes (inl long) = inr (refused (take most bytes) (ap takes (length-take-le most bytes (omega arith)) ∙ too_long))
of_front bytes (inr short) = inl (ap printed (take_all most bytes short))

-- an image, or nothing in its place
pub due : (a b c : Option (List ℕ)) (image : Option (Bor (List ℕ))) (s nothing : Bor (List ℕ)) → s ≡ unwrap_or image nothing → nothing.now ≡ []
    → IfSome image (λ i. IsFront a i.now) → Appends b c (printed s.now) → Prints a b c
due None b c image s nothing e empty front appends = tt
due (Some bytes) b c None s nothing e empty front appends =
    inr (subst (Appends b c) (refused _ (ap takes (ap (λ i. length i.now) e ∙ ap length empty) ∙ none)) appends)
due (Some bytes) b c (Some image) s nothing e empty front appends = of (of_front bytes (cases_lt most (length bytes))) where
  same : printed s.now ≡ printed (take most bytes)
  same = ap (λ (i : Bor (List ℕ)). printed i.now) e ∙ ap printed front

  of : (printed (take most bytes) ≡ printed bytes) ⊎ (printed (take most bytes) ≡ refusal)
      → Appends b c (printed bytes) ⊎ Appends b c refusal
  of (inl whole) = inl (subst (Appends b c) (same ∙ whole) appends)
  of (inr long) = inr (subst (Appends b c) (same ∙ long) appends)
