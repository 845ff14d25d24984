-- What zpurun prints of its input, where the input's bytes are known.
use Rattle.std.specs.Prelude.{ℕ, ◌≡◌, ◌⊎◌, List, take, IfSome}
use Rattle.std.specs.Io.KnownBytes.{Appends}
use Rattle.std.specs.declared.option.Option.{Option}
use Rattle.report.specs.Printed.{printed, refusal}

-- one byte more than the longest image
abbrev pub most : ℕ
most = 16385

-- what is taken for the image is all of the input, or of a longer one so many bytes
abbrev pub IsFront : Option (List ℕ) → List ℕ → Type 0
IsFront input image = IfSome input (λ bytes. image ≡ take most bytes)

-- what is printed is what is due of the whole input, or its refusal
abbrev pub Prints : Option (List ℕ) → Option (List ℕ) → Option (List ℕ) → Type 0
Prints input before after = IfSome input (λ bytes. Appends before after (printed bytes) ⊎ Appends before after refusal)
