-- The numbers of demand 3: that they are enough for the short instructions, and that they are the paper's.
use Prim.Native.Nat.{◌+◌, ◌≤◌}
use mathlib.Core.Path.{◌≡◌, refl}
use mathlib.Core.Bool.{Bool, true, ◌&&◌}
use borrow.Author.Tests.{leb-true}
use lib.Dec.{leb}
use Rattle.memory.proofs.Tests.{In, both, every, at_entry}
use Rattle.routines.specs.Constants.{page_length, first_stack_word, free_words, step_bound}
use Rattle.routines.specs.Shorts.{Short, shorts}

-- the steps of each are within the bound, and its words are among those that are free
abbrev affordable : Short → Bool
affordable o = leb o.steps step_bound && leb o.words free_words

enough : every affordable shorts ≡ true
enough = refl

pub within_both : {o : Short} → In o shorts → (o.steps ≤ step_bound) × (o.words ≤ free_words)
within_both {o} i =
    let (steps, words) = both (leb o.steps step_bound) (leb o.words free_words) (at_entry affordable shorts enough i) in
    (leb-true _ _ steps, leb-true _ _ words)

-- the page is 2,048 bytes
pub page_bytes : page_length ≡ 2048
page_bytes = refl

-- 16 words free means sp is at least 528
pub free_words_lem : (free_words ≡ 16) × (first_stack_word + free_words ≡ 528)
free_words_lem = (refl, refl)
