-- The numbers of the page and of demand 3, each in one place.
use Rattle.std.specs.Prelude.{ℕ, ◌/◌}

-- the bytes of the page
abbrev pub page_length : ℕ
page_length = 2048

-- the first word above the page
abbrev pub first_stack_word : ℕ
first_stack_word = page_length / 4

-- the words directly below sp that a short instruction has free
abbrev pub free_words : ℕ
free_words = 16

-- the narrow steps for a wide one, at most
abbrev pub step_bound : ℕ
step_bound = 200
