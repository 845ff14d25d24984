-- Code that stands in the page.
use Prim.Native.Nat.{ℕ, ◌+◌, ◌≤◌, ◌<◌}
use mathlib.Core.Path.{◌≡◌, sym, ap, ◌∙◌}
use mathlib.Core.List.{List, map}
use lib.ListN.{length, get_or, take, drop, get_or-map}
use lib.Seq.{get_or-take, get_or-drop}
use Rattle.machine.specs.declared.Core.TheVariants.{Narrow}
use Rattle.machine.specs.Instructions.{Instr, Instr.BREAK, decode, below32}
use Rattle.frame.proofs.StraightCode.{Code}
use Rattle.routines.specs.Constants.{page_length}
use Rattle.routines.specs.Routines.{Line}
use Rattle.routines.specs.Page.{page}

-- the instructions of lines
abbrev pub code : List Line → List Instr
code ls = map (λ l. l.1) ls

-- the page has this code from address c on
pub record InPage (c : ℕ) (is : List Instr) : Type 0 where
  pub inside : c + length is ≤ page_length
  pub each : Code page c is

-- the n bytes of the page from address c on
abbrev pub bytes_at : ℕ → ℕ → List ℕ
bytes_at c n = take n (drop c page)

pub byte_at : (c n j : ℕ) → j < n → get_or (bytes_at c n) j 0 ≡ get_or page (c + j) 0
byte_at c n j h = get_or-take n (drop c page) j 0 h ∙ get_or-drop c page j 0

abbrev pub code_at : ℕ → ℕ → List Instr
code_at c n = map (decode Narrow) (bytes_at c n)

-- what the bytes of the page decode to
pub stands : (c : ℕ) (is : List Instr) → code_at c (length is) ≡ is → c + length is ≤ page_length → InPage c is
unfolding decode below32
stands c is same inside = record {
  inside = inside;
  each = λ j h.
      ap (decode Narrow) (sym (byte_at c (length is) j h)) ∙ sym (get_or-map (decode Narrow) (bytes_at c (length is)) j 0)
      ∙ ap (λ (l : List Instr). get_or l j BREAK) same;
}
