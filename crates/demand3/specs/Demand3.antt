-- Demand 3. Take a start with our microcode page in place and any run of n wide steps using core instructions and the twelve
-- short ones. Say none stops or is refused, none writes to the page, each short one has 16 words free above the page, and
-- nothing reads a byte left dirty by one. Then the narrow core, as demand 2 defines it, reaches in at most 200 times n steps
-- the same program counter, stack pointer, immediate flag and every byte that isn't dirty.
use Rattle.std.specs.Prelude.{ℕ, zero, suc, ◌+◌, ◌*◌, ◌≤◌, ◌<◌, ◌≡◌, Bool, false, not, ◌||◌, List, [], ◌∷◌, ◌++◌, map, T}
use Rattle.std.proofs.Math.Option.{some}
use Rattle.machine.specs.declared.Core.TheVariants.{Wide}
use Rattle.machine.specs.State.{Place, fetched}
use Rattle.machine.specs.Effects.{landed}
use Rattle.machine.specs.Instructions.{decode}
use Rattle.machine.specs.Table.{Row, row, step_of}
use Rattle.machine.specs.Run.{steps}
use Rattle.routines.specs.Constants.{page_length, first_stack_word, free_words, step_bound}
use Rattle.emulation.specs.LeftBehind.{Dirt, between, writes}
use Rattle.emulation.specs.Emulation.{WithPage, Reached}
use Rattle.demand3.specs.Dirt.{clean, is_short, dirtied}

-- a core instruction: none of the bytes 32 to 63
abbrev pub is_core : ℕ → Bool
is_core b = not (between 32 64 b)

-- what a row reads, by address and number of bytes: its stack words, and what it loads
abbrev pub spans : Row → List (ℕ × ℕ)
spans r = map (λ w. (4 * w, 4)) r.reads ++ r.loads

-- none of the k bytes from a is dirty
unfoldable pub Clean : Dirt → ℕ → ℕ → Type 0
Clean d a k = (j : ℕ) → j < k → d (a + j) ≡ false

abbrev pub AllClean : Dirt → List (ℕ × ℕ) → Type 0
AllClean d [] = Unit {0}
AllClean d (b ∷ bs) = Clean d b.0 b.1 × AllClean d bs

-- what is asked of a step from p, d being the dirt before it
pub record Allowed (p : Place) (d : Dirt) : Type 0 where
  pub core_or_short : T (is_core (fetched p) || is_short (fetched p))
  -- none writes to the page
  pub page_kept : (a : ℕ) → T (writes (step_of Wide p) a) → page_length ≤ a
  -- each short one has its words free above the page
  pub room : T (is_short (fetched p)) → first_stack_word + free_words ≤ p.state.sp.0
  -- nothing reads a byte left dirty: neither the fetch, nor the stack's reads, nor LOAD
  pub fetch_clean : d p.state.pc.0 ≡ false
  pub reads_clean : AllClean d (spans (row p.memory p.state (decode Wide (fetched p))))

-- each of n wide steps from p is allowed
unfoldable pub AllAllowed : ℕ → Place → Dirt → Type 0
AllAllowed zero p d = Unit {0}
AllAllowed (suc n) p d = Allowed p d × AllAllowed n (landed (step_of Wide p) p) (dirtied (step_of Wide p) p d)

-- the dirt after n wide steps from p
unfoldable pub dirt_after : ℕ → Place → Dirt → Dirt
dirt_after zero p d = d
dirt_after (suc n) p d = dirt_after n (landed (step_of Wide p) p) (dirtied (step_of Wide p) p d)

-- a run of n wide steps from p to q, none of which stops or is refused
pub record WideRun (n : ℕ) (p q : Place) : Type 0 where
  pub none_stops : steps Wide n p ≡ some q
  pub all_allowed : AllAllowed n p clean

-- and then the narrow core reaches the same state and every byte that is not dirty
abbrev pub Demand3 : Type 0
Demand3 = (n : ℕ) (p q : Place) → WithPage p → WideRun n p q → Reached (step_bound * n) p q (dirt_after n p clean)
