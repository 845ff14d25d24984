-- What a short instruction owes, said by the wide core's own step: the narrow core does the same by the page, within the
-- instruction's own steps, but for what it leaves behind in its own words below sp and in those that it pops off.
use Rattle.std.specs.Prelude.{ℕ, ◌+◌, ◌≤◌, ◌<◌, ◌≡◌, true, false, not, ◌&&◌, length, get_or, take}
use Rattle.std.proofs.Math.Option.{some}
use Rattle.memory.specs.Memory.{good_length}
use Rattle.machine.specs.declared.Core.TheVariants.{Narrow, Wide}
use Rattle.machine.specs.State.{Place, fetched}
use Rattle.machine.specs.Table.{step_of}
use Rattle.machine.specs.Run.{steps}
use Rattle.routines.specs.Constants.{page_length, first_stack_word}
use Rattle.routines.specs.Page.{page}
use Rattle.routines.specs.Shorts.{Short}
use Rattle.emulation.specs.LeftBehind.{Dirt, writes, leaves}

-- a start with our microcode page in place
pub record WithPage (p : Place) : Type 0 where
  pub good_length : good_length (length p.memory) ≡ true
  pub bytes : (a : ℕ) → get_or p.memory a 0 < 256
  pub page_in_place : take page_length p.memory ≡ page

-- x is q but for dirty bytes
pub record Alike (dirty : Dirt) (q x : Place) : Type 0 where
  pub same_state : x.state ≡ q.state
  pub same_length : length x.memory ≡ length q.memory
  pub same_bytes : (a : ℕ) → dirty a ≡ false → get_or x.memory a 0 ≡ get_or q.memory a 0

-- the narrow core reaches from p, in at most `bound` steps, what is q but for dirty bytes
pub record Reached (bound : ℕ) (p q : Place) (dirty : Dirt) : Type 0 where
  pub count : ℕ
  pub within_bound : count ≤ bound
  pub end : Place
  pub reached : steps Narrow count p ≡ some end
  pub alike : Alike dirty q end

-- what a short one leaves dirty, by its step from p to q, if it uses w words below sp: what the step writes is clean
abbrev pub dirt_of : ℕ → Place → Place → Dirt
dirt_of w p q x = not (writes (step_of Wide p) x) && leaves w p.state.sp.0 q.state.sp.0 x

-- what o owes: where the wide core goes from p to q by o's byte, with the page in place and o's words free above the page, the narrow
-- core reaches q from p in at most o's steps, but for o's dirt
abbrev pub Emulated : Short → Type 0
Emulated o =
    (p q : Place) → WithPage p → fetched p ≡ o.byte → first_stack_word + o.words ≤ p.state.sp.0 → steps Wide 1 p ≡ some q
    → Reached o.steps p q (dirt_of o.words p q)
