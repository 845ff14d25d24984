-- Paths of the narrow core through the page: from one stand to another in at most n steps, joined one after another.
use Prim.Native.Nat.{ℕ, ◌+◌, ◌≤◌, ◌<◌}
use mathlib.Core.Path.{◌≡◌, ◌∙◌}
use mathlib.Core.Bool.{Bool}
use mathlib.Core.List.{List}
use mathlib.Core.Option.{some}
use native.Mathlib.Omega.{arith}
use lib.ListN.{get_or}
use Rattle.machine.specs.declared.Core.TheVariants.{Narrow}
use Rattle.machine.specs.State.{Place}
use Rattle.machine.specs.Run.{steps}
use Rattle.laws.proofs.Steps.{steps_add}
use Rattle.frame.proofs.Window.{Window}
use Rattle.frame.proofs.Follows.{place_at}
use Rattle.routines.specs.Constants.{page_length, first_stack_word}
use Rattle.routines.specs.Page.{page}

-- the page is in place
abbrev pub Paged : List ℕ → Type 0
Paged m = (x : ℕ) → x < page_length → get_or m x 0 ≡ get_or page x 0

-- a window above the page
pub record Space : Type 0 where
  pub base : ℕ
  pub end : ℕ
  pub above : first_stack_word ≤ base

-- the counter, the words free below sp, the flag, the words from sp up, and the memory around the window
pub record Stand : Type 0 where
  pub counter : ℕ
  pub free : ℕ
  pub flag : Bool
  pub words : List ℕ
  pub around : List ℕ

abbrev pub stand : ℕ → ℕ → Bool → List ℕ → List ℕ → Stand
stand c p f ws u = record { counter = c; free = p; flag = f; words = ws; around = u }

module _ (S : Space) where
  -- memory is as x says
  pub record Holds (x : Stand) (m : List ℕ) : Type 0 where
    pub window : Window S.base S.end x.free x.around m x.words
    pub paged : Paged x.around

  abbrev pub placed : Stand → List ℕ → Place
  placed x m = place_at x.counter (S.base + x.free) x.flag m

  -- from p the narrow core gets to where y says in at most n steps
  pub record Arrives (n : ℕ) (p : Place) (y : Stand) : Type 0 where
    pub count : ℕ
    pub within : count ≤ n
    pub memory : List ℕ
    pub reached : steps Narrow count p ≡ some (placed y memory)
    pub holds : Holds y memory

  -- from wherever memory is as x says
  pub record Leads (n : ℕ) (x y : Stand) : Type 0 where
    pub from : (m : List ℕ) → Holds x m → Arrives n (placed x m) y

module _ {S : Space} where
  infixl 5 ◌then◌
  pub ◌then◌ : {n k : ℕ} {p : Place} {x y : Stand} → Arrives S n p x → Leads S k x y → Arrives S (n + k) p y
  ◌then◌ {p = p} {x = x} a l =
      let b = l.from a.memory a.holds in
      record {
        count = a.count + b.count;
        within = omega (arith, a.within, b.within);
        memory = b.memory;
        reached = steps_add Narrow a.count b.count p (placed S x a.memory) a.reached ∙ b.reached;
        holds = b.holds;
      }
