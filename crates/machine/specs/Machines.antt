-- What the methods of a machine and the instructions promise of it.
use Rattle.std.specs.Prelude.{◌≡◌, ℕ, ◌-◌, ◌*◌, ◌/◌, ◌<◌, ◌≤◌, List, length, MatchResult}
use Rattle.std.specs.declared.result.Result.{Result}
use Rattle.memory.specs.declared.WordIndex.{WordIndex}
use Rattle.memory.specs.Memory.{set_bytes}
use Rattle.machine.specs.declared.Outcome.{Outcome}
use Rattle.machine.specs.declared.Outcome.TheVariants.{Stack}
use Rattle.machine.specs.declared.Way.{Way}
use Rattle.machine.specs.declared.Answer.{Answer}
use Rattle.machine.specs.declared.machine.Machine.{Machine}
use Rattle.machine.specs.State.{Place, place}
use Rattle.machine.specs.Instructions.{Instr}
use Rattle.machine.specs.Effects.{Effect}
use Rattle.machine.specs.Table.{effect_of}
use Rattle.machine.specs.Inner.{Carried, answered}

-- where a machine stands
abbrev pub at : Machine → Place
at p = place p.image.now p.state

-- q is p with the memory m: in the same state, and of the same image
pub record With (p : Machine) (m : List ℕ) (q : Machine) : Type 0 where
  pub memory : q.image.now ≡ m
  pub state : q.state ≡ p.state
  pub image : q.image.ghost_name ≡ p.image.ghost_name

-- the k low bytes of v stand at address a
abbrev pub Stores : Machine → ℕ → ℕ → ℕ → Machine → Type 0
Stores p a k v q = With p (set_bytes p.image.now a k v) q

-- word w is v
abbrev pub Writes : Machine → ℕ → ℕ → Machine → Type 0
Writes p w v q = Stores p (4 * w) 4 v q

-- word w, or STACK where its index is W or more
abbrev pub WordOrStack : Machine → ℕ → Result WordIndex Outcome → Type 0
WordOrStack p w r =
    MatchResult r
    (λ x. (x.0 ≡ w) × (w < length p.image.now / 4))
    (λ o. (o ≡ Stack) × (length p.image.now / 4 ≤ w))

-- word sp - 1 is v and answered, or STACK where sp is 0, and nothing is done
abbrev pub Pushes : Machine → ℕ → Result WordIndex Outcome → Machine → Type 0
Pushes p v r q =
    MatchResult r
    (λ x. (0 < p.state.sp.0) × (x.0 ≡ p.state.sp.0 - 1) × Writes p (p.state.sp.0 - 1) v q)
    (λ o. (o ≡ Stack) × (p.state.sp.0 ≡ 0) × With p p.image.now q)

-- the effect e was carried out at p: r was answered, and q is left, in p's state; to move it on is the caller's
pub record Carries (p : Machine) (e : Effect) (r : Answer) (q : Machine) : Type 0 where
  pub carried : Carried p.image.now p.state e r q.image.now
  pub state : q.state ≡ p.state
  pub image : q.image.ghost_name ≡ p.image.ghost_name

-- the instruction i was carried out at p, and goes by a way or is refused
abbrev pub Does : Machine → Instr → Result Way Outcome → Machine → Type 0
Does p i w q = Carries p (effect_of p.image.now p.state i) (answered p.state w) q
