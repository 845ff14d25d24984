-- What paths are made of: each joint is a law that leads from one stand to another, over any stack.
use Prim.Native.Nat.{ℕ, ◌+◌}
use mathlib.Core.Path.{◌≡◌, ap, ◌∙◌}
use mathlib.Core.Bool.{Bool, false}
use mathlib.Core.List.{List}
use native.Mathlib.Omega.{arith}
use lib.ListN.{length}
use Rattle.machine.specs.declared.Core.TheVariants.{Narrow}
use Rattle.machine.specs.Instructions.{Instr, decode}
use Rattle.frame.proofs.Frame.{Frame, Frame.jumped, through}
use Rattle.frame.proofs.Follows.{place_at}
use Rattle.frame.proofs.StraightCode.{ComesThrough, code_runs}
use Rattle.routines.proofs.InPage.{InPage}
use Rattle.paths.proofs.Paths.{Space, stand, Holds, Arrives, Leads}

module _ {S : Space} where
  -- straight code of the page that ends in a jump
  pub jumps : {c p q w : ℕ} {f : Bool} {ws vs u : List ℕ} (is : List Instr) → InPage c is → through S.base is p f ws ≡ jumped w q vs
      → Leads S (length is) (stand c p f ws u) (stand w q false vs u)
  jumps {c} {p} {q} {w} {f} {ws} {vs} {u} is C e = record { from = λ m H. arrives m H (rw e at (run m H)) }
    where
      Ends : Frame → List ℕ → Type 0
      Ends y m = ComesThrough S.base S.end u c (length is) y (place_at c (S.base + p) f m)

      run : (m : List ℕ) → Holds S (stand c p f ws u) m → Ends (through S.base is p f ws) m
      run m H =
          code_runs S.base S.end u is c p f m ws
          (λ j h. ap (decode Narrow) (H.paged (c + j) (omega (arith, C.inside))) ∙ C.each j h)
          (omega (arith, C.inside, S.above)) H.window

      arrives : (m : List ℕ) → Holds S (stand c p f ws u) m → Ends (jumped w q vs) m
          → Arrives S (length is) (place_at c (S.base + p) f m) (stand w q false vs u)
      arrives m H (n, l, (memory, gets, window)) =
          record { count = n; within = l; memory = memory; reached = gets; holds = record { window = window; paged = H.paged } }
