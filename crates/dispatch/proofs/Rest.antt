-- What is left of the bytes below 64 once those of the arms are gone: ADDSP, and the illegal ones.
use Rattle.std.proofs.Common.{◌≡◌, ℕ, zero, suc, ◌+◌, ◌-◌, ◌/◌, ◌%◌, ◌<◌, Bool, false, cond, ◌||◌, List, [], ◌∷◌, eqb, get_or, refl, ◌∙◌, arith, le-ltb, lt-ltb}
use Rattle.std.proofs.lemmas.Bool.{eq-eqb, ne_eqb}
use Rattle.std.proofs.lemmas.List.{get_or-replicate}
use Rattle.std.proofs.Math.Decide.{dec_lt}
use Rattle.machine.specs.declared.Core.TheVariants.{Wide}
use Rattle.machine.specs.Instructions.{Instr, Instr.ADDSP, Instr.ILLEGAL, below16, wide32to63, below32, below64, decode, among}
use Rattle.dispatch.specs.Families.{families}

-- what the last arm of a match on the keys knows, T before it
abbrev pub NoneOf : Type 0 → List ℕ → ℕ → Type 0
NoneOf T [] n = T
NoneOf T (k ∷ ks) n = NoneOf (T × (n ≡ k → ⊥)) ks n

tested : (T : Type 0) (ks : List ℕ) (n : ℕ) → NoneOf T ks n → T × (among n ks ≡ false)
tested T [] n r = (r, refl)
tested T (k ∷ ks) n r =
    let (p, e) : (T × (n ≡ k → ⊥)) × (among n ks ≡ false) = tested (T × (n ≡ k → ⊥)) ks n r
    in (p.0, rw (ne_eqb n k p.1) e)

pub none : (ks : List ℕ) (n : ℕ) → NoneOf (Unit {0}) ks n → among n ks ≡ false
none ks n r = (tested (Unit {0}) ks n r).1

-- a list whose first place is j, without the instructions at the places that are among the keys
abbrev without : (ℕ → Bool) → ℕ → List Instr → List Instr
without gone j [] = []
without gone j (x ∷ l) = cond (gone j) ILLEGAL x ∷ without gone (suc j) l

left : (gone : ℕ → Bool) (l : List Instr) (j i n : ℕ) → n ≡ j + i → gone n ≡ false → get_or l i ILLEGAL ≡ get_or (without gone j l) i ILLEGAL
left gone [] j i n p e = refl
left gone (x ∷ l) j zero n p e = let q : j ≡ n = omega arith in rw (q, e) refl
left gone (x ∷ l) j (suc i) n p e = left gone l (suc j) i n (omega arith) e

-- the bytes of the other instructions, but for ADDSP
abbrev pub others : List ℕ
others = 0 ∷ 2 ∷ 4 ∷ 11 ∷ 13 ∷ 45 ∷ 55 ∷ 56 ∷ 57 ∷ 59 ∷ 61 ∷ 63 ∷ []

abbrev listed : ℕ → Bool
listed n = among n families || among n others

pub rest : (b : ℕ) → b < 64 → among b families ≡ false → among b others ≡ false
    → decode Wide b ≡ cond (eqb (b / 16) 1) (ADDSP (b % 16)) ILLEGAL
unfolding decode below32 below64
rest b h w m =
    let e : listed b ≡ false = rw (w, m) refl in
    elim (dec_lt b 16) [
      | yes l ↦ rw (lt-ltb b 32 (omega arith), lt-ltb b 16 l, ne_eqb (b / 16) 1 (λ q. omega arith))
          (left listed below16 0 b b (omega arith) e ∙ get_or-replicate 16 b ILLEGAL ILLEGAL l)
      | no l ↦ elim (dec_lt b 32) [
        | yes k ↦ rw (lt-ltb b 32 k, le-ltb b 16 (omega arith), eq-eqb (b / 16) 1 (omega arith)) refl
        | no k ↦ rw (le-ltb b 32 (omega arith), lt-ltb b 64 h, ne_eqb (b / 16) 1 (λ q. omega arith))
            (left listed wide32to63 32 (b - 32) b (omega arith) e ∙ get_or-replicate 32 (b - 32) ILLEGAL ILLEGAL (omega arith))
      ]
    ]
