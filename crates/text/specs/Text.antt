-- Text in a lent buffer.
use Rattle.std.specs.Prelude.{ℕ, ◌+◌, ◌≤◌, ◌≡◌, List, length}
use Rattle.std.proofs.lemmas.List.Edits.{sets}
use Rattle.text.specs.declared.Text.{Text}

-- the bytes t are put where p's text ends and nothing else has changed
pub record Puts (t : List ℕ) (p p' : Text) : Type 0 where
  pub same_buffer : p'.out.ghost_name ≡ p.out.ghost_name
  pub same_length : length p'.out.now ≡ length p.out.now
  pub place : p'.at ≡ p.at + length t
  pub bytes : p'.out.now ≡ sets p.out.now p.at t

-- n bytes more fit
abbrev pub Room : ℕ → Text → Type 0
Room n p = p.at + n ≤ length p.out.now
