-- Pieces: what of a text lies in no cut, one part after the other.
use Rattle.std.specs.Prelude.{◌≡◌, ℕ, ◌+◌, ◌<◌, ◌≤◌, List, ◌++◌, Bool, true, false, length, drop}
use Rattle.cck_strip.specs.Cuts.{stripped}

-- what remains of the text from a place on, of which no earlier cut takes a byte
abbrev pub stripped_from : (ℕ → ℕ) → List ℕ → ℕ → List ℕ
stripped_from site text place = stripped (λ k. site (place + k)) (drop place text)

-- from the place `copied` on no site starts before the place `from`
pub record IsPassed (site : ℕ → ℕ) (n copied from : ℕ) : Type 0 where
  pub from_on : copied ≤ from
  pub within : from ≤ n
  pub none : (k : ℕ) → copied ≤ k → k < from → site k ≡ 0

-- this piece is next from the place `copied` on, and after it and the site where it ends the place `next` follows. The
-- first piece ends at a site.
pub record IsNextPiece (site : ℕ → ℕ) (text piece : List ℕ) (is_first : Bool) (copied next : ℕ) : Type 0 where
  pub is : piece ++ stripped_from site text next ≡ stripped_from site text copied
  pub next_is : next ≡ copied + length piece + site (copied + length piece)
  pub further : copied < next
  pub first : is_first ≡ true → 0 < site (copied + length piece)

-- from the place `copied` on no piece is left: nothing is cut, or the text ends
pub record IsEnd (site : ℕ → ℕ) (text : List ℕ) (is_cut : Bool) (copied : ℕ) : Type 0 where
  pub uncut : is_cut ≡ false → (k : ℕ) → copied ≤ k → site k ≡ 0
  pub cut : is_cut ≡ true → copied ≡ length text
