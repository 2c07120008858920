-- A text, line by line.
use Rattle.std.proofs.Common.{◌≡◌, ◌++◌, append_assoc, refl, ap, sym, ◌∙◌, Option, Some, None, IsSomeAnd}
use Rattle.cck_path.specs.Bytes.{Bytes}
use Rattle.cck_command.specs.MiniPrinted.{both}

-- what is printed so far is after what was there before, and the whole text is that and the text of what is left
pub record IsSoFar (whole : Option Bytes) (before out : Bytes) (left : Option Bytes) : Type 0 where
  pub so_far : Bytes
  pub is_out : out ≡ before ++ so_far
  pub is_whole : whole ≡ both (Some so_far) left

both_both : (a b : Bytes) (rest : Option Bytes) → both (Some a) (both (Some b) rest) ≡ both (Some (a ++ b)) rest
both_both a b None = refl
both_both a b (Some rest) = ap Some (sym (append_assoc a b rest))

-- one line more
pub line_more : (whole : Option Bytes) (before out next : Bytes) (left line rest : Option Bytes) → IsSoFar whole before out left → left ≡ both line rest
    → IsSomeAnd line (λ text. next ≡ out ++ text) → IsSoFar whole before next rest
line_more whole before out next left None rest so is more = absurd more
line_more whole before out next left (Some text) rest so is more = record {
  so_far = so.so_far ++ text;
  is_out = more ∙ ap (λ o. o ++ text) so.is_out ∙ append_assoc before so.so_far text;
  is_whole = so.is_whole ∙ ap (both (Some so.so_far)) is ∙ both_both so.so_far text rest;
}
