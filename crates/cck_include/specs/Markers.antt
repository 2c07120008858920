-- what a reader of marks has yielded and will yield
use Rattle.std.specs.Prelude.{ℕ, Bool, true, List, [], ◌∷◌, ◌++◌, Option, Some, None}
use Rattle.cck_include.specs.Marks.{Marks}
use Rattle.cck_include.specs.Marks as marks
use Rattle.cck_include.specs.declared.mark.Mark.{Mark}
use Rattle.cck_include.specs.declared.mark.Mark.TheVariants.{Name, Refusal, Malformed}

-- the mark in the definitions that a `Mark` is
abbrev pub mark_of : Mark → marks.Mark
mark_of (Name name is_system_in) = marks.Name name.now is_system_in
mark_of Refusal = marks.Refusal
mark_of Malformed = marks.Malformed

-- what is left of a text, and whether a line starts there
pub record Unread : Type 0 where
  pub starts_line : Bool
  pub text : List ℕ

-- all of a text
abbrev pub unread_text : List ℕ → Unread
unread_text text = record { starts_line = true; text = text }

-- the marks that are not yet read
abbrev pub MarksLeft : Unread → List marks.Mark → Type 0
MarksLeft unread marks = Marks unread.starts_line unread.text marks

-- with these marks before them, the marks that are left now are those that were left before
abbrev pub Yields : Unread → List marks.Mark → Unread → Type 0
Yields old given new = (marks : List marks.Mark) → MarksLeft new marks → MarksLeft old (given ++ marks)

-- the first mark of what was left was yielded, or none was left
abbrev pub YieldsMark : Unread → Option Mark → Unread → Type 0
YieldsMark old None new = MarksLeft old [] × MarksLeft new []
YieldsMark old (Some mark) new = Yields old (mark_of mark ∷ []) new
