-- a mark that is no name is the last one
use Rattle.std.proofs.Common.{◌≡◌, ℕ, Bool, List, [], ◌∷◌, ◌++◌, refl}
use Rattle.cck_include.specs.Marks.{Mark, Name, Refusal, Malformed, Marks, at_end, unnamed, named, malformed, hidden, hidden_to_end, refused, plain}
use Rattle.cck_include.proofs.OneList.{middle_some}

-- nothing follows a mark that is no name
abbrev Ends : List Mark → Type 0
Ends [] = Unit {0}
Ends (Name name is_system_in ∷ marks) = Ends marks
Ends (Refusal ∷ marks) = marks ≡ []
Ends (Malformed ∷ marks) = marks ≡ []

ends : {starts_line : Bool} {text : List ℕ} {marks : List Mark} → Marks starts_line text marks → Ends marks
ends (at_end is none) = rw none tt
ends (unnamed is marker more) = ends more
ends (named is marker marks more same) = rw same (ends more)
ends (malformed is no_line no_name same) = rw same refl
ends (hidden is front rest cut free more) = ends more
ends (hidden_to_end is free none) = rw none tt
ends (refused is same) = rw same refl
ends (plain is byte rest cut more) = ends more

last_incbin : (before following : List Mark) → Ends (before ++ Refusal ∷ following) → following ≡ []
last_incbin [] following h = h
last_incbin (Name name is_system_in ∷ before) following h = last_incbin before following h
last_incbin (Refusal ∷ before) following h = absurd (middle_some before Refusal following h)
last_incbin (Malformed ∷ before) following h = absurd (middle_some before Refusal following h)

last_malformed : (before following : List Mark) → Ends (before ++ Malformed ∷ following) → following ≡ []
last_malformed [] following h = h
last_malformed (Name name is_system_in ∷ before) following h = last_malformed before following h
last_malformed (Refusal ∷ before) following h = absurd (middle_some before Malformed following h)
last_malformed (Malformed ∷ before) following h = absurd (middle_some before Malformed following h)

pub nothing_after_incbin : (starts_line : Bool) (text : List ℕ) (before following : List Mark) → Marks starts_line text (before ++ Refusal ∷ following) → following ≡ []
nothing_after_incbin starts_line text before following marks = last_incbin before following (ends marks)

pub nothing_after_malformed : (starts_line : Bool) (text : List ℕ) (before following : List Mark) → Marks starts_line text (before ++ Malformed ∷ following) → following ≡ []
nothing_after_malformed starts_line text before following marks = last_malformed before following (ends marks)
