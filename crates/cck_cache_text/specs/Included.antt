-- the headers that a text includes, by the lines that gcc writes of them with `-dI`, and that arguments include
use Rattle.std.specs.Prelude.{◌≡◌, ℕ, ◌+◌, ◌<◌, ◌⊎◌, Bool, true, false, List, [], ◌∷◌, ◌++◌, Contains, Some, codes, length, nat_eq, slice_get}
use Rattle.std.specs.List.{starts_with}
use Rattle.cck_cache_text.specs.SearchList.{text_lines}
use Rattle.cck_cache_text.specs.Sets.{Adds, IsSetOf}
use Rattle.cck_cache_text.specs.declared.included.Included.{Included}

-- the word at the front of a line of a directive that includes a file, with the space after it
abbrev pub IsIncludeWord : List ℕ → Type 0
IsIncludeWord word = (word ≡ codes "#include ") ⊎ ((word ≡ codes "#include_next ") ⊎ (word ≡ codes "#import "))

-- A name is followed by what closes it, and by anything. The name itself may have that, and so may a comment after it.
abbrev pub IsClosedBy : List ℕ → List ℕ → List ℕ → Type 0
IsClosedBy close text name = (rest : List ℕ) × (text ≡ name ++ (close ++ rest))

-- a line begins with this, and then a name follows
abbrev pub IsAfter : List ℕ → List ℕ → List ℕ → List ℕ → Type 0
IsAfter front close line name = (rest : List ℕ) × (line ≡ front ++ rest) × IsClosedBy close rest name

-- a line begins as one that includes a header
abbrev pub may_include : List ℕ → Bool
may_include line = starts_with nat_eq line (codes "#i")

-- a line includes the header of this name, between these two bytes
abbrev pub Includes : ℕ → ℕ → List ℕ → List ℕ → Type 0
Includes first close line name = (word : List ℕ) × IsIncludeWord word × IsAfter (word ++ first ∷ []) (close ∷ []) line name

-- a line includes the header of this name, in quotes or in brackets
abbrev pub IncludesHeader : List ℕ → List ℕ → Bool → Type 0
IncludesHeader line name true = Includes 34 34 line name
IncludesHeader line name false = Includes 60 62 line name

-- an option that includes a file
abbrev pub IsIncludeOption : List ℕ → Type 0
IsIncludeOption option = (option ≡ codes "-include") ⊎ (option ≡ codes "-imacros")

-- the argument at this place has this name after the option; or it is the option, and the next one is the name
abbrev pub IsGivenTo : List ℕ → List (List ℕ) → ℕ → List ℕ → Type 0
IsGivenTo option arguments place name =
    ((0 < length name) × (slice_get arguments place ≡ Some (option ++ name)))
    ⊎ ((slice_get arguments place ≡ Some option) × (slice_get arguments (place + 1) ≡ Some name))

-- an argument includes the file of this name
abbrev pub IsGivenAt : List (List ℕ) → ℕ → List ℕ → Type 0
IsGivenAt arguments place name = (option : List ℕ) × IsIncludeOption option × IsGivenTo option arguments place name

-- one of the arguments does
abbrev pub IsGiven : List (List ℕ) → List ℕ → Type 0
IsGiven arguments name = (place : ℕ) × (place < length arguments) × IsGivenAt arguments place name

-- one of these lines includes the header of this name
abbrev pub IsIncludedBy : List (List ℕ) → Bool → List ℕ → Type 0
IsIncludedBy lines is_quoted name = (line : List ℕ) × Contains lines line × IncludesHeader line name is_quoted

-- the text or, as in quotes, the arguments include the header of this name
abbrev pub IsHeader : List ℕ → List (List ℕ) → Bool → List ℕ → Type 0
IsHeader text arguments true name = IsIncludedBy (text_lines text) true name ⊎ IsGiven arguments name
IsHeader text arguments false name = IsIncludedBy (text_lines text) false name

-- the names in these lines were added
pub record AddsLines (lines : List (List ℕ)) (old new : Included) : Type 0 where
  pub quoted : Adds (IsIncludedBy lines true) old.quoted new.quoted
  pub bracketed : Adds (IsIncludedBy lines false) old.bracketed new.bracketed

-- exactly the names of the headers that the text and the arguments include
pub record AreIncluded (text : List ℕ) (arguments : List (List ℕ)) (included : Included) : Type 0 where
  pub quoted : IsSetOf (IsHeader text arguments true) included.quoted
  pub bracketed : IsSetOf (IsHeader text arguments false) included.bracketed
