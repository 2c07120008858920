-- the base directories that are cut from the key of words with a text
use Rattle.std.specs.Prelude.{◌≡◌, ℕ, List, [], ◌∷◌, ◌++◌, codes}
use Rattle.cck_cache_rules.specs.Argument.{Begins, IsEndOf}
use Rattle.cck_cache_rules.specs.Base.{ArePortable, WordLists}

-- between these parts of a text begins the directory in a line marker of its own: a line with `# 1 "`, the directory and `//"`
abbrev pub IsDirectoryMarker : List ℕ → List ℕ → List ℕ → Type 0
IsDirectoryMarker before after directory =
    IsEndOf before (codes "\n# 1 \"") × Begins after (directory ++ codes "//\"\n")

-- each occurrence of the base directory begins the working directory in the marker of it
abbrev pub IsPortableText : List ℕ → List ℕ → List ℕ → Type 0
IsPortableText text base directory =
    (before after : List ℕ) → text ≡ before ++ (base ++ after) → IsDirectoryMarker before (base ++ after) directory

-- the base directory alone, if the words and the text are portable, and else none
abbrev pub AreBases : WordLists → List ℕ → List (List ℕ) → Type 0
AreBases words text [] = (base : List ℕ) → ArePortable words base → ¬ IsPortableText text base words.directory
AreBases words text (base ∷ []) = ArePortable words base × IsPortableText text base words.directory
AreBases words text (base ∷ other ∷ others) = ⊥
