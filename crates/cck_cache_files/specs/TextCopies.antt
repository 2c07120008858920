-- files of a text that are copies of each other
use Rattle.std.specs.Prelude.{◌≡◌, ◌⊎◌, Bool, true, List, IsTrue, MatchBool, codes}
use Rattle.cck_cache_files.specs.declared.request.Request.{Request}
use Rattle.cck_cache_files.specs.Copies.{IsPathOfName}
use Rattle.cck_cache_files.specs.ReadOnce.{HasCopies}
use Rattle.cck_cache_text.specs.Names.{is_named}
use Rattle.cck_digest.specs.TimeMacros.{Has}
use Rattle.cck_files.specs.FileMap.{FileMap}
use Rattle.cck_include.specs.Marks.{Mark, Marks}
use Rattle.cck_path.specs.Bytes.{Bytes}

-- a text has the word of a directive that imports a file
abbrev pub MayImport : Bytes → Type 0
MayImport text = Has text (codes "#import ")

-- the absolute path of the input, or of a file that these marks of a text name
abbrev pub IsPathOfText : Request → List Mark → Bytes → Type 0
IsPathOfText request marks = IsPathOfName (λ name. (name ≡ request.input.now) ⊎ IsTrue (is_named marks name)) request.directory.now

-- Two files of a text are copies, or no two are: at two different paths gcc compares the same. It compares each file where the text may import one.
abbrev pub IsCopiesVerdict : FileMap → Request → Bytes → Bool → Type 0
IsCopiesVerdict files request text found =
    (marks : List Mark) → Marks true text marks
    → MatchBool found (HasCopies files (MayImport text) (IsPathOfText request marks)) (¬ (HasCopies files (MayImport text) (IsPathOfText request marks)))
