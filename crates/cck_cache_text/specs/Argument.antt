-- arguments that may make a source depend on a file that it does not include
use Rattle.std.specs.Prelude.{ℕ, ◌<◌, ◌⊎◌, Bool, ◌&&◌, ◌||◌, List, IsTrue, length, drop, codes}
use Rattle.cck_cache_text.specs.TestName.{is_test_word}
use Rattle.cck_cache_text.specs.DependencyPragma.{ends_dependency, is_dependency_line}
use Rattle.cck_digest.specs.TimeMacros.{has}

-- an argument may have a pragma of dependency, or a part of one as the value of a macro
abbrev pub is_dependency_argument : List ℕ → Bool
is_dependency_argument text = is_dependency_line text || (ends_dependency text && has text (codes "="))

-- a text has a name of a test for a header, or the beginning of one, or may have a pragma that compares the times of files
abbrev pub MayAskForFile : List ℕ → Type 0
MayAskForFile text = ((place : ℕ) × (place < length text) × IsTrue (is_test_word (drop place text))) ⊎ IsTrue (is_dependency_argument text)
