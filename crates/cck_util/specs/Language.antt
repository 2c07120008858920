-- the languages' names
use Rattle.std.specs.Prelude.{◌≡◌, ◌≢◌, ℕ, List, Bool, true, false, codes, Result, MatchResult}
use Rattle.cck_util.specs.declared.language.Language.{Language}
use Rattle.cck_util.specs.declared.language.UnknownLanguage.{UnknownLanguage}
use Rattle.cck_util.specs.declared.language.Language.TheVariants.{Assembler, AssemblerToPreprocess, C, CHeader, CPreprocessed, Cxx, CxxHeader, CxxPreprocessed, GenericHeader, ObjectiveC, ObjectiveCPreprocessed, ObjectiveCxx, ObjectiveCxxPreprocessed, Cuda, Hip}

-- the name of a language
abbrev pub language_name : Language → List ℕ
language_name Assembler = codes "assembler"
language_name AssemblerToPreprocess = codes "assemblerToPreprocess"
language_name C = codes "c"
language_name CHeader = codes "cHeader"
language_name CPreprocessed = codes "cPreprocessed"
language_name Cxx = codes "c++"
language_name CxxHeader = codes "c++Header"
language_name CxxPreprocessed = codes "c++Preprocessed"
language_name GenericHeader = codes "c/c++"
language_name ObjectiveC = codes "objc"
language_name ObjectiveCPreprocessed = codes "objcPreprocessed"
language_name ObjectiveCxx = codes "objc++"
language_name ObjectiveCxxPreprocessed = codes "objc++Preprocessed"
language_name Cuda = codes "cuda"
language_name Hip = codes "hip"

-- whether an input in the language is preprocessed by the C preprocessor first
abbrev pub is_preprocessed_first : Language → Bool
is_preprocessed_first Assembler = false
is_preprocessed_first CPreprocessed = false
is_preprocessed_first CxxPreprocessed = false
is_preprocessed_first ObjectiveCPreprocessed = false
is_preprocessed_first ObjectiveCxxPreprocessed = false
is_preprocessed_first _ = true

-- the result for a text: the language that it names, or an error exactly if it names none
abbrev pub NamesLanguage : List ℕ → Result Language UnknownLanguage → Type 0
NamesLanguage name read =
    MatchResult read (λ language. language_name language ≡ name) (λ _. (language : Language) → language_name language ≢ name)
