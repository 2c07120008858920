-- why a compilation is not recorded
use Rattle.std.specs.Prelude.{◌≡◌, ◌≢◌, ℕ, List, Bool, true, false, Option, Some, None, codes}
use Rattle.cck_cache_rules.specs.declared.refusal.Refusal.{Refusal}
use Rattle.cck_cache_rules.specs.declared.refusal.Refusal.TheVariants.{NoKey, InputChanged, DayChanged, NoSearchList, UnknownHeader, HeaderTest, DependencyPragma, AssemblerInclude, OtherFile, EarlierPath, NamedFile, BaseDirectory}

-- the name under which it is counted
abbrev pub refusal_name : Refusal → List ℕ
refusal_name NoKey = codes "refused-no-key"
refusal_name InputChanged = codes "refused-input-changed"
refusal_name DayChanged = codes "refused-day-changed"
refusal_name NoSearchList = codes "refused-no-search-list"
refusal_name UnknownHeader = codes "refused-unknown-header"
refusal_name HeaderTest = codes "refused-header-test"
refusal_name DependencyPragma = codes "refused-dependency-pragma"
refusal_name AssemblerInclude = codes "refused-assembler-include"
refusal_name OtherFile = codes "refused-other-file"
refusal_name EarlierPath = codes "refused-earlier-path"
refusal_name NamedFile = codes "refused-named-file"
refusal_name BaseDirectory = codes "refused-base-directory"

-- The preprocessor key that was found, that of the look-up, and whether both are of one day. The first of these that keeps a compilation from being
-- recorded is its cause.
abbrev pub IsRefusal : Option (List ℕ) → List ℕ → Bool → Option Refusal → Type 0
IsRefusal found key one_day None = (found ≡ Some key) × (one_day ≡ true)
IsRefusal found key one_day (Some NoKey) = found ≡ None
IsRefusal found key one_day (Some InputChanged) = (other : List ℕ) × (found ≡ Some other) × (other ≢ key)
IsRefusal found key one_day (Some DayChanged) = (found ≡ Some key) × (one_day ≡ false)
IsRefusal found key one_day (Some HeaderTest) = ⊥
IsRefusal found key one_day (Some DependencyPragma) = ⊥
IsRefusal found key one_day (Some NoSearchList) = ⊥
IsRefusal found key one_day (Some UnknownHeader) = ⊥
IsRefusal found key one_day (Some AssemblerInclude) = ⊥
IsRefusal found key one_day (Some OtherFile) = ⊥
IsRefusal found key one_day (Some EarlierPath) = ⊥
IsRefusal found key one_day (Some NamedFile) = ⊥
IsRefusal found key one_day (Some BaseDirectory) = ⊥
