-- the files that an entry names
use Rattle.std.specs.Prelude.{◌≡◌, List, Contains}
use Rattle.std.specs.FinMap.{entries}
use Rattle.cck_entry.specs.Entry.{Entry}
use Rattle.cck_entry.specs.Results.{KeyResult}
use Rattle.cck_include.specs.Include.{Include}
use Rattle.cck_path.specs.Bytes.{Bytes}

-- one of these files
abbrev pub IsIncludeOf : List Include → Bytes → Type 0
IsIncludeOf includes path = (include : Include) × Contains includes include × (include.path ≡ path)

-- a file that a result of an entry included
abbrev pub IsIncluded : Entry → Bytes → Type 0
IsIncluded entry path = (found : KeyResult) × Contains (entries entry) found × IsIncludeOf (found.1) path
