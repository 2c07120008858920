-- what the sources of a text ask for beside the files that they include
use Rattle.std.specs.Prelude.{◌≡◌, ◌⊎◌, ℕ, true, false, List, Option, Some, None, Ok, Err, IsTrue}
use Rattle.std.specs.BTreeSet.{BTreeSet}
use Rattle.std.specs.Global.{Vec}
use Rattle.cck_cache_text.specs.DependencyPragma.{has_dependency}
use Rattle.cck_cache_text.specs.HeaderTests.{AreTests}
use Rattle.cck_cache_text.specs.TestName.{TestFields}
use Rattle.cck_cache_text.specs.Names.{is_named}
use Rattle.cck_cache_text.specs.Sets.{Adds, IsSetOf}
use Rattle.cck_cache_text.specs.Splices.{has_doubtful_lines, unspliced}
use Rattle.cck_cache_text.specs.TestedPaths.{IsPathOfTests}
use Rattle.cck_cache_files.specs.Snapshot.{named_path}
use Rattle.cck_cache_files.specs.declared.sources.Asked.{Asked}
use Rattle.cck_cache_files.specs.declared.sources.Asked.TheVariants.{Paths, Unknown, Time}
use Rattle.cck_cache_files.specs.declared.sources.SourceVerdict.{SourceVerdict}
use Rattle.cck_cache_files.specs.declared.sources.SourceVerdict.TheVariants as verdict
use Rattle.cck_digest.specs.declared.error.FileError.{FileError}
use Rattle.cck_files.specs.FileMap.{FileMap, contents_at}
use Rattle.cck_include.specs.Marks.{Mark}
use Rattle.cck_path.specs.Bytes.{Bytes}
use Rattle.cck_path.specs.Path.{components}

-- the contents of the regular file at a path, if there is one
abbrev pub IsContentsAt : FileMap → Bytes → Option Bytes → Type 0
IsContentsAt files path (Some contents) = contents_at files (components path) ≡ Ok contents
IsContentsAt files path None = (error : FileError) × (contents_at files (components path) ≡ Err error)

-- the same of the file of a name
abbrev pub IsContents : FileMap → Bytes → Bytes → Option Bytes → Type 0
IsContents files directory name = IsContentsAt files (named_path directory name)

-- exactly these are the tests for headers of a source, of which it is known where its lines end; or one can't be judged, or this is not known
abbrev pub AreSourceTests : Bytes → Option (List TestFields) → Type 0
AreSourceTests contents (Some tests) = (has_doubtful_lines contents ≡ false) × AreTests (unspliced contents) (Some tests)
AreSourceTests contents None = (has_doubtful_lines contents ≡ true) ⊎ AreTests (unspliced contents) None

-- a source tests for headers at this path
abbrev pub AsksFor : List Bytes → Bytes → Bytes → Bytes → Type 0
AsksFor directories name contents path = (tests : List TestFields) × AreSourceTests contents (Some tests) × IsPathOfTests directories name tests path

-- it is known at which paths a source tests for headers, and it asks for no time
abbrev pub IsPlainSource : Bytes → Type 0
IsPlainSource contents = (has_dependency (unspliced contents) ≡ false) × ((tests : List TestFields) × AreSourceTests contents (Some tests))

-- what one source asks for: its paths were added
abbrev pub SourceAsks : List Bytes → Bytes → Bytes → BTreeSet (Vec ℕ) → BTreeSet (Vec ℕ) → SourceVerdict → Type 0
SourceAsks directories name contents old new verdict.Paths = IsPlainSource contents × Adds (AsksFor directories name contents) old new
SourceAsks directories name contents old new verdict.Unknown = AreSourceTests contents None
SourceAsks directories name contents old new verdict.Time = has_dependency (unspliced contents) ≡ true

-- these are the contents of a source with one of these names
abbrev pub IsSourceOf : FileMap → Bytes → (Bytes → Type 0) → Bytes → Bytes → Type 0
IsSourceOf files directory IsName name contents = IsName name × IsContents files directory name (Some contents)

-- the same of one that the marks name
abbrev pub IsSource : FileMap → Bytes → List Mark → Bytes → Bytes → Type 0
IsSource files directory marks = IsSourceOf files directory (λ name. IsTrue (is_named marks name))

-- what the sources of these names ask for: exactly these paths; or one of them has tests that can't be judged, or asks for a time
abbrev pub AreAsked : FileMap → Bytes → (Bytes → Type 0) → List Bytes → Asked → Type 0
AreAsked files directory IsName directories (Paths paths) =
    ((name contents : Bytes) → IsSourceOf files directory IsName name contents → IsPlainSource contents)
    × IsSetOf (λ path. (name : Bytes) × (contents : Bytes) × IsSourceOf files directory IsName name contents × AsksFor directories name contents path) paths
AreAsked files directory IsName directories Unknown = (name : Bytes) × (contents : Bytes) × IsSourceOf files directory IsName name contents × AreSourceTests contents None
AreAsked files directory IsName directories Time = (name : Bytes) × (contents : Bytes) × IsSourceOf files directory IsName name contents × (has_dependency (unspliced contents) ≡ true)
