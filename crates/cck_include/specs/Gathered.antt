-- what is recorded of included files
use Rattle.std.specs.Prelude.{ℕ, Bool, true, false, ◌&&◌, List, [], ◌∷◌, map, Option, Some, None, Result, Ok, Err, String}
use Rattle.std.specs.Global.{Vec}
use Rattle.std.specs.Option.{option_map}
use Rattle.std.specs.Ordering.{is_lt, int_cmp, nat_cmp, ordering_then}
use Rattle.std.specs.String.{string_bytes}
use Rattle.std.specs.declared.alloc.Global.{Global}
use Rattle.cck_digest.specs.declared.error.FileError.{FileError}
use Rattle.cck_files.specs.FileMap.{FileMap, metadata_at}
use Rattle.cck_include.specs.Include.{Include}
use Rattle.cck_path.specs.Path.{components}
use Rattle.cck_path.specs.Timestamp.{Moment}
use Rattle.cck_path.specs.declared.metadata.Metadata.{Metadata}

-- a file with its recorded digest: the digest, and the path
abbrev pub Digested : Type 0
Digested = List ℕ × List ℕ

-- whether the time is before `moment`: by its seconds, and within one second by its nanoseconds
abbrev pub is_before : Moment → Moment → Bool
is_before time moment = is_lt (ordering_then (int_cmp time.seconds moment.seconds) (nat_cmp time.nanoseconds moment.nanoseconds))

-- whether both times are known and before `moment`
abbrev pub are_before : Option Moment → Option Moment → Moment → Bool
are_before (Some m) (Some c) moment = is_before m moment && is_before c moment
are_before (Some m) None moment = false
are_before None changed moment = false

-- the time, if it is kept
abbrev pub kept : Bool → Option Moment → Option Moment
kept true time = time
kept false time = None

-- what is recorded of the node at a path: both times, or none
abbrev pub include_of : Moment → Digested → Metadata → Include
include_of moment (digest, path) m =
    let keeps = are_before m.modified m.changed moment in
    record { path = path; digest = digest; size = m.len; modified = kept keeps m.modified; changed = kept keeps m.changed }

abbrev pub include_of_metadata : Moment → Digested → Result Metadata FileError → Option Include
include_of_metadata moment d (Ok m) = Some (include_of moment d m)
include_of_metadata moment d (Err e) = None

-- the same, if there is a node
abbrev pub gathered_include : FileMap → Moment → Digested → Option Include
gathered_include files moment d = include_of_metadata moment d (metadata_at files (components (d.1)))

-- all of them, if none is missing
abbrev pub all_of : {A : Type 0} → List (Option A) → Option (List A)
all_of [] = Some []
all_of (None ∷ os) = None
all_of (Some x ∷ os) = option_map (λ xs. x ∷ xs) (all_of os)

-- what is recorded of all the files, if there is a node at each path
unfoldable pub gathered : FileMap → Moment → List Digested → Option (List Include)
gathered files moment ds = all_of (map (gathered_include files moment) ds)

-- the digests and the paths in a list of pairs
abbrev pub digested_in : List (String Global × Vec ℕ) → List Digested
digested_in ps = map (λ p. (string_bytes (p.0), p.1.items)) ps
