-- what a walk takes of a call, and the meaning of its result
use Rattle.std.specs.Prelude.{◌≡◌, ◌⊎◌, ◌↔◌, List, Some, map, Result, Ok, Err}
use Rattle.std.specs.FinMap.{entries}
use Rattle.cck_include.specs.Gathered.{Digested, gathered}
use Rattle.cck_include.specs.Include.{Include}
use Rattle.cck_digest.specs.declared.key_error.KeyError.{KeyError}
use Rattle.cck_digest.specs.declared.key_error.KeyError.TheVariants.{Memory, Marker}
use Rattle.cck_path.specs.Bytes.{Bytes}
use Rattle.cck_path.specs.Path.{components}
use Rattle.cck_path.specs.Text.{path_text}
use Rattle.cck_hasher.specs.Decided.{Accepts, Context, Decided, Digests, IsRefused}
use Rattle.cck_hasher.specs.Decided as decision
use Rattle.cck_hasher.specs.declared.walk.Walk as walk
use Rattle.cck_hasher.specs.declared.walk.Walk.TheVariants as walked
use Rattle.cck_hasher.specs.Call.{Call}
use Rattle.cck_hasher.specs.Included.{digested_of}
use Rattle.cck_hasher.specs.Walk.{Accepted, AreRecorded, Errs, NotAccepted, Verdict, Walk, input_path}
use Rattle.cck_hasher.specs.World.{World, setting}

-- how a call's files are judged, the files, the input, and the directory from which names are resolved
abbrev pub walk_context : {V : Type 0} → World V → Call V → Context
walk_context w c = record {
  setting = setting w c;
  files = c.files;
  input = components (input_path c);
  cwd = components c.request.cwd;
}

-- the verdict that marks decide
abbrev pub verdict_of : Decided → Verdict
verdict_of (Accepts digests) = Accepted
verdict_of IsRefused = NotAccepted
verdict_of decision.Errs = Errs

-- digests with the paths that they are of, in the order of the paths
abbrev pub digested_by : Digests → List Digested
digested_by digests = map (λ e. (e.1, path_text (e.0))) (entries digests)

-- the digests in included files, with their paths
abbrev pub digested_as : List Include → List Digested
digested_as includes = map (λ i. (i.digest, i.path)) includes

-- The verdict on a text is what its marks decide, name by name, and the digests of an accepted text are those of all regular files
-- that it names.
abbrev pub VerdictIsDecided : {V : Type 0} → World V → Type 0
VerdictIsDecided {V} w =
    (c : Call V) (text : Bytes)
    → ((verdict : Verdict) → Walk w c text verdict ↔ ((d : Decided) × decision.TextDecides (walk_context w c) text d × (verdict_of d ≡ verdict)))
    × ((digests : Digests) → decision.TextDecides (walk_context w c) text (Accepts digests) → (includes : List Include) × AreRecorded w c text includes × (digested_as includes ≡ digested_by digests))

-- The result of a walk over a call's text: its verdict, and for an accepted text the files of which something is recorded, and what is
-- gathered of these. With a fault the text may be refused whatever its verdict.
abbrev pub IsWalked : {V : Type 0} → World V → Call V → Bytes → Type 0 → Result walk.Walk KeyError → Type 0
IsWalked w c text HasFault (Ok (walked.Accepted files)) =
    Walk w c text Accepted × (includes : List Include) × AreRecorded w c text includes × (digested_as includes ≡ digested_of files.items)
    × (gathered c.files c.moment (digested_of files.items) ≡ Some includes)
IsWalked w c text HasFault (Ok walked.Refused) = Walk w c text NotAccepted ⊎ HasFault
IsWalked w c text HasFault (Err Marker) = Walk w c text Errs
IsWalked w c text HasFault (Err Memory) = Unit {0}
IsWalked w c text HasFault (Err other) = ⊥
