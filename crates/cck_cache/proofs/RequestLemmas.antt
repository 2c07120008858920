-- the arguments that keys are made of, and the key over a part of a snapshot
use Rattle.std.proofs.Common.{◌≡◌, ◌∙◌, List, [], ◌∷◌, ◌++◌, Some, None, codes, map, string_bytes, refl, sym, ap, append_assoc, subst}
use Rattle.cck_hasher.specs.Keys.{extra_texts}
use Rattle.cck_hasher.specs.declared.call.CacheControl.TheVariants.{Default}
use Rattle.cck_hasher.specs.declared.hasher.opening.PreprocessorKey.{PreprocessorKey}
use Rattle.cck_cache_files.specs.declared.request.Request.{Request}
use Rattle.cck_cache_rules.specs.Base.{WordLists}
use Rattle.cck_cache.specs.Request.{IsKeyOver, IsRequest, keyed_arguments}
use Rattle.cck_cache.specs.declared.environment.Environment.{Environment}
use Rattle.cck_compiler.specs.Arguments.{Arguments}
use Rattle.cck_files.specs.FileDigest.{texts}
use Rattle.cck_files.specs.FileMap.{FileMap}
use Rattle.cck_path.specs.Bytes.{Bytes}
use Rattle.cck_path.specs.Path.{components}
use Rattle.cck_path.specs.Timestamp.{Moment}
use Rattle.c_cache_keys.specs.External.{no_text}
use Rattle.c_cache_keys.specs.Requests.{call_for, world_for}
use Rattle.c_cache_keys.specs.Snapshot.{IsKeyOfPart, IsPart, over}
use Rattle.c_cache_keys.specs.declared.requests.SnapshotRequest.{SnapshotRequest}
use Rattle.sha2.specs.Sha256.{sha256}

-- the working directory and the variables of the compiler after the arguments
pub keyed_two : (words : WordLists) (variables : Bytes) (copied first second : List Bytes) (directory text : Bytes) → copied ≡ words.arguments → directory ≡ words.directory → text ≡ variables
    → first ≡ copied ++ (codes "directory=" ++ directory) ∷ [] → second ≡ first ++ (codes "variables=" ++ text) ∷ [] → second ≡ keyed_arguments words variables None
keyed_two words variables copied first second directory text same named said one two =
    two ∙ (ap (λ (xs : List Bytes). xs ++ (codes "variables=" ++ text) ∷ []) one
    ∙ (append_assoc copied ((codes "directory=" ++ directory) ∷ []) ((codes "variables=" ++ text) ∷ [])
    ∙ (ap (λ (xs : List Bytes). xs ++ (codes "directory=" ++ directory) ∷ (codes "variables=" ++ text) ∷ []) same
    ∙ (ap (λ (d : Bytes). words.arguments ++ (codes "directory=" ++ d) ∷ (codes "variables=" ++ text) ∷ []) named
    ∙ ap (λ (l : Bytes). words.arguments ++ (codes "directory=" ++ words.directory) ∷ (codes "variables=" ++ l) ∷ []) said))))

-- and the base directory after these
pub keyed_base : (words : WordLists) (variables : Bytes) (two third : List Bytes) (bytes base : Bytes) → bytes ≡ base → third ≡ two ++ (codes "base=" ++ bytes) ∷ [] → two ≡ keyed_arguments words variables None → third ≡ keyed_arguments words variables (Some base)
keyed_base words variables two third bytes base same more is =
    more ∙ (ap (λ (xs : List Bytes). xs ++ (codes "base=" ++ bytes) ∷ []) is
    ∙ (append_assoc words.arguments ((codes "directory=" ++ words.directory) ∷ (codes "variables=" ++ variables) ∷ []) ((codes "base=" ++ bytes) ∷ [])
    ∙ ap (λ (b : Bytes). words.arguments ++ (codes "directory=" ++ words.directory) ∷ (codes "variables=" ++ variables) ∷ (codes "base=" ++ b) ∷ []) same))

-- a request has no extra files, so their digests are the same over all files
same_extra : (environment : Environment) (request : Request) (time : Moment) (bases : List Bytes) (asked : SnapshotRequest) (part whole : FileMap) → IsRequest environment request time bases asked
    → extra_texts (world_for sha256 no_text asked) (over whole (call_for Default part asked)) ≡ extra_texts (world_for sha256 no_text asked) (call_for Default part asked)
unfolding extra_texts
same_extra environment request time bases asked part whole is_request =
    subst (λ (files : List Bytes). texts sha256 whole (map components files) ≡ texts sha256 part (map components files)) (sym (ap (λ (a : Arguments). a.extra_hash_files) is_request.hasher.parsed)) refl

-- the key over a part of a snapshot is one that a look-up may take
pub key_of_part : (environment : Environment) (request : Request) (time : Moment) (bases : List Bytes) (asked : SnapshotRequest) (part whole : FileMap) (key : PreprocessorKey) → IsRequest environment request time bases asked → IsKeyOver asked part key → IsPart part whole
    → IsKeyOfPart sha256 whole asked (string_bytes key.text)
key_of_part environment request time bases asked part whole key is_request own kept =
    (part, record { part = kept; extra = same_extra environment request time bases asked part whole is_request }, own.0)
