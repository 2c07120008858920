-- requests as calls of the definitions
use Rattle.cck_files.specs.FileMap.{FileMap}
use Rattle.cck_path.specs.Bytes.{Bytes, lists_of, variables_of}
use Rattle.jiff.specs.Words.{plain_zone}
use Rattle.cck_hasher.specs.Call.{Call}
use Rattle.cck_hasher.specs.Conditions.{Given, call_under, given_by, world_under}
use Rattle.cck_hasher.specs.World.{World}
use Rattle.cck_hasher.specs.declared.call.CacheControl.{CacheControl}
use Rattle.cck_hasher.specs.declared.call.CacheControl.TheVariants.{Default}
use Rattle.c_cache_keys.specs.External.{External, Prints, external_compiler, external_of}
use Rattle.c_cache_keys.specs.declared.requests.SnapshotRequest.{SnapshotRequest}

-- the conditions of a request
abbrev pub given_in : CacheControl → SnapshotRequest → Given
given_in control r = given_by r.cwd.now (variables_of r.vars.now) r.moment (plain_zone r.zone.now) r.config (lists_of r.basedirs.now) control

-- the world of a request, in which a preprocessor prints this
abbrev pub world_for : (Bytes → Bytes) → Prints → SnapshotRequest → World External
world_for hash prints r = world_under hash (external_compiler prints) (given_in Default r)

-- the call of a request over files
abbrev pub call_for : CacheControl → FileMap → SnapshotRequest → Call External
call_for control files r = call_under external_of files r.hasher.now (given_in control r)
