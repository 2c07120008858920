-- the name of the object of a key, by an entry, the recorded digest of the input and the tests of paths
use Rattle.std.specs.Prelude.{◌≡◌, List, Contains, Option}
use Rattle.std.specs.FinMap.{entries}
use Rattle.cck_cache_rules.specs.Base.{BaseOf}
use Rattle.cck_cache_rules.specs.PathTest.{Test}
use Rattle.cck_cache.specs.Request.{request_words}
use Rattle.cck_cache_rules.specs.ObjectName.{object_name}
use Rattle.cck_cache_files.specs.declared.request.Request.{Request}
use Rattle.cck_entry.specs.Entry.{Entry, EntryText}
use Rattle.cck_include.specs.Include.{Include}
use Rattle.cck_path.specs.Bytes.{Bytes}
use Rattle.sha2.specs.Sha256.{sha256}

-- The name of the object of a key. The entry has a result of the key, and the name is by what that included, by the recorded digest of the input, by
-- the tests of paths, and by the base directory of the request.
pub record IsName (request : Request) (input : Bytes) (entry : Entry) (tests : List Test) (key name : Bytes) : Type 0 where
  pub includes : List Include
  pub is_result : Contains (entries entry) (key, includes)
  pub base : Option Bytes
  pub is_base : BaseOf (request_words request) base
  pub is_name : name ≡ object_name sha256 key input base includes tests

-- the same by the text of an entry
pub record IsNameIn (request : Request) (input bytes : Bytes) (tests : List Test) (key name : Bytes) : Type 0 where
  pub entry : Entry
  pub is_entry : EntryText entry bytes
  pub is_name : IsName request input entry tests key name
