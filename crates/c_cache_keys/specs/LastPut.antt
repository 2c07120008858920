-- a store that holds nothing and keeps the pair that was put last
use Rattle.std.specs.Prelude.{◌≡◌, Option, Some, None, Result, Ok, Err, option_map}
use Rattle.std.specs.declared.alloc.AllocError.{AllocError}
use Rattle.cck_path.specs.Bytes.{Bytes}
use Rattle.cck_util.specs.Store.{Returned, Store, StoreLaws, Stored}
use Rattle.cck_util.specs.declared.store.StoreError.TheVariants as store
use Rattle.c_cache_keys.specs.HoldsNothing.{holds_nothing, holds_nothing_laws}
use Rattle.c_cache_keys.specs.Recordings.{entry_pair}
use Rattle.c_cache_keys.specs.declared.recordings.RecordedEntry.{RecordedEntry}

-- a pair or nothing; no value where memory was lacking for it
abbrev pub LastPut : Type 0
LastPut = Option (Option (Bytes × Bytes))

abbrev pub put_of : Result (Option RecordedEntry) AllocError → LastPut
put_of (Ok put) = Some (option_map entry_pair put)
put_of (Err e) = None

-- a get finds nothing
abbrev pub GetsNothing : LastPut → Bytes → Returned → LastPut → Type 0
GetsNothing s key (Ok None) t = t ≡ s
GetsNothing s key (Ok (Some bytes)) t = ⊥
GetsNothing s key (Err e) t = ⊥

-- a put keeps the pair, unless memory is lacking
abbrev pub IsKept : LastPut → Bytes → Bytes → Stored → LastPut → Type 0
IsKept s key bytes (Ok done) t = t ≡ Some (Some (key, bytes))
IsKept s key bytes (Err store.Fault) t = ⊥
IsKept s key bytes (Err store.Memory) t = t ≡ None

abbrev pub last_put : Store LastPut
last_put = holds_nothing GetsNothing IsKept

pub last_put_laws : StoreLaws last_put
last_put_laws = holds_nothing_laws GetsNothing IsKept (λ s t key bytes got. got)
