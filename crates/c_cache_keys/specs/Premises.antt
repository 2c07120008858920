-- the premises on the calls, under which a stored key is the plain key
use Rattle.std.specs.Prelude.{◌≡◌, ◌≢◌, List, ◌++◌, true, false, Some, None, Ok, Contains}
use Rattle.cck_digest.specs.Digest.{digest_text}
use Rattle.cck_files.specs.FolderText.{digest_material}
use Rattle.cck_files.specs.FileMap.{FileNode, file_at, folder_at}
use Rattle.cck_include.specs.Recorded.{file_time_part, has_date, has_time, has_timestamp, is_timed}
use Rattle.cck_path.specs.Bytes.{Bytes}
use Rattle.cck_path.specs.Path.{Path, components}
use Rattle.cck_path.specs.Timestamp.{nanos_of}
use Rattle.cck_include.specs.TimePart.{AreOfOneSecond, local_day, source_date_epoch}
use Rattle.cck_hasher.specs.Call.{Call}
use Rattle.cck_hasher.specs.Keys.{extra_texts, key_material, preprocessor_key_of, printed, request_parts}
use Rattle.cck_hasher.specs.Walk.{Accepted, IsNamed, Walk, input_path}
use Rattle.cck_hasher.specs.World.{World, setting}

module _ {V : Type 0} (w : World V) where
  -- bytes that may be hashed for a call
  pub data IsHashed (c : Call V) (x : Bytes) : Type 0 where
    of_file : (p : Path) (n : FileNode) → file_at c.files p ≡ Ok n → x ≡ n.contents → IsHashed c x
    of_folder : (p : Path) → folder_at c.files p ≡ Ok tt → digest_material c.files p ≡ Some x → IsHashed c x
    of_time : (p : Path) (n : FileNode) → file_at c.files p ≡ Ok n → is_timed n.contents ≡ true → file_time_part (setting w c) n ≡ Some x → IsHashed c x
    of_key : key_material w c ≡ Some x → IsHashed c x

  -- two of these that have one digest are equal
  abbrev pub CollisionFree : List (Call V) → Type 0
  CollisionFree calls = (c d : Call V) (x y : Bytes) → Contains calls c → Contains calls d → IsHashed c x → IsHashed d y → digest_text w.hash x ≡ digest_text w.hash y → x ≡ y

  -- calls with one preprocessor key are of one request
  abbrev pub KeyDeterminesRequest : List (Call V) → Type 0
  KeyDeterminesRequest calls = (c d : Call V) (k : Bytes) → Contains calls c → Contains calls d → preprocessor_key_of w c ≡ Some k → preprocessor_key_of w d ≡ Some k → c.request ≡ d.request

  -- the first call comes before the second
  abbrev pub IsBefore : List (Call V) → Call V → Call V → Type 0
  IsBefore calls c d = (xs : List (Call V)) × (ys : List (Call V)) × (calls ≡ xs ++ ys) × Contains xs c × Contains ys d

  -- At this path both calls have a regular file, and that of the one equals that of the other as far as a text can show: in its contents; if
  -- these hold a date, in the day and the `SOURCE_DATE_EPOCH` of the calls; and if they hold a timestamp, in the second of its modification.
  pub record IsSameFile (c d : Call V) (p : Path) : Type 0 where
    pub earlier : FileNode
    pub later : FileNode
    pub is_earlier : file_at c.files p ≡ Ok earlier
    pub is_later : file_at d.files p ≡ Ok later
    pub contents : earlier.contents ≡ later.contents
    pub day : has_date earlier.contents ≡ true → local_day w.zone (nanos_of c.moment) ≡ local_day w.zone (nanos_of d.moment)
    pub epoch : has_date earlier.contents ≡ true → source_date_epoch c.request.env_vars ≡ source_date_epoch d.request.env_vars
    pub second : has_timestamp earlier.contents ≡ true → AreOfOneSecond w.zone earlier.modified later.modified

  -- Two calls agree in all that a printed text and a key depend on. That is all that a request says for the preprocessor key, the path of the
  -- input among it, the working directory, the hex digests of the extra files, which each has, the input and the regular files that the text
  -- of the earlier call names. The input holds no `__TIME__`.
  pub record Agree (c d : Call V) (text : Bytes) : Type 0 where
    pub parts : request_parts w c.request (input_path c) ≡ request_parts w d.request (input_path d)
    pub cwd : c.request.cwd ≡ d.request.cwd
    pub extra : extra_texts w c ≡ extra_texts w d
    pub some_extra : extra_texts w c ≢ None
    pub input : IsSameFile c d (components (input_path c))
    pub no_time : has_time input.earlier.contents ≡ false
    pub included : (p : Path) (n : FileNode) → IsNamed w c text p → file_at c.files p ≡ Ok n → IsSameFile c d p

  -- a preprocessor prints an accepted text again for a later call that agrees with the first one
  abbrev pub DeterministicPreprocessor : List (Call V) → Type 0
  DeterministicPreprocessor calls =
      (c d : Call V) (text : Bytes) → IsBefore calls c d → printed w c ≡ Some text → Walk w c text Accepted → Agree c d text → printed w d ≡ Some text

  -- the options under which a changed file may count as unchanged
  pub record StrictOptions : Type 0 where
    pub skip_system_headers : w.config.skip_system_headers ≡ false
    pub ignore_time_macros : w.config.ignore_time_macros ≡ false
    pub file_stat_matches : w.config.file_stat_matches ≡ false

  -- All of these, over the calls of a run. One key may be of several requests if it contains the working directory.
  pub record Premises (calls : List (Call V)) : Type 0 where
    pub hash : CollisionFree calls
    pub requests : w.config.hash_working_directory ≡ false → KeyDeterminesRequest calls
    pub compiler : DeterministicPreprocessor calls
    pub options : StrictOptions
