-- calls that ask the store with statuses: an included file may be accepted by its status, without its contents
use Rattle.std.specs.Prelude.{◌≡◌, List, Bool, true, Option, Some, Ok, length}
use Rattle.std.specs.FinMap.{get}
use Rattle.cck_entry.specs.Statuses.{Statuses, matches_with}
use Rattle.cck_files.specs.FileMap.{FileMap, FileNode, file_at, metadata_at}
use Rattle.cck_include.specs.Gathered.{are_before}
use Rattle.cck_include.specs.Include.{Include}
use Rattle.cck_path.specs.Bytes.{Bytes}
use Rattle.cck_path.specs.Path.{Path}
use Rattle.cck_path.specs.declared.metadata.Metadata.{Metadata}
use Rattle.cck_util.specs.Store.{Returned, Store}
use Rattle.cck_hasher.specs.Call.{Call, CallResult, Done, Fault}
use Rattle.cck_hasher.specs.Keys.{preprocessor_key_of}
use Rattle.c_cache_keys.specs.Premises.{IsBefore}
use Rattle.cck_hasher.specs.Step.{Chain, Ends, Gives, Opened, Step}
use Rattle.cck_hasher.specs.World.{World, setting}
use Rattle.cck_hasher.specs.declared.call.CacheControl.TheVariants.{Default}

-- each is the status of the node at its path
abbrev pub AreStatuses : FileMap → Statuses → Type 0
AreStatuses files statuses = (p : Path) (m : Metadata) → get statuses p ≡ Some m → metadata_at files p ≡ Ok m

-- A regular file of the earlier call that has the same size and the same two times for the later one, both before the moment of the earlier
-- call, has the same contents.
abbrev pub TimesTell : {V : Type 0} → Call V → Call V → Type 0
TimesTell c d =
    (p : Path) (n o : FileNode) → file_at c.files p ≡ Ok n → file_at d.files p ≡ Ok o
    → length n.contents ≡ length o.contents → n.modified ≡ o.modified → n.changed ≡ o.changed → are_before n.modified n.changed c.moment ≡ true
    → n.contents ≡ o.contents

module _ {V : Type 0} (w : World V) where
  -- times are honest: so it is for each earlier call and each later one
  abbrev pub HonestTimes : List (Call V) → Type 0
  HonestTimes calls = (c d : Call V) → IsBefore w calls c d → TimesTell c d

  -- an included file is accepted by its status, or unchanged for this call
  abbrev pub matching_with : Statuses → Call V → Include → Bool
  matching_with statuses c = matches_with statuses (setting w c) c.files

module _ {V S : Type 0} (w : World V) (st : Store S) where
  -- One call that asks the store once, under its preprocessor key, with these statuses. What follows is as in a step.
  pub record AsksWith (statuses : Statuses) (c : Call V) (F : Type 0) (s : S) (r : CallResult) (t : S) : Type 0 where
    pub opened : Opened w c
    pub key : Bytes
    pub is_key : preprocessor_key_of w c ≡ Some key
    pub control : c.control ≡ Default
    pub returned : Returned
    pub mid : S
    pub got : st.got s key returned mid
    pub outcome : Option CallResult
    pub gives : Gives (matching_with w statuses c) F returned outcome
    pub ends : Ends w st c F outcome mid r t

  -- one call: a step, or one that asks the store with right statuses
  pub data StepByStatuses (c : Call V) (F : Type 0) (s : S) (r : CallResult) (t : S) : Type 0 where
    plain : Step w st c F s r t → StepByStatuses c F s r t
    by_statuses : (statuses : Statuses) → AreStatuses c.files statuses → AsksWith statuses c F s r t → StepByStatuses c F s r t

  -- calls in order, each starting where the one before it ended
  abbrev pub RunByStatuses : S → List (Done V) → List CallResult → S → Type 0
  RunByStatuses = Chain (λ d. StepByStatuses d.call (Fault d))
