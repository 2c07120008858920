-- the input of a request, in a snapshot
use Rattle.std.specs.Prelude.{◌≡◌}
use Rattle.cck_cache_files.specs.Snapshot.{IsNodePut}
use Rattle.cck_cache_files.specs.declared.request.Request.{Request}
use Rattle.cck_files.specs.Calls.{Rose}
use Rattle.cck_files.specs.FileMap.{FileMap}
use Rattle.cck_files.specs.FileState.{FileState, IsQuiet, fault_count, no_files}
use Rattle.cck_path.specs.Bytes.{Bytes}
use Rattle.cck_path.specs.Text.{join_path}

-- the path of the input: it is relative to the working directory
abbrev pub request_input_path : Request → Bytes
request_input_path request = join_path request.directory.now request.input.now

-- the input alone, if it can be read
abbrev pub IsInput : Request → FileMap → Type 0
IsInput request files = IsNodePut no_files (request_input_path request) files

-- a snapshot met no fault so far, and meets none
pub record IsCalm (s : FileState) : Type 0 where
  pub quiet : IsQuiet s
  pub none : fault_count s ≡ 0

-- no fault came: the count of faults was zero, and is
abbrev pub NoFault : Type 0
NoFault = Rose 0 0
