use Rattle.std.proofs.Common.{length, map}
use Rattle.cck_cache_text.specs.SearchList.{search_fields}
use Rattle.cck_cache_text.specs.Sets.{Adds}
use Rattle.cck_cache_text.proofs.SetLemmas.{Below}
use Rattle.cck_files.specs.Calls.{Keeps}
use Rattle.cck_files.specs.FileState.{FileState, IsQuiet, fault_count}
use Rattle.cck_cache_files.proofs.SourceLemmas.{AsksAt, PlainBelow}
use Rattle.cck_cache_files.proofs.sources.asked_of.Given as goal

-- what the sources of the names so far ask for
abbrev pub invariant-loop-name : goal.invariant-loop-name
invariant-loop-name l = record {
  keeps : Keeps (λ (s : FileState). s.files) fault_count IsQuiet l.fn.files l.files;
  plain : PlainBelow l.fn.files.files l.directory (map (λ k. k.items) l.names.keys) (length l.yielded);
  asked : Adds (Below (AsksAt l.fn.files.files l.directory (search_fields l.search).directories (map (λ k. k.items) l.names.keys)) (length l.yielded)) l.initial.paths l.paths;
}
