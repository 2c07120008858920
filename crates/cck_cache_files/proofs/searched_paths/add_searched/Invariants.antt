use Rattle.std.proofs.Common.{take}
use Rattle.cck_cache_rules.specs.PathTest.{tests_of}
use Rattle.cck_cache_text.specs.SearchList.{search_fields}
use Rattle.cck_path.specs.Bytes.{lists_of}
use Rattle.cck_cache_files.specs.SearchedPaths.{AddsRight}
use Rattle.cck_cache_files.proofs.searched_paths.add_searched.Given as goal

-- the list is right for the names so far
abbrev pub invariant-loop-name : goal.invariant-loop-name
invariant-loop-name g l =
    AddsRight l.directory (search_fields l.search) l.fn.searched.identities.items (tests_of l.fn.tests.items) (lists_of (take l.name-index l.names)) l.searched.identities.items (tests_of l.tests.items)
