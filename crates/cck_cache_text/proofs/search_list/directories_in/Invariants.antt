use Rattle.std.proofs.Common.{List, ℕ, map, take}
use Rattle.cck_cache_rules.specs.Reading.{AreRead}
use Rattle.cck_cache_text.specs.SearchList.{ReadsLines}
use Rattle.cck_cache_text.proofs.search_list.directories_in.Given as goal

-- the directories of the lines so far
abbrev pub invariant-loop-line : goal.invariant-loop-line
invariant-loop-line g l =
    (write : List ℕ → List ℕ) → ReadsLines (goal.F-post g l.directory_of) write → AreRead write (map (λ line. line.now) (take l.line-index l.lines)) (map (λ d. d.items) l.found.items)
