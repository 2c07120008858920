use Rattle.std.proofs.Common.{◌≡◌, map, take}
use Rattle.std.specs.List.{flat_map}
use Rattle.cck_cache_text.specs.Splices.{unspliced_line}
use Rattle.cck_cache_text.proofs.splices.unspliced.Given as goal

-- the lines so far without their splices
abbrev pub invariant-loop-line : goal.invariant-loop-line
invariant-loop-line l = l.text.items ≡ flat_map unspliced_line (take l.line-index (map (λ line. line.now) l.front))
