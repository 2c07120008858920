use Rattle.std.proofs.Common.{true, false, map}
use Rattle.cck_cache_text.specs.Sets.{Adds}
use Rattle.cck_cache_text.proofs.IncludedLemmas.{IncludesAt}
use Rattle.cck_cache_text.proofs.SetLemmas.{Below}
use Rattle.cck_cache_text.proofs.included.add_lines.Given as goal

-- the names in the lines so far were added
abbrev pub invariant-loop-line : goal.invariant-loop-line
invariant-loop-line l = record {
  quoted : Adds (Below (IncludesAt (map (λ line. line.now) l.lines) true) l.line-index) l.fn.included.quoted l.included.quoted;
  bracketed : Adds (Below (IncludesAt (map (λ line. line.now) l.lines) false) l.line-index) l.fn.included.bracketed l.included.bracketed;
}
