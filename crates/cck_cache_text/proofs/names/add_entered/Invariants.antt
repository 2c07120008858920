use Rattle.std.proofs.Common.{map}
use Rattle.cck_cache_text.specs.Names.{EntersSystem}
use Rattle.cck_cache_text.specs.Sets.{Adds}
use Rattle.cck_cache_text.proofs.IncludedLemmas.{LineAt}
use Rattle.cck_cache_text.proofs.SetLemmas.{Below}
use Rattle.cck_cache_text.proofs.names.add_entered.Given as goal

-- the names in the lines so far were added
abbrev pub invariant-loop-line : goal.invariant-loop-line
invariant-loop-line l = Adds (Below (LineAt EntersSystem (map (λ line. line.now) l.lines)) l.line-index) l.fn.systems l.systems
