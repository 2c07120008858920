use Rattle.std.proofs.Common.{ℕ, ◌<◌, get_or}
use Rattle.std.specs.Global.{Vec}
use Rattle.cck_cache_text.specs.Argument.{MayAskForFile}
use Rattle.cck_cache.proofs.judge.ask_for_file.Given as goal

-- none of the arguments so far may
abbrev pub invariant-loop-argument : goal.invariant-loop-argument
invariant-loop-argument l = (k : ℕ) (other : Vec ℕ) → k < l.argument-index → MayAskForFile (get_or l.arguments k other).items → ⊥
