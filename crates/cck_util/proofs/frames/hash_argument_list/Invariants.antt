use Rattle.std.proofs.Common.{List, ℕ, ◌++◌, take, map}
use Rattle.std.specs.List.{flat_map}
use Rattle.cck_digest.specs.Frames.{frame}
use Rattle.cck_path.specs.Bytes.{lists_of}
use Rattle.cck_strip.specs.Argument.{stripped_argument}
use Rattle.cck_util.proofs.frames.hash_argument_list.Given as goal

-- the frames so far were fed
abbrev pub invariant-loop-argument : goal.invariant-loop-argument
invariant-loop-argument g l = (fed : List ℕ) → g.H.HashState.holds l.initial.digest fed → g.H.HashState.holds l.digest
    (fed ++ flat_map frame (map (stripped_argument (lists_of l.basedirs)) (lists_of (take l.argument-index l.arguments))))
