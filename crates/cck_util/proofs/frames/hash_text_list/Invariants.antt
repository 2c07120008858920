use Rattle.std.proofs.Common.{List, ℕ, ◌++◌, take, map}
use Rattle.std.specs.List.{flat_map}
use Rattle.cck_digest.specs.Frames.{frame}
use Rattle.cck_util.proofs.frames.hash_text_list.Given as goal

-- the frames so far were fed
abbrev pub invariant-loop-text : goal.invariant-loop-text
invariant-loop-text g l = (fed : List ℕ) → g.H.HashState.holds l.initial.digest fed →
    g.H.HashState.holds l.digest (fed ++ flat_map frame (map g.T.AsSlice.items (take l.text-index l.texts)))
