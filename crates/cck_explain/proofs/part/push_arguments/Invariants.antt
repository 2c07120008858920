use Rattle.std.proofs.Common.{◌≡◌, ◌++◌, ◌∷◌, codes, length, map, take}
use Rattle.cck_path.specs.Bytes.{lists_of}
use Rattle.cck_strip.specs.Argument.{stripped_argument}
use Rattle.cck_explain.specs.Key.{frames_parts, length_part}
use Rattle.cck_explain.proofs.part.push_arguments.Given as goal

-- the count and the frames of the arguments so far
abbrev pub invariant-loop-index : goal.invariant-loop-index
invariant-loop-index l =
    l.parts.items ≡ l.fn.parts.items ++ length_part (codes "arguments") (length l.arguments)
    ∷ frames_parts (codes "arguments") 0 (map (stripped_argument (lists_of l.basedirs)) (lists_of (take l.index l.arguments)))
