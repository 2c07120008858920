use Rattle.std.proofs.Common.{◌≡◌, Some, option_map}
use Rattle.cck_path.specs.Bytes.{lists_of}
use Rattle.cck_command.proofs.WordLemmas.{left_size, put_before, words_left}
use Rattle.cck_command.proofs.script.word.words_in.Given as goal

abbrev pub invariant-loop-left : goal.invariant-loop-left
invariant-loop-left l = words_left (Some l.fn.line) ≡ put_before (lists_of l.words.items) (words_left (option_map (λ r. r.now) l.left))

abbrev pub decreases-loop-left : goal.decreases-loop-left
decreases-loop-left l = left_size (option_map (λ r. r.now) l.left)
