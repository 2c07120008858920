use Rattle.std.proofs.Common.{◌≡◌, map, take}
use Rattle.cck_strip.specs.Endings.{turned}
use Rattle.cck_strip.proofs.endings.turned.Given as goal

abbrev pub invariant-loop-word : goal.invariant-loop-word
invariant-loop-word l = map (λ b. b.items) l.all.items ≡ turned (map (λ b. b.items) (take l.word-index l.words))
