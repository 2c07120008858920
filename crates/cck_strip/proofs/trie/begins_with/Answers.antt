use Rattle.std.proofs.Common.{◌-◌, length, arith}
use Rattle.cck_strip.proofs.RunLemmas.{begins_not}
use Rattle.cck_strip.proofs.trie.begins_with.Goals as goal
use Rattle.cck_strip.proofs.trie.begins_with.Goals.{then-last-text-via-then-last-text, then-last-text-via-else-last-text+then-text-last}

pub returns-then-last-text : goal.returns-then-last-text
returns-then-last-text c =
    begins_not c.args.text.now c.args.bytes.now (length c.args.bytes.now - 1) (let some = c.requires in omega arith) (λ same.
    elim c.then-last-text.branch [
      | then-last-text-via-then-last-text w ↦ let short = w.if-last-text.true in let low = same.0 in omega arith
      | then-last-text-via-else-last-text+then-text-last w ↦ w.if-text-last.true (same.1)
    ])
