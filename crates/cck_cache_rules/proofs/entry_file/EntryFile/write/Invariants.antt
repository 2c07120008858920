use Rattle.std.proofs.Common.{◌≡◌, ◌∷◌, take, map}
use Rattle.cck_cache_rules.proofs.entry_file.EntryFile.write.Given as goal

-- the parts so far
abbrev pub invariant-loop-part : goal.invariant-loop-part
invariant-loop-part l = map (λ p. p.now) l.parts.items
    ≡ l.self.preprocessor_key.items ∷ l.self.entry.items ∷ map (λ p. p.items) (take l.part-index l.part-items)
