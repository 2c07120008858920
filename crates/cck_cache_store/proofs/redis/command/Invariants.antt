use Rattle.std.proofs.Common.{◌≡◌, ◌++◌, codes, length, map, string_bytes, take}
use Rattle.std.specs.Fmt.{decimal}
use Rattle.std.specs.List.{flat_map}
use Rattle.cck_cache_store.specs.Redis.{bulk_string}
use Rattle.cck_cache_store.proofs.redis.command.Given as goal

-- the number of the words, and the words so far
abbrev pub invariant-loop-word : goal.invariant-loop-word
invariant-loop-word l =
    string_bytes l.text ≡ codes "*" ++ decimal (length l.words) ++ codes "\r\n" ++ flat_map bulk_string (map (λ word. word.now) (take l.word-index l.words))
