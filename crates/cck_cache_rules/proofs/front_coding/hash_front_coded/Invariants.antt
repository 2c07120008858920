use Rattle.std.proofs.Common.{◌≡◌, List, ℕ, [], ◌++◌, take}
use Rattle.std.specs.List.{flat_map}
use Rattle.cck_cache_rules.specs.FrontCoding.{front_bytes, front_coded}
use Rattle.cck_cache_rules.proofs.FrontCodingLemmas.{last_of}
use Rattle.cck_path.specs.Bytes.{lists_of}
use Rattle.cck_cache_rules.proofs.front_coding.hash_front_coded.Given as goal

-- the parts so far were fed, and the last text is known
abbrev pub invariant-loop-text : goal.invariant-loop-text
invariant-loop-text g l = record {
  fed : (fed : List ℕ) → g.H.HashState.holds l.initial.digest fed →
      g.H.HashState.holds l.digest (fed ++ flat_map front_bytes (front_coded [] (lists_of (take l.text-index l.texts))));
  last : l.before ≡ last_of [] (lists_of (take l.text-index l.texts));
}
