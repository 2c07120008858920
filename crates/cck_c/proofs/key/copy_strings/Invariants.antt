use Rattle.std.proofs.Common.{◌≡◌, ◌<◌, ℕ, map, string_bytes, take, get_or}
use Rattle.std.specs.Str.{IsUtf8}
use Rattle.cck_c.specs.Bytes.{texts_of}
use Rattle.cck_c.specs.declared.bytes.Bytes.{Bytes}
use Rattle.cck_c.proofs.key.copy_strings.Given as goal

-- the strings so far, and each text so far is UTF-8
abbrev pub invariant-loop-one : goal.invariant-loop-one
invariant-loop-one l = record {
  copied : map string_bytes l.strings.items ≡ texts_of (take l.one-index l.all);
  utf8 : (k : ℕ) → k < l.one-index → (d : Bytes) → IsUtf8 (get_or l.all k d).bytes.now;
}
