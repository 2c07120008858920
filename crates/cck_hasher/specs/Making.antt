-- the results of computing a key
use Rattle.std.specs.Prelude.{◌≡◌, true, map, Some, Result, Ok, Err, String, string_bytes}
use Rattle.std.specs.declared.alloc.Global.{Global}
use Rattle.cck_digest.specs.declared.key_error.KeyError.{KeyError}
use Rattle.cck_hasher.specs.Call.{CallResult, Call, Keyed, ReturnsError}
use Rattle.cck_util.specs.Language.{is_preprocessed_first}
use Rattle.cck_hasher.specs.Keys.{extra_texts, preprocessor_key_of, printed}
use Rattle.cck_hasher.specs.Seen.{why_of}
use Rattle.cck_hasher.specs.Walk.{input_path}
use Rattle.cck_hasher.specs.World.{World}
use Rattle.cck_hasher.specs.declared.hasher.making.PreprocessedInput.{PreprocessedInput}

-- the result of computing a key, as a value of the definitions
abbrev pub made_of : Result (String Global) KeyError → CallResult
made_of (Ok key) = Keyed (string_bytes key) true
made_of (Err e) = ReturnsError (why_of e)

-- the call's input, which needs a preprocessor, with the call's preprocessor key, the hex digests of its extra files and its printed text
pub record IsPreprocessed {V : Type 0} (w : World V) (c : Call V) (input : PreprocessedInput) : Type 0 where
  pub path : input.path.now ≡ input_path c
  pub key : preprocessor_key_of w c ≡ Some input.key.now
  pub extra : extra_texts w c ≡ Some (map string_bytes input.extra_hashes.now)
  pub first : is_preprocessed_first c.request.arguments.language ≡ true
  pub prints : printed w c ≡ Some input.text.now
