-- the results of the first part of a call: the hex digests of the extra files, and the preprocessor key
use Rattle.std.specs.Prelude.{◌≡◌, List, map, Option, Some, None, IfSome, string_bytes}
use Rattle.std.specs.Option.{option_map}
use Rattle.cck_files.specs.FileMap.{FileNode}
use Rattle.cck_include.specs.Recorded.{recorded}
use Rattle.cck_digest.specs.declared.key_error.KeyError.{KeyError}
use Rattle.cck_digest.specs.declared.key_error.KeyError.TheVariants as error
use Rattle.cck_path.specs.Bytes.{Bytes}
use Rattle.cck_compiler.specs.PreprocessorKey.{preprocessor_key}
use Rattle.cck_hasher.specs.Call.{Call}
use Rattle.cck_hasher.specs.Keys.{extra_texts, input_file, input_recorded, preprocessor_key_of, request_parts}
use Rattle.cck_hasher.specs.Reasons.{IsInputReason}
use Rattle.cck_hasher.specs.Step.{Opened}
use Rattle.cck_hasher.specs.Walk.{input_path}
use Rattle.cck_hasher.specs.World.{World, setting}
use Rattle.cck_hasher.specs.declared.hasher.opening.Opening.{Opening}
use Rattle.cck_hasher.specs.declared.hasher.opening.PreprocessorKey.{PreprocessorKey}

-- the text of a preprocessor key
abbrev pub text_of : PreprocessorKey → Bytes
text_of key = string_bytes key.text

-- the same with the recorded digest of the input
abbrev pub text_and_digest : PreprocessorKey → Bytes × Bytes
text_and_digest key = (string_bytes key.text, string_bytes key.input_digest)

-- the preprocessor key of a call, with the recorded digest of its input; or it has none
abbrev pub IsPreprocessorKey : {V : Type 0} → World V → Call V → Option PreprocessorKey → Type 0
IsPreprocessorKey w c None = preprocessor_key_of w c ≡ None
IsPreprocessorKey w c (Some key) = (preprocessor_key_of w c ≡ Some (text_of key)) × (input_recorded w c ≡ Some (string_bytes key.input_digest))

-- the hex digests of the extra files and the preprocessor key, as these values hold them
pub record IsOpening {V : Type 0} (w : World V) (c : Call V) (o : Opening) : Type 0 where
  pub opened : Opened w c
  pub extra : extra_texts w c ≡ Some (map string_bytes o.extra_hashes.items)
  pub key : preprocessor_key_of w c ≡ option_map text_of o.key
  pub digest : IfSome o.key (λ k. input_recorded w c ≡ Some (string_bytes k.input_digest))

-- the recorded digest of the input, which is a regular file, if it has one
abbrev pub IsInputDigest : {V : Type 0} → World V → Call V → Option Bytes → Type 0
IsInputDigest w c digest = (file : FileNode) × (input_file w c ≡ Some file) × (digest ≡ recorded (setting w c) file)

-- the preprocessor key for these hex digests of extra files, with the recorded digest of the input: there is one if the input has such a digest
abbrev pub IsKeyOfInput : {V : Type 0} → World V → Call V → List Bytes → Option (Bytes × Bytes) → Type 0
IsKeyOfInput w c extra_hashes key =
    (file : FileNode) × (input_file w c ≡ Some file)
    × (key ≡ option_map (λ recorded. (preprocessor_key w.hash (request_parts w c.request (input_path c)) extra_hashes recorded, recorded)) (recorded (setting w c) file))

-- why there is no such result: the input is no regular file, there was a fault, or memory is lacking
abbrev pub IsInputError : {V : Type 0} → World V → Call V → Type 0 → KeyError → Type 0
IsInputError w c HasFault error.Memory = Unit {0}
IsInputError w c HasFault (error.Input e) = IsInputReason w c HasFault e
IsInputError w c HasFault _ = ⊥
