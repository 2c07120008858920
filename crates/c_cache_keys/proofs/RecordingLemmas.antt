-- What a call of a text gives is a recording.
use Rattle.std.proofs.Common.{◌≡◌, ◌⊎◌, List, inl, inr, None, Some, refl, sym, ap, ◌∙◌, subst}
use Rattle.std.specs.Prelude.{option_map, string_bytes}
use Rattle.cck_compiler.specs.Arguments.{Arguments}
use Rattle.cck_files.specs.FileMap.{FileMap}
use Rattle.cck_digest.specs.declared.key_error.KeyError.{KeyError}
use Rattle.cck_digest.specs.declared.key_error.KeyError.TheVariants as error
use Rattle.cck_path.specs.Bytes.{Bytes, lists_of}
use Rattle.cck_path.specs.Variables.{Variable}
use Rattle.jiff.specs.Words.{plain_zone}
use Rattle.cck_hasher.specs.Call.{CallResult, Memory, ReturnsError, Request as CallRequest}
use Rattle.cck_hasher.specs.Conditions.{call_under, world_under}
use Rattle.cck_hasher.specs.Seen.{why_of}
use Rattle.cck_hasher.specs.Step.{Step, opening_lacks, stopped}
use Rattle.cck_hasher.specs.declared.call.CacheControl.TheVariants.{ForceRecache}
use Rattle.cck_hasher.specs.declared.hasher.CCompilerHasher.{CCompilerHasher}
use Rattle.c_cache_keys.proofs.Texts.{recorded_there, error_there}
use Rattle.c_cache_keys.specs.LastPut.{LastPut, last_put}
use Rattle.c_cache_keys.specs.Recordings.{HasText, IsRecording, IsRecordingError, key_of, entry_pair}
use Rattle.c_cache_keys.specs.Requests.{call_for, given_in}
use Rattle.c_cache_keys.specs.TextCompiler.{IsTextHasher, WithText, call_with, text_compiler, with_text_of}
use Rattle.c_cache_keys.specs.declared.recordings.Recording.{Recording}
use Rattle.c_cache_keys.specs.declared.requests.SnapshotRequest.{SnapshotRequest}
use Rattle.c_cache_keys.specs.declared.text_compiler.TextCompiler.{TextCompiler}

-- the request of a hasher whose parts are copied
module _ (v : WithText) (cwd : Bytes) (env_vars : List Variable) where
  abbrev pub with_parts : Bytes → Bytes → Arguments → CallRequest WithText
  with_parts executable digest arguments = record { compiler = v; executable = executable; executable_digest = digest; arguments = arguments; cwd = cwd; env_vars = env_vars }

  pub same_request : (e f d g : Bytes) (a b : Arguments) → e ≡ f → d ≡ g → a ≡ b → with_parts e d a ≡ with_parts f g b
  same_request e f d g a b p q r = ap (λ x. with_parts x d a) p ∙ ap (λ x. with_parts f x a) q ∙ ap (with_parts f g) r

memory_has_text : HasText Memory
memory_has_text = (λ e. cc, λ e. cc)

module _ (hash : Bytes → Bytes) (files : FileMap) (r : SnapshotRequest) (F : Type 0) (text : Bytes) where
  -- memory is lacking
  pub starved : (e : KeyError) → e ≡ error.Memory → IsRecordingError hash files r F text e
  starved e is = subst (IsRecordingError hash files r F text) (sym is) (memory_has_text, λ prints printed. stopped Memory opening_lacks refl refl)

  module _ (hasher : CCompilerHasher TextCompiler) (same : IsTextHasher r.hasher.now text hasher) (s t : LastPut) (new : s ≡ Some None) (a : CallResult)
      (step : Step (world_under hash text_compiler (given_in ForceRecache r)) last_put (call_under with_text_of files hasher (given_in ForceRecache r)) F s a t) where
    text_step : Step (world_under hash text_compiler (given_in ForceRecache r)) last_put (call_with text (call_for ForceRecache files r)) F (Some None) a t
    text_step =
        subst (λ q. Step (world_under hash text_compiler (given_in ForceRecache r)) last_put (record (call_with text (call_for ForceRecache files r)) { request = q }) F (Some None) a t)
        (same r.cwd.now (call_for ForceRecache files r).request.env_vars)
        (subst (λ v. Step (world_under hash text_compiler (given_in ForceRecache r)) last_put (call_under with_text_of files hasher (given_in ForceRecache r)) F v a t) new step)

    -- an error
    pub errs : (e : KeyError) → (e ≡ error.Memory) ⊎ ((a ≡ ReturnsError (why_of e)) × HasText (why_of e)) → IsRecordingError hash files r F text e
    errs e (inl is) = starved e is
    errs e (inr (is, has)) = (
      has,
      λ prints printed.
          error_there hash (plain_zone r.zone.now) r.config (lists_of r.basedirs.now) prints text (call_for ForceRecache files r) printed F refl (why_of e) (Some None) t
          (subst (λ v. Step (world_under hash text_compiler (given_in ForceRecache r)) last_put (call_with text (call_for ForceRecache files r)) F (Some None) v t) is text_step),
    )

    -- a key, and what was put
    pub records : (recording : Recording) → key_of a ≡ Some (string_bytes recording.key) → Some (option_map entry_pair recording.put) ≡ t → IsRecording hash files r F text recording
    records recording keyed put =
        λ prints printed.
        recorded_there hash (plain_zone r.zone.now) r.config (lists_of r.basedirs.now) prints text (call_for ForceRecache files r) printed F refl a (string_bytes recording.key)
        (option_map entry_pair recording.put) keyed
        (subst (λ v. Step (world_under hash text_compiler (given_in ForceRecache r)) last_put (call_with text (call_for ForceRecache files r)) F (Some None) a v) (sym put) text_step)
