-- lists of calls, before and after they are made
use Rattle.std.specs.Prelude.{◌≡◌, ℕ, List, [], ◌∷◌, IfErr, IfOk, Result, string_bytes}
use Rattle.cck_path.specs.Bytes.{variables_of}
use Rattle.cck_files.specs.Calls.{Keeps}
use Rattle.cck_files.specs.FileMap.{FileMap}
use Rattle.cck_digest.specs.declared.key_error.KeyError.{KeyError}
use Rattle.cck_util.specs.Store.{Store}
use Rattle.cck_hasher.specs.Call as seen
use Rattle.cck_hasher.specs.Conditions.{request_of}
use Rattle.cck_hasher.specs.Hasher.{toolchain_key}
use Rattle.cck_hasher.specs.Reasons.{IsReason}
use Rattle.cck_hasher.specs.Seen.{result_of}
use Rattle.cck_hasher.specs.Step.{Step}
use Rattle.cck_hasher.specs.World.{World}
use Rattle.cck_hasher.specs.declared.call.HashResult.{HashResult}
use Rattle.c_cache_keys.specs.declared.calls.Call.{Call}

-- a call that came back as it was passed, but for its files, which are in the state that calls on them left
pub record IsAfter {I F : Type 0} (file_map : F → FileMap) (faults : F → ℕ) (is_quiet : F → Type 0) (before after : Call I F) : Type 0 where
  pub same : after ≡ record before { files = after.files }
  pub keeps : Keeps file_map faults is_quiet before.files after.files

module _ {I F V : Type 0} (value : I → V) (file_map : F → FileMap) (faults : F → ℕ) where
  -- the call of the definitions, on the files that it has
  abbrev pub call_in : Call I F → seen.Call V
  call_in c = record {
    request = request_of value c.hasher c.cwd.items (variables_of c.vars.items);
    files = file_map c.files;
    moment = c.moment;
    control = c.control;
  }

  -- a call that was made, by its files before it and after it
  abbrev pub done_in : Call I F → F → seen.Done V
  done_in c after = record { call = call_in c; faults_before = faults c.files; faults_after = faults after }

  -- calls that were made, by the list before it and after it
  abbrev pub done_all : List (Call I F) → List (Call I F) → List (seen.Done V)
  done_all [] after = []
  done_all (c ∷ cs) [] = []
  done_all (c ∷ cs) (d ∷ ds) = done_in c d.files ∷ done_all cs ds

  module _ {S : Type 0} (w : World V) (st : Store S) where
    -- This call had this result, from one store to another: it is a step, an error gives its reason, and a result has the toolchain's key.
    pub record IsReturned (s : S) (before after : Call I F) (r : Result HashResult KeyError) (t : S) : Type 0 where
      pub step : Step w st (call_in before) (seen.Fault (done_in before after.files)) s (result_of r) t
      pub reason : IfErr r (IsReason w st (call_in before) (seen.Fault (done_in before after.files)) s t)
      pub toolchain : IfOk r (λ found. string_bytes found.weak_toolchain_key ≡ toolchain_key before.hasher.executable.items (string_bytes before.hasher.executable_digest))

    -- these calls had these results, in order
    abbrev pub AreReturned : S → List (Call I F) → List (Call I F) → List (Result HashResult KeyError) → S → Type 0
    AreReturned s [] [] [] t = t ≡ s
    AreReturned s (o ∷ olds) (n ∷ news) (r ∷ rs) t = (mid : S) × IsReturned s o n r mid × AreReturned mid olds news rs t
    AreReturned s [] [] (r ∷ rs) t = ⊥
    AreReturned s [] (n ∷ news) rs t = ⊥
    AreReturned s (o ∷ olds) [] rs t = ⊥
    AreReturned s (o ∷ olds) (n ∷ news) [] t = ⊥
