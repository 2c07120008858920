use Rattle.std.proofs.Common.{Option, Some, string_bytes, [], refl, sym, subst}
use Rattle.std.proofs.lemmas.Result.{IfOk-weaker}
use Rattle.cck_hasher.specs.Opening.{IsPreprocessorKey}
use Rattle.cck_hasher.specs.declared.call.CacheControl.TheVariants.{Default}
use Rattle.cck_hasher.specs.declared.hasher.opening.PreprocessorKey.{PreprocessorKey}
use Rattle.cck_files.specs.FileMap.{FileMap}
use Rattle.c_cache_keys.specs.External.{no_text}
use Rattle.c_cache_keys.specs.Requests.{call_for, world_for}
use Rattle.sha2.specs.Sha256.{sha256}
use Rattle.cck_cache.specs.Input.{IsCalm}
use Rattle.cck_cache.specs.Look.{IsLookResult, IsFoundFor}
use Rattle.cck_cache.specs.Request.{HasPreprocessorKey, IsKeyOver, IsRequest}
use Rattle.cck_cache.specs.declared.look.Found.{Found}
use Rattle.cck_cache.proofs.InputLemmas.{calm_kept}
use Rattle.cck_cache.proofs.LookLemmas.{found_all}
use Rattle.cck_cache.proofs.look.look.Goals as goal

pub returns-in-Some : goal.returns-in-Some
returns-in-Some g c =
    let environment = c.args.environment.now in
    let wanted = c.args.wanted.now in
    let files = c.in_ok-files.files in
    let after = c.preprocessor_key.new.snapshot in
    let asked = c.snapshot_request-asked.result in
    let key = c.in-Some.key in
    let is_request = c.snapshot_request-asked.ensures wanted.request refl c.in_ok-hasher.ensures in
    let own : IsKeyOver asked files.files key =
    subst (λ (o : Option PreprocessorKey). IsPreprocessorKey (world_for sha256 no_text asked) (call_for Default files.files asked) o) c.in-Some.is c.in_ok-key.ensures.key in
    let has : HasPreprocessorKey environment wanted.request (Some (string_bytes key.text)) = record {
      input = files.files;
      is_input = c.in_ok-files.ensures.input;
      asked = asked;
      is_request = is_request;
      is_key = own.0;
    } in
    let same = c.in_ok-key.ensures.keeps.same_map in
    IfOk-weaker c.look_for.result (λ (found : Found). IsCalm after → IsRequest environment wanted.request environment.now [] asked → IsKeyOver asked after.files key → IsFoundFor environment.reads_all wanted asked after.files key.text found) (IsLookResult environment wanted)
    (λ found is. found_all environment wanted key.text has found
    (subst (λ (m : FileMap). IsFoundFor environment.reads_all wanted asked m key.text found) same
    (is (calm_kept files after c.in_ok-key.ensures.keeps c.in_ok-files.ensures.calm) is_request (subst (λ (m : FileMap). IsKeyOver asked m key) (sym same) own))))
    c.look_for.ensures

pub returns : goal.returns
returns g c = record {
  input = c.in_ok-files.files.files;
  is_input = c.in_ok-files.ensures.input;
  asked = c.snapshot_request-asked.result;
  is_request = c.snapshot_request-asked.ensures c.args.wanted.now.request refl c.in_ok-hasher.ensures;
  is_key = rw c.in-None.is at c.in_ok-key.ensures.key;
}
