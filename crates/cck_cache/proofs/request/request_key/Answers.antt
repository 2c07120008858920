use Rattle.std.proofs.Common.{Option}
use Rattle.std.proofs.lemmas.Result.{IfOk-weaker}
use Rattle.std.specs.Option.{option_map}
use Rattle.std.specs.Prelude.{String, string_bytes}
use Rattle.std.specs.declared.alloc.Global.{Global}
use Rattle.cck_cache.specs.Input.{IsInput}
use Rattle.cck_cache.specs.Request.{HasPreprocessorKey, IsHasher}
use Rattle.cck_cache.proofs.request.request_key.Goals as goal

pub returns : goal.returns
returns g c =
    let environment = c.args.environment.now in
    let request = c.args.request.now in
    let files = c.args.files.now.files in
    IfOk-weaker c.key_by.result
    (λ (key : Option (String Global)). IsHasher environment request c.in_ok-hasher.hasher → IsInput request files → HasPreprocessorKey environment request (option_map string_bytes key))
    (λ (key : Option (String Global)). IsInput request files → HasPreprocessorKey environment request (option_map string_bytes key))
    (λ key has is_input. has c.in_ok-hasher.ensures is_input) c.key_by.ensures
