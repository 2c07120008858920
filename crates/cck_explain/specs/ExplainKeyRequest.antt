-- the parts of the key that an `ExplainKeyRequest` asks for
use Rattle.cck_path.specs.Bytes.{Bytes, lists_of}
use Rattle.cck_util.specs.Key.{Params, plain_params}
use Rattle.cck_explain.specs.declared.request.ExplainKeyRequest.{ExplainKeyRequest}

-- what is passed for the key of this text
abbrev pub params_for : ExplainKeyRequest → Bytes → Params
params_for request text =
    record (plain_params request.compiler_digest.now request.language (lists_of request.arguments.items) text) { basedirs = lists_of request.basedirs.items }
