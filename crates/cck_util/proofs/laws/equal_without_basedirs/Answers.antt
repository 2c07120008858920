use Rattle.std.proofs.Common.{◌≡◌, ap}
use Rattle.cck_digest.specs.Digest.{digest_text}
use Rattle.cck_util.specs.Key.{KeyParts, key_parts, material}
use Rattle.cck_util.proofs.laws.equal_without_basedirs.Goals as goal

pub returns : goal.returns
returns c = λ hash p basedirs arguments output same_arguments same_output.
    let first : ◌≡◌ {A = KeyParts} (key_parts (record p { basedirs = basedirs; arguments = arguments; preprocessor_output = output }))
    (key_parts p) = cc in
    ap (λ parts. digest_text hash (material parts)) first
