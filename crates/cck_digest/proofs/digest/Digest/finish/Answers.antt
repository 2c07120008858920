use Rattle.std.proofs.Common.{arith, ap, length}
use Rattle.std.proofs.lemmas.Result.{IfOk-weaker}
use Rattle.cck_digest.proofs.HexLemmas.{hex_length}
use Rattle.cck_digest.proofs.digest.Digest.finish.Goals as goal

pub returns-clause-digits : goal.returns-clause-digits
returns-clause-digits g c = IfOk-weaker c.hex.result _ _
    (λ text is. omega (arith, ap length is, hex_length c.out-out.result, c.out-out.type_inv)) c.hex.ensures.text
