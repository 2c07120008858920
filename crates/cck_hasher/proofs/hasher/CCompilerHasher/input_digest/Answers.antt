use Rattle.std.proofs.Common.{ap, option_map}
use Rattle.std.specs.Prelude.{string_bytes}
use Rattle.cck_files.specs.Calls.{Rose}
use Rattle.cck_files.specs.FileMap.{file_at}
use Rattle.cck_path.specs.Path.{components}
use Rattle.cck_hasher.proofs.Opened.{digest_of_input}
use Rattle.cck_hasher.specs.Conditions.{call_under, given_of, world_under}
use Rattle.cck_hasher.proofs.hasher.CCompilerHasher.input_digest.Goals as goal

pub returns-in-Ok-clause-outcome : goal.returns-in-Ok-clause-outcome
returns-in-Ok-clause-outcome g c = λ at.
    let w = world_under g.H.HashState.hash g.I.CCompilerImpl.compiler (given_of c.args.conditions.now) in
    let files = g.F.Files.file_map c.args.files.now in
    let call = call_under g.I.CCompilerImpl.value files c.args.self.now (given_of c.args.conditions.now) in
    let F = Rose (g.F.Files.faults c.args.files.now) (g.F.Files.faults c.recorded_digest.new.files) in
    digest_of_input w call F (option_map string_bytes c.in-Ok.digest) _ (ap (λ p. file_at files (components p)) at) c.in-Ok.ensures.outcome
