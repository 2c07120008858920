use Rattle.std.proofs.Common.{◌≡◌, ◌++◌, ◌∙◌, ap, sym, Some}
use Rattle.std.specs.String.{string_bytes}
use Rattle.cck_digest.specs.Digest.{digest_text}
use Rattle.cck_files.specs.FileDigest.{digest_text_at}
use Rattle.cck_path.specs.Path.{components}
use Rattle.c_cache_keys.proofs.Executable.{with_version, without_version}
use Rattle.c_cache_keys.proofs.c_compiler.CCompiler.new.Goals as goal
use Rattle.c_cache_keys.proofs.c_compiler.CCompiler.new.Goals.{in-Some+in_ok-executable_digest-in-Some, in-None}

pub returns-clause-digest : goal.returns-clause-digest
returns-clause-digest g c =
    let hash = g.H.HashState.hash in
    let m = g.F.Files.file_map c.args.files.now in
    let text = string_bytes c.in_ok-text.text in
    let version = g.I.CCompilerImpl.compiler.version (g.I.CCompilerImpl.value c.args.compiler) in
    let at : digest_text_at hash m (components c.args.executable.items) ≡ Some text = ap (λ s. digest_text_at hash m (components s)) (sym c.deref.ensures.value) ∙ c.in_ok-text.ensures.outcome in
    elim c.match-version.branch [
      | in-Some+in_ok-executable_digest-in-Some w ↦ with_version hash version m (components c.args.executable.items) text at c.version.result c.version.ensures
          w.in-Some.version (string_bytes c.match-version.executable_digest) w.in-Some.is
          (ap string_bytes w.executable_digest-is ∙ w.in_ok-executable_digest-in-Some.ensures ∙ ap (λ t. digest_text hash (t ++ w.in-Some.version.now)) w.deref-in-Some.ensures)
      | in-None w ↦ without_version hash version m (components c.args.executable.items) text at c.version.result c.version.ensures
          (string_bytes c.match-version.executable_digest) w.in-None.is (ap string_bytes w.executable_digest-is)
    ]
