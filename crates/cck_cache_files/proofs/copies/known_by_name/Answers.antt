use Rattle.std.proofs.Common.{◌≡◌, ◌∙◌, ap, subst}
use Rattle.cck_path.specs.Bytes.{Bytes}
use Rattle.cck_path.specs.Path.{Path, components, normal}
use Rattle.cck_path.specs.Text.{path_text}
use Rattle.cck_cache_files.specs.Copies.{IsKnownAt}
use Rattle.cck_cache_files.specs.Snapshot.{named_path}
use Rattle.cck_cache_files.proofs.copies.known_by_name.Goals as goal

pub returns-clause-known : goal.returns-clause-known
returns-clause-known c =
    let leads : c.deref-2.result.now ≡ named_path c.args.directory.now c.args.name.now =
    c.deref-2.ensures.value ∙ (c.in_ok-path.ensures.bytes ∙ (ap (λ (b : Bytes). path_text (normal (components b))) c.deref.ensures.value ∙ ap (λ (p : Path). path_text (normal p)) c.in_ok-joined.ensures.components))
    in
    subst (λ (p : Bytes). IsKnownAt c.args.files.now.files p c.in_ok-known.known) leads c.in_ok-known.ensures.known
