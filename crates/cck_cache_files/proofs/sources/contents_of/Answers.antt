use Rattle.std.proofs.Common.{◌≡◌, ◌∙◌, ap, subst}
use Rattle.std.specs.Option.{option_map}
use Rattle.cck_path.specs.Bytes.{Bytes}
use Rattle.cck_path.specs.Path.{Path, components, normal}
use Rattle.cck_path.specs.Text.{path_text}
use Rattle.cck_cache_files.specs.Snapshot.{named_path}
use Rattle.cck_cache_files.specs.Sources.{IsContentsAt}
use Rattle.cck_cache_files.proofs.sources.contents_of.Goals as goal

pub returns-clause-contents : goal.returns-clause-contents
returns-clause-contents c =
    let leads : c.deref-2.result.now ≡ named_path c.args.directory.now c.args.name.now =
    c.deref-2.ensures.value ∙ (c.in_ok-path.ensures.bytes ∙ (ap (λ (b : Bytes). path_text (normal (components b))) c.deref.ensures.value ∙ ap (λ (p : Path). path_text (normal p)) c.in_ok-joined.ensures.components))
    in
    subst (λ (p : Bytes). IsContentsAt c.args.files.now.files p (option_map (λ c. c.items) c.in_ok-found.found)) leads c.in_ok-found.ensures.contents
