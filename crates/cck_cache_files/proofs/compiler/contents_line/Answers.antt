use Rattle.std.proofs.Common.{◌≡◌, ◌∷◌, ◌++◌, ◌∙◌, [], List, ℕ, ap, string_bytes}
use Rattle.cck_digest.specs.Digest.{digest_text}
use Rattle.cck_cache_files.proofs.compiler.contents_line.Goals as goal

pub returns : goal.returns
returns g c =
    let text : string_bytes c.in_ok-digest.digest ≡ digest_text g.H.HashState.hash c.deref.result.now = c.in_ok-digest.ensures c.deref.result.now (c.update.ensures [] c.new-digest.ensures) in
    (c.deref.result.now, c.in_ok-format.ensures.ok ∙ ap (λ (digits : List ℕ). c.args.path.now ++ (32 ∷ (digits ++ 10 ∷ []))) text)
