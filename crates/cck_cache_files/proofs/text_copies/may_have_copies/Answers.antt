use Rattle.std.proofs.Common.{◌≡◌, ◌⊎◌, IsTrue, subst}
use Rattle.cck_cache_files.specs.TextCopies.{IsPathOfText, MayImport}
use Rattle.cck_cache_files.specs.Copies.{IsPathOfName}
use Rattle.cck_cache_files.proofs.ReadOnceLemmas.{copies_same}
use Rattle.cck_cache_text.specs.Names.{is_named}
use Rattle.cck_cache_text.specs.Sets.{IsSetOf, has_key}
use Rattle.cck_path.specs.Bytes.{Bytes}
use Rattle.cck_cache_files.proofs.text_copies.may_have_copies.Goals as goal

pub returns-clause-found : goal.returns-clause-found
returns-clause-found c = λ marks named.
    let request = c.args.preprocessed.now.request.now in
    let text = c.args.preprocessed.now.text.now in
    let paths = c.in_ok-paths.paths in
    let are : IsSetOf (IsPathOfText request marks) paths =
    subst (λ (d : Bytes). IsSetOf (IsPathOfName (λ name. (name ≡ request.input.now) ⊎ IsTrue (is_named marks name)) d) paths) c.as_bytes-directory.ensures.value
    (subst (λ (i : Bytes). IsSetOf (IsPathOfName (λ name. (name ≡ i) ⊎ IsTrue (is_named marks name)) c.as_bytes-directory.result.now) paths) c.as_bytes.ensures.value (c.in_ok-paths.ensures.paths marks named))
    in
    copies_same c.args.files.now.files (IsTrue c.may_import.result) (MayImport text) (λ path. IsTrue (has_key paths path)) (IsPathOfText request marks) _ (rw c.bytes.ensures at c.may_import.ensures) are c.in_ok-found.ensures.found
