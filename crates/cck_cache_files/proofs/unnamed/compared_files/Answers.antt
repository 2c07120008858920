use Rattle.std.proofs.Common.{◌≡◌, ◌⊎◌, ◌∙◌, List, IsTrue, subst, sym}
use Rattle.std.proofs.lemmas.Bool.{false≢true}
use Rattle.cck_cache_text.specs.Names.{is_named}
use Rattle.cck_cache_files.specs.Copies.{AreKnown}
use Rattle.cck_include.specs.Marks.{Mark, Marks}
use Rattle.cck_path.specs.Bytes.{Bytes}
use Rattle.cck_cache_files.proofs.unnamed.compared_files.Goals.{else-may_import-via-then-may_import+else-not-want_no_file, else-may_import-via-else-may_import}
use Rattle.cck_cache_files.proofs.unnamed.compared_files.Goals as goal

pub returns-clause-compared : goal.returns-clause-compared
returns-clause-compared c =
    let files = c.args.files.now.files in
    let request = c.args.preprocessed.now.request.now in
    let known = c.in_ok-known.known.items in (
      elim c.else-may_import.branch [
        | else-may_import-via-then-may_import+else-not-want_no_file w ↦ λ q. absurd (false≢true (sym (w.if-not-want_no_file.ensures ∙ q.1)))
        | else-may_import-via-else-may_import w ↦ λ q. absurd (false≢true ((rw c.bytes.ensures at w.if-may_import.ensures).1 q.0))
      ],
      λ marks read. subst (λ (i : Bytes). AreKnown files request.directory.now (λ name. (name ≡ i) ⊎ IsTrue (is_named marks name)) known) c.as_bytes.ensures.value
          (subst (λ (d : Bytes). AreKnown files d (λ name. (name ≡ c.as_bytes.result.now) ⊎ IsTrue (is_named marks name)) known) c.as_bytes-directory.ensures.value (c.in_ok-known.ensures.known marks read)),
    )
