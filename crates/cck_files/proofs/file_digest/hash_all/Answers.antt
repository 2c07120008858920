use Rattle.std.proofs.Common.{◌≡◌, ◌<◌, ◌≤◌, Some, [], ◌∷◌, length, map, get_or, ap, sym, ◌∙◌, arith, refl}
use Rattle.std.specs.Prelude.{string_bytes}
use Rattle.std.proofs.lemmas.List.{length-map, map-append, take_all}
use Rattle.cck_path.specs.Path.{components}
use Rattle.cck_files.specs.FileMap.{FileMap}
use Rattle.cck_files.proofs.CallsLemmas.{keeps_all, keeps_itself, rose_earlier}
use Rattle.cck_files.specs.FileDigest.{paths_of, digest_text_at, texts}
use Rattle.cck_files.proofs.TextLemmas.{path_at, texts_more, first_error}
use Rattle.cck_files.specs.Calls.{Rose}
use Rattle.cck_files.specs.Errors.{IsDigestError}
use Rattle.std.proofs.lemmas.Result.{err_from_is_err_and}
use Rattle.cck_files.proofs.file_digest.hash_all.Goals as goal

pub loop-path-preserved : goal.loop-path-preserved
loop-path-preserved g c =
    let hash = g.H.HashState.hash in
    let fm : FileMap = g.F.Files.file_map c.args.files.now in
    let xs = c.args.paths.now in
    let i = c.loop-path.path-index in
    let among : i < length xs = omega arith in
    let at : components c.deref.result.now ≡ get_or (paths_of xs) i [] = ap components c.deref.ensures.value ∙ path_at xs i c.path-item.result among c.path-item.is in
    let text : digest_text_at hash fm (get_or (paths_of xs) i []) ≡ Some (string_bytes c.in_ok-digest_path.field-0) =
    ap (digest_text_at hash fm) (sym at) ∙ (ap (λ m. digest_text_at hash m (components c.deref.result.now)) (sym c.loop-path.invariant.keeps.same_map) ∙ c.in_ok-digest_path.ensures.outcome) in
    record {
      keeps = keeps_all _ _ _ c.loop-path.invariant.keeps c.in_ok-digest_path.ensures.keeps;
      claim = texts_more hash fm (paths_of xs) i _ _ (simp length-map among) c.loop-path.invariant.claim text
          ∙ ap Some (sym (ap (map string_bytes) c.in_ok-push.ensures.items ∙ map-append string_bytes c.loop-path.all.items (c.in_ok-digest_path.field-0 ∷ [])));
    }

pub returns-in_err-digest_path-clause-keeps : goal.returns-in_err-digest_path-clause-keeps
returns-in_err-digest_path-clause-keeps g c = keeps_all _ _ _ c.loop-path.invariant.keeps c.in_err-digest_path.ensures.keeps

pub returns-in_err-push-clause-keeps : goal.returns-in_err-push-clause-keeps
returns-in_err-push-clause-keeps g c = keeps_all _ _ _ c.loop-path.invariant.keeps c.in_ok-digest_path.ensures.keeps

pub loop-path-init : goal.loop-path-init
loop-path-init g c = record { keeps = keeps_itself c.args.files.now; claim = rw c.new-all.ensures.items refl }

pub returns-in_err-digest_path-clause-outcome : goal.returns-in_err-digest_path-clause-outcome
returns-in_err-digest_path-clause-outcome g c =
    let F = g.F.Files in
    let fm : FileMap = F.file_map c.args.files.now in
    let xs = c.args.paths.now in
    let i = c.loop-path.path-index in
    let among : i < length xs = omega arith in
    let at : components c.deref.result.now ≡ get_or (paths_of xs) i [] = ap components c.deref.ensures.value ∙ path_at xs i c.path-item.result among c.path-item.is in
    let R = Rose (F.faults c.loop-path.files) (F.faults c.digest_path.new.files) in
    let S = Rose (F.faults c.args.files.now) (F.faults c.digest_path.new.files) in
    let e = c.in_err-digest_path.field-0.0 in
    let cause : IsDigestError fm (components c.deref.result.now) R e = rw (← c.loop-path.invariant.keeps.same_map) c.in_err-digest_path.ensures.outcome in
    let p = err_from_is_err_and c.from_residual.result c.from_residual.ensures.1 in
    rw (p.1, p.2) (first_error g.H.HashState.hash fm (paths_of xs) i _ (components c.deref.result.now) R S e (simp length-map among) c.loop-path.invariant.claim at
    (rose_earlier (F.faults c.args.files.now) (F.faults c.loop-path.files) (F.faults c.digest_path.new.files) c.loop-path.invariant.keeps.not_lower) cause)

pub returns-clause-outcome : goal.returns-clause-outcome
returns-clause-outcome g c =
    let xs = c.args.paths.now in
    let i = c.loop-path.path-index in
    let over : length xs ≤ i = omega arith in
    ap (texts g.H.HashState.hash (g.F.Files.file_map c.args.files.now)) (sym (take_all i (paths_of xs) (simp length-map over))) ∙ c.loop-path.invariant.claim
