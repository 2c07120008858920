use Rattle.std.proofs.Common.{◌≡◌, ◌∷◌, ◌++◌, [], ℕ, List, Option, IfSome, string_bytes, ap, rules, subst, sym}
use Rattle.cck_cache_files.specs.Listing.{AddsFilesIn, AreFileNames, IsFileNamed}
use Rattle.cck_cache_files.specs.declared.listing.StoredFile.{StoredFile}
use Rattle.cck_cache_files.proofs.ListingLemmas.{name_at, one_added}
use Rattle.cck_cache_files.proofs.listing.add_files.Goals as goal
use Rattle.cck_cache_files.proofs.listing.add_files.Goals.{in-Some+in_ok-push, in_default}

pub loop-name-preserved : goal.loop-name-preserved
loop-name-preserved g c =
    let directory = c.args.directory.now in
    let first = c.args.files.now.items in
    let name = c.name-item.result in
    let P : List StoredFile → Type 0 = λ files. AddsFilesIn directory first files in
    let Q : Option StoredFile → Type 0 = λ found. IfSome found (IsFileNamed directory c.as_str.result.now) in
    elim c.match-branch-3.branch [
      | in-Some+in_ok-push w ↦
          let pushed : w.push.new.self.items ≡ c.loop-name.files.items ++ w.in-Some.file ∷ [] = search rules in
          let R : List ℕ → Type 0 = λ bytes. IsFileNamed directory bytes w.in-Some.file in
          let listed = name_at c.deref-name-items.result.now c.loop-name.name-index name (subst AreFileNames (sym c.deref-name-items.ensures.value) c.in_ok-names.ensures) c.loop-name-test.true c.name-item.is in
          subst P (sym (ap (λ files. files.items) w.files-is))
          (one_added directory first c.loop-name.files.items w.push.new.self.items w.in-Some.file c.loop-name.invariant pushed
          (string_bytes name, listed, subst R c.as_str.ensures.value (subst Q w.in-Some.is c.in_ok-file.ensures)))
      | in_default w ↦ subst P (sym (ap (λ files. files.items) w.files-is)) c.loop-name.invariant
    ]
