use Rattle.std.proofs.Common.{◌≡◌, ◌∙◌, Some, ap, inl, inr, map, subst, sym}
use Rattle.std.proofs.lemmas.Result.{MatchResult-from_both, MatchResult-weaker}
use Rattle.std.specs.FinMap.{get}
use Rattle.std.specs.Prelude.{vec_items}
use Rattle.cck_path.specs.Path.{components}
use Rattle.cck_files.proofs.NamesLemmas.{listing}
use Rattle.cck_files.specs.FileMap.{folder_at, folder_if, folder_in}
use Rattle.cck_files.specs.FileState.{node_at}
use Rattle.cck_files.proofs.map_files.calls.MapFilesFiles.read_dir.Goals as goal
use Rattle.cck_files.proofs.map_files.calls.MapFilesFiles.read_dir.Goals.{in-File, in-Folder}

pub returns-clause-outcome : goal.returns-clause-outcome
unfolding folder_at
returns-clause-outcome c =
    let path = components c.args.path.now in
    let node = node_at c.in-Some.place.now in
    elim c.match-place-2.branch [
      | in-File w ↦ rw (w.result-is, ← c.begin.ensures.files)
          (ap folder_in c.in-Some.ensures.0 ∙ elim w.in-File.is [ inl file ↦ ap folder_if file | inr other ↦ ap folder_if other ])
      | in-Folder w ↦ rw (w.result-is, ← c.begin.ensures.files, ← c.self.view_is)
          (MatchResult-weaker w.child_names.result (MatchResult-from_both w.child_names.result _ _ w.child_names.ensures.names w.child_names.ensures.errors)
          (λ names children. listing c.self.inside.places path node (map vec_items names.items) (subst (λ state. get state.files.nodes path ≡ Some node) (sym c.self.view_is) c.in-Some.ensures.0) w.in-Folder.is children)
          (λ e memory. rw memory tt))
    ]
