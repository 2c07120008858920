use Rattle.std.proofs.Common.{◌≡◌, ◌++◌, ◌<◌, length, map, ap, sym, subst, append-nil, refl, ◌∙◌, arith, get_or, [], ◌∷◌, List, ℕ}
use Rattle.std.specs.Prelude.{vec_items}
use Rattle.std.specs.Option.{option_copied}
use Rattle.std.proofs.lemmas.List.{length-map}
use Rattle.std.proofs.lemmas.Result.{err_from_is_err_and}
use Rattle.cck_path.specs.Path.{Path, Name, components, joined}
use Rattle.cck_path.specs.declared.metadata.FileKind.TheVariants.{File, Folder}
use Rattle.cck_files.specs.Calls.{Rose}
use Rattle.cck_files.proofs.CallsLemmas.{keeps_all, rose_earlier}
use Rattle.cck_files.specs.Folder.{AreChildNames, child_name}
use Rattle.cck_files.proofs.FolderSteps.{fed_all, fed_child, fed_more}
use Rattle.cck_files.proofs.NodeLemmas.{IsAt, at_metadata, child_at, child_failed, child_exists, contents_failed, fed_file, fed_folder, listing_failed, metadata_failed, name_at, other_kind, exists_of, too_deep}
use Rattle.cck_files.proofs.folder.+feed_node.Goals as goal

pub returns-in_err-metadata-clause-outcome : goal.returns-in_err-metadata-clause-outcome
returns-in_err-metadata-clause-outcome g t c =
    let p = err_from_is_err_and c.from_residual.result c.from_residual.ensures.1 in
    rw (p.1, p.2) (metadata_failed (g.F.Files.file_map c.args.files.now) (components c.args.path.now) c.args.level
    (Rose (g.F.Files.faults c.args.files.now) (g.F.Files.faults c.metadata.new.self)) c.in_err-metadata.field-0.0 c.in_err-metadata.ensures.outcome)

pub returns-in_err-feed_named-in-File-clause-outcome :
    goal.returns-in_err-feed_named-in-File-clause-outcome
returns-in_err-feed_named-in-File-clause-outcome g t c =
    let p = err_from_is_err_and c.from_residual-in_err-feed_named-in-File.result c.from_residual-in_err-feed_named-in-File.ensures.1 in
    let file : IsAt (g.F.Files.file_map c.args.files.now) (components c.args.path.now) File = at_metadata _ _ _ _ c.in_ok-metadata.ensures.outcome c.in-File.is in
    let rose = rose_earlier (g.F.Files.faults c.args.files.now) (g.F.Files.faults c.metadata.new.self) (g.F.Files.faults c.feed_named.new.files) c.metadata.ensures.keeps.not_lower in
    rw (p.1, p.2) (contents_failed _ _ (g.F.Files.file_map c.metadata.new.self) c.args.level _ _ c.in_err-feed_named-in-File.field-0.0
    c.metadata.ensures.keeps.same_map file rose c.in_err-feed_named-in-File.ensures.outcome)

pub returns-then-level-gt-FOLDER_LEVELS-clause-outcome :
    goal.returns-then-level-gt-FOLDER_LEVELS-clause-outcome
returns-then-level-gt-FOLDER_LEVELS-clause-outcome g t c =
    too_deep _ _ _ (at_metadata _ _ _ _ c.in_ok-metadata.ensures.outcome c.in-Folder.is) (omega (arith, c.if-level-gt-FOLDER_LEVELS.true))

pub returns-in_err-names-in-Folder-clause-outcome :
    goal.returns-in_err-names-in-Folder-clause-outcome
returns-in_err-names-in-Folder-clause-outcome g t c =
    let p = err_from_is_err_and c.from_residual-in_err-names-in-Folder.result c.from_residual-in_err-names-in-Folder.ensures.1 in
    let folder : IsAt (g.F.Files.file_map c.args.files.now) (components c.args.path.now) Folder = at_metadata _ _ _ _ c.in_ok-metadata.ensures.outcome c.in-Folder.is in
    let rose = rose_earlier (g.F.Files.faults c.args.files.now) (g.F.Files.faults c.metadata.new.self) (g.F.Files.faults c.sorted_names.new.files) c.metadata.ensures.keeps.not_lower in
    rw (p.1, p.2) (listing_failed _ _ (g.F.Files.file_map c.metadata.new.self) c.args.level _ _ c.in_err-names-in-Folder.field-0.0
    c.metadata.ensures.keeps.same_map folder rose c.in_err-names-in-Folder.ensures.outcome)

pub returns-in_err-feed_node-in-Folder-clause-outcome :
    goal.returns-in_err-feed_node-in-Folder-clause-outcome
returns-in_err-feed_node-in-Folder-clause-outcome g t c =
    let fm = g.F.Files.file_map c.args.files.now in
    let path : Path = components c.args.path.now in
    let xs = c.deref-child-items.result.now in
    let names : List (List ℕ) = map vec_items xs in
    let i = c.loop-child.child-index in
    let among : i < length xs = omega arith in
    let here : i < length names = simp length-map among in
    let order : AreChildNames fm.nodes path names = rw (c.deref-child-items.ensures.value, ← c.metadata.ensures.keeps.same_map) c.in_ok-names-in-Folder.ensures.outcome in
    let is : c.deref.result.now ≡ get_or names i [] = c.deref.ensures.value ∙ name_at xs i c.child-item.result among c.child-item.is in
    let at : components c.deref-in-loop-child-2.result.now ≡ path ++ Name (get_or names i []) ∷ [] =
    child_at fm path _ c.deref.result.now names i here order is (◌∙◌ {c = joined path (components c.deref.result.now)} (ap components c.deref-in-loop-child-2.ensures.value) c.in_ok-child_path-in-Folder.ensures.components) in
    let p = err_from_is_err_and c.from_residual-in_err-feed_node-in-Folder.result c.from_residual-in_err-feed_node-in-Folder.ensures.1 in
    let rose = rose_earlier (g.F.Files.faults c.args.files.now) (g.F.Files.faults c.loop-child.files) (g.F.Files.faults c.feed_node.new.files) c.loop-child.invariant.keeps.not_lower in
    rw (p.1, p.2) (child_failed fm path (g.F.Files.file_map c.loop-child.files) (components c.deref-in-loop-child-2.result.now) names i c.args.level _ _ c.in_err-feed_node-in-Folder.field-0.0
    c.loop-child.invariant.keeps.same_map here order at
    (at_metadata _ _ _ _ c.in_ok-metadata.ensures.outcome c.in-Folder.is)
    (child_exists fm path _ names i here order at)
    rose c.in_err-feed_node-in-Folder.ensures.outcome)

pub loop-child-preserved : goal.loop-child-preserved
loop-child-preserved g t c =
    let fm = g.F.Files.file_map c.args.files.now in
    let path : Path = components c.args.path.now in
    let xs = c.deref-child-items.result.now in
    let names : List (List ℕ) = map vec_items xs in
    let i = c.loop-child.child-index in
    let among : i < length xs = omega arith in
    let here : i < length names = simp length-map among in
    let order : AreChildNames fm.nodes path names = rw (c.deref-child-items.ensures.value, ← c.metadata.ensures.keeps.same_map) c.in_ok-names-in-Folder.ensures.outcome in
    let is : c.deref.result.now ≡ get_or names i [] = c.deref.ensures.value ∙ name_at xs i c.child-item.result among c.child-item.is in
    let at : components c.deref-in-loop-child-2.result.now ≡ path ++ Name (get_or names i []) ∷ [] =
    child_at fm path _ c.deref.result.now names i here order is (◌∙◌ {c = joined path (components c.deref.result.now)} (ap components c.deref-in-loop-child-2.ensures.value) c.in_ok-child_path-in-Folder.ensures.components) in
    let named : c.deref-in-loop-child-3.result.now ≡ child_name (option_copied c.args.name) (get_or names i []) =
    c.deref-in-loop-child-3.ensures.value ∙ (c.in_ok-child_name-in-Folder.ensures ∙ ap (child_name (option_copied c.args.name)) (c.deref-in-loop-child.ensures.value ∙ name_at xs i c.child-item.result among c.child-item.is)) in
    record {
      keeps = keeps_all _ _ _ c.loop-child.invariant.keeps c.in_ok-feed_node-in-Folder.ensures.keeps;
      room = omega arith;
      fed = fed_more g.H.HashState.holds c.args.level (option_copied c.args.name) fm.nodes path names i c.args.digest.now c.loop-child.digest c.feed_node.new.digest here c.loop-child.invariant.fed
          (fed_child g.H.HashState.holds c.args.level (option_copied c.args.name) fm.nodes path (components c.deref-in-loop-child-2.result.now) (get_or names i []) c.loop-child.digest c.feed_node.new.digest at
          (rw (← named, ← c.loop-child.invariant.keeps.same_map) c.in_ok-feed_node-in-Folder.ensures.outcome.1));
    }

pub returns-in_ok-feed_named-in-File-clause-outcome :
    goal.returns-in_ok-feed_named-in-File-clause-outcome
returns-in_ok-feed_named-in-File-clause-outcome g t c =
    let fm = g.F.Files.file_map c.args.files.now in
    let file : IsAt fm (components c.args.path.now) File = at_metadata _ _ _ _ c.in_ok-metadata.ensures.outcome c.in-File.is in (
      exists_of _ _ _ file,
      fed_file _ _ _ _ _ _ _ file (rw (← c.metadata.ensures.keeps.same_map) c.in_ok-feed_named-in-File.ensures.outcome),
    )

pub returns-after-loop-child-clause-outcome : goal.returns-after-loop-child-clause-outcome
returns-after-loop-child-clause-outcome g t c =
    let fm = g.F.Files.file_map c.args.files.now in
    let path : Path = components c.args.path.now in
    let names : List (List ℕ) = map vec_items c.deref-child-items.result.now in
    let order : AreChildNames fm.nodes path names = rw (c.deref-child-items.ensures.value, ← c.metadata.ensures.keeps.same_map) c.in_ok-names-in-Folder.ensures.outcome in
    let folder : IsAt fm path Folder = at_metadata _ _ _ _ c.in_ok-metadata.ensures.outcome c.in-Folder.is in (
      exists_of _ _ _ folder,
      fed_folder fm path g.H.HashState.holds c.args.level (option_copied c.args.name) c.args.digest.now c.loop-child.digest folder (omega arith)
          (fed_all _ _ _ _ _ names c.loop-child.child-index _ _ (simp length-map (omega arith)) order c.loop-child.invariant.fed),
    )

pub returns-in-Other-clause-outcome : goal.returns-in-Other-clause-outcome
returns-in-Other-clause-outcome g t c = other_kind _ _ (at_metadata _ _ _ _ c.in_ok-metadata.ensures.outcome c.in-Other.is)

pub returns-in_err-feed_named-in-File-clause-keeps : goal.returns-in_err-feed_named-in-File-clause-keeps
returns-in_err-feed_named-in-File-clause-keeps g t c = keeps_all _ _ _ c.metadata.ensures.keeps c.in_err-feed_named-in-File.ensures.keeps

pub returns-in_ok-feed_named-in-File-clause-keeps : goal.returns-in_ok-feed_named-in-File-clause-keeps
returns-in_ok-feed_named-in-File-clause-keeps g t c = keeps_all _ _ _ c.metadata.ensures.keeps c.in_ok-feed_named-in-File.ensures.keeps

pub returns-in_err-names-in-Folder-clause-keeps : goal.returns-in_err-names-in-Folder-clause-keeps
returns-in_err-names-in-Folder-clause-keeps g t c = keeps_all _ _ _ c.metadata.ensures.keeps c.in_err-names-in-Folder.ensures.keeps

pub returns-in_err-feed_node-in-Folder-clause-keeps : goal.returns-in_err-feed_node-in-Folder-clause-keeps
returns-in_err-feed_node-in-Folder-clause-keeps g t c = keeps_all _ _ _ c.loop-child.invariant.keeps c.in_err-feed_node-in-Folder.ensures.keeps

pub loop-child-init : goal.loop-child-init
loop-child-init g t c = record {
  keeps = keeps_all _ _ _ c.metadata.ensures.keeps c.in_ok-names-in-Folder.ensures.keeps;
  room = omega arith;
  fed = record {
    none_other = refl;
    none_too_deep = refl;
    fed = λ fed h. subst (g.H.HashState.holds c.args.digest.now) (sym (append-nil fed)) h;
  };
}
