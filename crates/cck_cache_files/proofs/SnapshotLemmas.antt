-- Files are put into a snapshot, and the quiet one keeps what it has.
use Rattle.std.proofs.Common.{◌≡◌, ◌⊎◌, ◌<◌, ◌+◌, ◌^◌, ◌∙◌, ℕ, inl, inr, arith, List, [], ◌∷◌, ◌++◌, Bool, false, Option, Some, Result, Ok, Err, OnErr, OnOk, cond, refl, sym, ap, subst}
use Rattle.std.specs.FinMap.{get, get-insert}
use Rattle.std.specs.Ordering.{is_eq}
use Rattle.std.specs.Option.{is_some}
use Rattle.std.specs.declared.cmp.Ordering.{Ordering}
use Rattle.std.specs.declared.cmp.Ordering.TheVariants.{Less, Equal, Greater}
use Rattle.std.proofs.lemmas.Bool.{false≢true}
use Rattle.std.proofs.lemmas.List.Elements.{Contains-append_left, Contains-push}
use Rattle.cck_digest.specs.declared.error.UtilError.{UtilError}
use Rattle.cck_files.specs.Calls.{Keeps, Rose}
use Rattle.cck_files.specs.FileMap.{FileMap, FileNode, exists_at}
use Rattle.cck_files.specs.FileState.{FileState, IsQuiet, fault_count}
use Rattle.cck_include.specs.Marks.{Mark, Name}
use Rattle.cck_path.specs.Bytes.{Bytes}
use Rattle.cck_path.specs.Path.{Path, components, joined, normal, path_cmp, path_cmp_total, path_cmp-IsAntisymmetric}
use Rattle.cck_path.specs.Text.{path_text}
use Rattle.cck_cache_files.specs.Snapshot.{ArePut, GrowsAt, SnapshotGrows, IsAdded, IsNamedFile, IsPart, IsNodePut, StaysCalm, named_path, none_put, one_more, with_node}

-- one node was put
pub added : (before after : FileState) (path : Bytes) (n : FileNode) → after ≡ record before { files = with_node before.files path n } → IsAdded before path after
added before after path n set =
    let files : after.files ≡ with_node before.files path n = ap (λ (s : FileState). s.files) set in
    record {
      put = inr (n, files);
      others = set ∙ ap (λ (m : FileMap). record before { files = m }) (sym files);
    }

-- nothing was put
pub added_none : (before : FileState) (path : Bytes) → IsAdded before path before
added_none before path = record { put = inl refl; others = refl }

-- a count of a quiet snapshot did not rise
pub still : (a b : ℕ) → b ≡ a → a + 1 < 2 ^ 64 → Rose a b → ⊥
still a b same low (inl up) = omega arith
still a b same low (inr high) = omega arith

-- a node at a free path is put in place of none
pub put_free : (before after : FileMap) (path : Bytes) → exists_at before (components path) ≡ false → IsNodePut before path after → IsPart before after
unfolding exists_at
put_free before after path free (inl none) p n held = ap (λ (m : FileMap). get m.nodes p) none ∙ held
put_free before after path free (inr some) p n held =
    ap (λ (m : FileMap). get m.nodes p) some.1 ∙ get-insert path_cmp_total before.nodes (components path) some.0 p ∙ go (path_cmp p (components path)) refl
  where
    go : (o : Ordering) → path_cmp p (components path) ≡ o → cond (is_eq o) (Some some.0) (get before.nodes p) ≡ Some n
    go Less is = held
    go Greater is = held
    go Equal is =
        let same : p ≡ components path = path_cmp-IsAntisymmetric p (components path) is in
        absurd (false≢true (sym free ∙ ap (λ (o : Option FileNode). is_some o) (sym (ap (get before.nodes) same) ∙ held)))

-- what was put after it was found that nothing is there
pub new_part : (old mid new : FileState) (path : Bytes) (r : Result (Unit {0}) UtilError) → Keeps (λ (s : FileState). s.files) fault_count IsQuiet old mid
    → ((exists_at old.files (components path) ≡ false) ⊎ Rose (fault_count old) (fault_count mid)) → OnOk r (IsAdded mid path new) → OnErr r (new ≡ mid) → IsQuiet old → (p : Path) (n : FileNode) → get old.files.nodes p ≡ Some n → get new.files.nodes p ≡ Some n
new_part old mid new path r keeps (inr rose) ok err quiet p n held = absurd (still (fault_count old) (fault_count mid) (keeps.stays_calm quiet) quiet.1 rose)
new_part old mid new path (Ok done) keeps (inl free) ok err quiet p n held =
    put_free old.files new.files path free (subst (λ (m : FileMap). IsNodePut m path new.files) keeps.same_map ok.put) p n held
new_part old mid new path (Err e) keeps (inl free) ok err quiet p n held =
    ap (λ (s : FileState). get s.files.nodes p) err ∙ ap (λ (m : FileMap). get m.nodes p) keeps.same_map ∙ held

-- a later part stays calm too
pub calm_all : (a b c : FileState) → StaysCalm a b → StaysCalm b c → StaysCalm a c
calm_all a b c h k = record {
  not_lower = omega (arith, h.not_lower, k.not_lower);
  stays_quiet = λ quiet. k.stays_quiet (h.stays_quiet quiet);
  stays_calm = λ quiet. k.stays_calm (h.stays_quiet quiet) ∙ h.stays_calm quiet;
}

pub calm_kept : (a b : FileState) → Keeps (λ (s : FileState). s.files) fault_count IsQuiet a b → StaysCalm a b
calm_kept a b h = record { not_lower = h.not_lower; stays_quiet = h.stays_quiet; stays_calm = h.stays_calm }

pub calm_itself : (a : FileState) → StaysCalm a a
calm_itself a = record { not_lower = omega arith; stays_quiet = λ quiet. quiet; stays_calm = λ quiet. refl }

-- files at paths of one kind are at paths of another that has them all
pub put_among : (At Among : Bytes → Type 0) (a b : FileMap) → ((path : Bytes) → At path → Among path) → ArePut At a b → ArePut Among a b
put_among At Among a b all (none_put same) = none_put same
put_among At Among a b all (one_more m path before at is) = one_more m path (put_among At Among a m all before) (all path at) is

pub grows_not : (At : Bytes → Type 0) (a : FileState) → SnapshotGrows At a a
grows_not At a = record { put = none_put refl; kept = λ quiet p n held. held; calm = calm_itself a }

pub grows_among : (At Among : Bytes → Type 0) (a b : FileState) → ((path : Bytes) → At path → Among path) → SnapshotGrows At a b → SnapshotGrows Among a b
grows_among At Among a b all grown = record { put = put_among At Among a.files b.files all grown.put; kept = grown.kept; calm = grown.calm }

-- one file more
pub grows_more : (At : Bytes → Type 0) (a b c : FileState) (path : Bytes) → SnapshotGrows At a b → At path → IsNodePut b.files path c.files → (IsQuiet b → IsPart b.files c.files) → StaysCalm b c → SnapshotGrows At a c
grows_more At a b c path grown at put kept calm = record {
  put = one_more b.files path grown.put at put;
  kept = λ quiet p n held. kept (grown.calm.stays_quiet quiet) p n (grown.kept quiet p n held);
  calm = calm_all a b c grown.calm calm;
}

-- calls that put nothing
pub grows_kept : (At : Bytes → Type 0) (a b c : FileState) → SnapshotGrows At a b → Keeps (λ (s : FileState). s.files) fault_count IsQuiet b c → SnapshotGrows At a c
grows_kept At a b c grown keeps = record {
  put = subst (λ (m : FileMap). ArePut At a.files m) (sym keeps.same_map) grown.put;
  kept = λ quiet p n held. ap (λ (m : FileMap). get m.nodes p) keeps.same_map ∙ grown.kept quiet p n held;
  calm = calm_all a b c grown.calm (calm_kept b c keeps);
}

-- what is named by some marks is named by more
pub named_more : (done : List Mark) (mark : Mark) (cwd path : Bytes) → IsNamedFile done cwd path → IsNamedFile (done ++ mark ∷ []) cwd path
named_more done mark cwd path named = record {
  name = named.name;
  is_system = named.is_system;
  among = Contains-append_left done (mark ∷ []) (Name named.name named.is_system) named.among;
  leads = named.leads;
}

pub grows_named : (done : List Mark) (mark : Mark) (cwd : Bytes) (a b : FileState) → SnapshotGrows (IsNamedFile done cwd) a b → SnapshotGrows (IsNamedFile (done ++ mark ∷ []) cwd) a b
grows_named done mark cwd a b =
    grows_among (IsNamedFile done cwd) (IsNamedFile (done ++ mark ∷ []) cwd) a b (named_more done mark cwd)

put_both : (At : Bytes → Type 0) (a b c : FileMap) → ArePut At a b → ArePut At b c → ArePut At a c
put_both At a b c first (none_put same) = subst (λ (m : FileMap). ArePut At a m) (sym same) first
put_both At a b c first (one_more m path before at is) = one_more m path (put_both At a b m first before) at is

grows_both : (At : Bytes → Type 0) (a b c : FileState) → SnapshotGrows At a b → SnapshotGrows At b c → SnapshotGrows At a c
grows_both At a b c first second = record {
  put = put_both At a.files b.files c.files first.put second.put;
  kept = λ quiet p n held. second.kept (first.calm.stays_quiet quiet) p n (first.kept quiet p n held);
  calm = calm_all a b c first.calm second.calm;
}

-- the file of one mark more
pub grows_by_name : (done : List Mark) (name : Bytes) (is_system : Bool) (cwd : Bytes) (a b c : FileState)
    → SnapshotGrows (IsNamedFile done cwd) a b → GrowsAt (named_path cwd name) b c
    → SnapshotGrows (IsNamedFile (done ++ Name name is_system ∷ []) cwd) a c
grows_by_name done name is_system cwd a b c grown more =
    let All : Bytes → Type 0 = IsNamedFile (done ++ Name name is_system ∷ []) cwd in
    grows_both All a b c
    (grows_named done (Name name is_system) cwd a b grown)
    (grows_among (λ at. at ≡ named_path cwd name) All b c
    (λ path leads. record { name = name; is_system = is_system; among = Contains-push done (Name name is_system); leads = leads }) more)

-- nothing is put
pub grows_not_at : (path : Bytes) (a : FileState) → GrowsAt path a a
grows_not_at path a = grows_not (λ at. at ≡ path) a

-- a file is put at a path
pub grows_at : (named path : Bytes) (a b : FileState) (r : Result (Unit {0}) UtilError) → path ≡ named → OnOk r (IsNodePut a.files path b.files) → (IsQuiet a → IsPart a.files b.files) → StaysCalm a b → OnOk r (GrowsAt named a b)
grows_at named path a b (Ok done) same put kept calm = grows_more (λ at. at ≡ named) a a b path (grows_not (λ at. at ≡ named) a) same put kept calm
grows_at named path a b (Err e) same put kept calm = tt

-- the path that joins a name to the working directory leads to its file
pub leads_by : (cwd name whole text path at : Bytes) → components whole ≡ joined (components cwd) (components name) → text ≡ whole → path ≡ path_text (normal (components text)) → at ≡ path → at ≡ named_path cwd name
leads_by cwd name whole text path at is same leads there =
    there ∙ (leads ∙ (ap (λ (b : Bytes). path_text (normal (components b))) same ∙ ap (λ (p : Path). path_text (normal p)) is))
