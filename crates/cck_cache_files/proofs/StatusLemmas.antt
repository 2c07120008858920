-- What is known of paths is as it was recorded.
use Rattle.std.proofs.Common.{◌≡◌, ◌≢◌, ◌<◌, ◌∙◌, ℕ, List, [], true, false, Some, None, cond, length, get_or, sym, ap, refl, subst, inl, inr, ⊎_elim, arith, BuildHasherDefault, FoldHasher}
use Rattle.std.proofs.lemmas.Bool.{cases_Bool}
use Rattle.std.proofs.lemmas.Cmp.{nat_list_eq_equiv}
use Rattle.std.proofs.lemmas.Slice.Eq.{bytes_eq-Decides}
use Rattle.std.proofs.lemmas.List.{get_or-map, length-map}
use Rattle.std.proofs.lemmas.List.Elements.{Contains-push_cases}
use Rattle.std.specs.FinMap.{empty, get, get-empty, get-insert, insert}
use Rattle.std.specs.Global.{Vec}
use Rattle.std.specs.HashMap.{HashMap, UpdatesBy}
use Rattle.std.specs.Prelude.{Contains}
use Rattle.std.specs.Map.{KeepsOthers, lookup}
use Rattle.std.specs.Str.{bytes_eq}
use Rattle.std.specs.declared.cmp.Ordering.{Ordering}
use Rattle.std.specs.declared.cmp.Ordering.TheVariants.{Equal, Greater, Less}
use Rattle.std.specs.Ordering.{is_eq}
use Rattle.cck_cache_rules.specs.PathStatus.{Status, status_of, statuses_of}
use Rattle.cck_cache_rules.specs.declared.path_status.PathStatus.{PathStatus}
use Rattle.cck_entry.specs.Statuses.{Statuses}
use Rattle.cck_path.specs.Path.{components, path_cmp, path_cmp-IsAntisymmetric, path_cmp_total}
use Rattle.cck_path.specs.Timestamp.{Moment}
use Rattle.cck_path.specs.declared.metadata.Metadata.{Metadata}
use Rattle.cck_cache_files.proofs.StateLemmas.{apart, same_name}
use Rattle.cck_cache_files.specs.PathStatuses.{AreAsRecorded, AreDirectoriesAsRecorded, AreStatusesBefore, IsAsRecorded, IsStatusAdded, IsStatusBefore, directory_at}

pub nothing_known : (recorded : List Status) → AreAsRecorded recorded empty
nothing_known recorded p m known = let none : None ≡ Some m = sym (get-empty path_cmp p) ∙ known in cc

contained : (all : List PathStatus) (i : ℕ) (status : PathStatus) → i < length all → status ≡ get_or all i status → Contains (statuses_of all) (status_of status)
contained all i status within is = (i, omega (arith, length-map all status_of), get_or-map status_of all i status (status_of status) within ∙ ap status_of (sym is))

-- one of these statuses says what is known of its path now
pub one_more_known : (all : List PathStatus) (i : ℕ) (status : PathStatus) (known : Statuses) (m : Metadata) → i < length all → status ≡ get_or all i status → m.modified ≡ Some status.modified
    → m.changed ≡ Some status.changed → AreAsRecorded (statuses_of all) known → AreAsRecorded (statuses_of all) (insert known (components status.path.items) m)
one_more_known all i status known m within is modified changed are p n found =
    go (path_cmp p (components status.path.items)) refl (sym (get-insert path_cmp_total known (components status.path.items) m p) ∙ found)
  where
    go : (o : Ordering) → path_cmp p (components status.path.items) ≡ o → cond (is_eq o) (Some m) (get known p) ≡ Some n → IsAsRecorded (statuses_of all) p n
    go Less same known_at = are p n known_at
    go Greater same known_at = are p n known_at
    go Equal same known_at =
        let here : m ≡ n = cc in
        record {
          status = status_of status;
          is_one = contained all i status within is;
          path = sym (path_cmp-IsAntisymmetric p (components status.path.items) same);
          modified = ap (λ (x : Metadata). x.modified) (sym here) ∙ modified;
          changed = ap (λ (x : Metadata). x.changed) (sym here) ∙ changed;
        }

-- statuses of before a time stay so as one is added
pub still_before : (since : Moment) (path : List ℕ) (before after : List Status) → IsStatusAdded since path before after → AreStatusesBefore since before → AreStatusesBefore since after
still_before since path before after (inl same) are = subst (λ (xs : List Status). AreStatusesBefore since xs) (sym same) are
still_before since path before after (inr (status, is, of_path, early)) are = λ one at.
    elim (Contains-push_cases before status one (subst (λ (xs : List Status). Contains xs one) is at)) [
      | inl old ↦ are one old
      | inr new ↦ subst (λ (s : Status). IsStatusBefore since s) new early
    ]

abbrev pub Directories : Type 0
Directories = HashMap (Vec ℕ) Metadata (BuildHasherDefault FoldHasher)

pub no_directories : (recorded : List Status) (directories : Directories) → directories.entries ≡ [] → AreDirectoriesAsRecorded recorded directories
no_directories recorded directories none path m known = let wrong : None ≡ Some m = sym (ap (lookup (λ (k : Vec ℕ). bytes_eq path k.items)) none) ∙ known in cc

-- one of these statuses says what is known of its directory now
pub one_more_directory : (all : List PathStatus) (i : ℕ) (status : PathStatus) (old new : Directories) (key : Vec ℕ) (m : Metadata) → i < length all → status ≡ get_or all i status → key.items ≡ status.path.items
    → m.modified ≡ Some status.modified → m.changed ≡ Some status.changed → UpdatesBy same_name (λ k. bytes_eq key.items k.items) old new (Some m) → AreDirectoriesAsRecorded (statuses_of all) old
    → AreDirectoriesAsRecorded (statuses_of all) new
unfolding KeepsOthers
one_more_directory all i status old new key m within is same modified changed updates are path n found =
    ⊎_elim
    (λ here.
    let there : path ≡ key.items = (bytes_eq-Decides path key.items).0 here in
    let at : directory_at new path ≡ Some m = ap (directory_at new) there ∙ updates.1 in
    let both : Some m ≡ Some n = sym at ∙ found in
    let one : m ≡ n = cc in
    record {
      status = status_of status;
      is_one = contained all i status within is;
      path_is = sym (there ∙ same);
      modified = ap (λ (x : Metadata). x.modified) (sym one) ∙ modified;
      changed = ap (λ (x : Metadata). x.changed) (sym one) ∙ changed;
    })
    (λ there.
    let ne : path ≢ key.items = λ e. let wrong : false ≡ true = sym there ∙ (bytes_eq-Decides path key.items).1 e in cc in
    are path n (sym (updates.3 (λ k. bytes_eq path k.items) (λ x y. nat_list_eq_equiv.congr path x.items y.items) (λ k. apart key.items path k.items ne)) ∙ found))
    (cases_Bool (bytes_eq path key.items))
