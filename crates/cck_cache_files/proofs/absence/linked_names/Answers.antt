use Rattle.std.proofs.Common.{◌≡◌, ◌∙◌, ◌⊎◌, ℕ, inl, inr, Contains, List, subst, sym}
use Rattle.std.specs.Global.{Vec}
use Rattle.std.specs.List.{each_same}
use Rattle.cck_cache_text.specs.Names.{is_named}
use Rattle.cck_cache_text.specs.SearchList.{search_fields}
use Rattle.cck_cache_text.specs.Sets.{Adds, has_key}
use Rattle.cck_cache_text.proofs.SetLemmas.{adds_both, has-copy}
use Rattle.cck_path.specs.Bytes.{lists_of}
use Rattle.cck_cache_files.proofs.AbsenceLemmas.{all_linked}
use Rattle.cck_cache_files.proofs.absence.linked_names.Goals as goal

pub returns : goal.returns
returns c marks are name =
    let search = search_fields c.args.search.now in
    let first = c.in_ok-names.names in
    let middle = c.add_copies.new.paths in
    let last = c.add_copies-2.new.paths in
    let named : has_key first name ≡ is_named marks name =
    has-copy _ (λ v w same. each_same v.items w.items same.0) c.names.result.now first c.in_ok-names.ensures.cases name ∙ c.names.ensures marks are name in
    let listed : Adds (Contains search.directories) first middle =
    subst (λ (ns : List (Vec ℕ)). Adds (Contains (lists_of ns)) first middle) c.deref.ensures.value c.in_ok-add_copies.ensures in
    let both : Adds (λ q. Contains search.directories q ⊎ Contains search.duplicates q) first last =
    adds_both (Contains search.directories) (Contains search.duplicates) first middle last listed
    (subst (λ (ns : List (Vec ℕ)). Adds (Contains (lists_of ns)) middle last) c.deref-2.ensures.value c.in_ok-add_copies-2.ensures) in (
      λ has. (all_linked c.args.preprocessed.now.renames search marks c.args.preprocessed.now.text.now name c.if-preprocessed.false).1 (elim ((both name).0 has) [
        | inl searched ↦ inr searched
        | inr known ↦ inl (sym named ∙ known)
      ]),
      λ is. elim ((all_linked c.args.preprocessed.now.renames search marks c.args.preprocessed.now.text.now name c.if-preprocessed.false).0 is) [
        | inl known ↦ (both name).1 (inr (named ∙ known))
        | inr searched ↦ (both name).1 (inl searched)
      ],
    )
