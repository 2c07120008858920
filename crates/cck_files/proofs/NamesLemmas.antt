-- The names of children, gathered from entries in order.
use Rattle.std.proofs.Common.{Global, ◌≡◌, ◌≢◌, ◌||◌, ℕ, zero, suc, ◌+◌, ◌<◌, ◌≤◌, List, [], ◌∷◌, ◌++◌, length, map, take, get_or, Bool, true, false, cond, Some, None, is_some, refl, sym, ap, subst, ◌∙◌, arith, zero-add}
use Rattle.std.proofs.lemmas.Bool.{false≢true, true≢false}
use Rattle.std.proofs.lemmas.Cmp.{tied_itself}
use Rattle.std.proofs.lemmas.List.{map-append, take_all, take_more}
use Rattle.std.proofs.lemmas.List.Sums.{sum_by-append}
use Rattle.std.specs.Cmp.Lexicographic.{nat_list_cmp_total, slice_cmp}
use Rattle.std.specs.FinMap.{FinMap, entries, find, get, get-entries, nat_cmp-IsAntisymmetric, slice_cmp-IsAntisymmetric}
use Rattle.std.specs.Global.{Box}
use Rattle.std.specs.List.{AllByRecursion}
use Rattle.std.specs.Ordering.{eq_by_cmp, is_eq, nat_cmp}
use Rattle.std.specs.Prelude.{Vec, count_by, vec_items}
use Rattle.std.specs.Cmp.{Equal-is}
use Rattle.std.proofs.Math.Bool.{or-false}
use Rattle.cck_path.specs.Path.{IsName, Name, Path, path_cmp, path_cmp_total}
use Rattle.cck_path.specs.declared.metadata.FileKind.TheVariants.{Folder}
use Rattle.cck_path.proofs.PlaceLemmas.{find_before, in_order_of}
use Rattle.cck_path.proofs.ValueLemmas.{contains-map_values}
use Rattle.cck_path.specs.PathMap.{pair_of, path_of}
use Rattle.cck_path.specs.declared.path_map.Entry.{Entry}
use Rattle.cck_path.proofs.TestLemmas.{tied}
use Rattle.cck_files.proofs.ChildLemmas.{same_last}
use Rattle.cck_files.specs.Children.{HasChildNames, is_same_name}
use Rattle.cck_files.specs.FileMap.{FileNode, IsListing, folder_at, folder_if, folder_in}
use Rattle.cck_files.specs.FileState.{boxed_node, files_of}
use Rattle.cck_files.specs.declared.map_files.places.Place.{Place}

abbrev pub one_if : Bool → ℕ
one_if b = cond b 1 0

same_name_is : (n m : List ℕ) → is_same_name n m ≡ true → n ≡ m
same_name_is n m h = slice_cmp-IsAntisymmetric nat_cmp-IsAntisymmetric n m ((Equal-is (slice_cmp nat_cmp n m)).0 h)

pub same_itself : (n : List ℕ) → is_same_name n n ≡ true
same_itself n = ap is_eq (tied_itself nat_list_cmp_total n)

count_one_more : (n m : List ℕ) (xs : List (List ℕ)) → count_by (is_same_name n) (xs ++ m ∷ []) ≡ count_by (is_same_name n) xs + one_if (is_same_name n m)
count_one_more n m xs = sum_by-append (λ x. one_if (is_same_name n x)) xs (m ∷ []) ∙ ap (λ z. count_by (is_same_name n) xs + z) (zero-add (one_if (is_same_name n m)))

names_one_more : (m : List ℕ) → IsName m → (xs : List (List ℕ)) → AllByRecursion IsName xs → AllByRecursion IsName (xs ++ m ∷ [])
names_one_more m name [] h = (name, tt)
names_one_more m name (x ∷ xs) h = (h.0, names_one_more m name xs h.1)

apart : (q r : Path) → q ≢ r → eq_by_cmp path_cmp q r ≡ false
apart q r other = by (eq_by_cmp path_cmp q r) refl
  where
    by : (b : Bool) → eq_by_cmp path_cmp q r ≡ b → b ≡ false
    by true e = absurd (other (tied q r e))
    by false e = refl

module _ {V : Type 0} where
  found_one_more : (q : Path) (es : List (Entry V)) (e : Entry V) → is_some (find path_cmp q (map pair_of (es ++ e ∷ []))) ≡ (is_some (find path_cmp q (map pair_of es)) || eq_by_cmp path_cmp q (path_of e))
  found_one_more q [] e = elim (eq_by_cmp path_cmp q (path_of e)) as (λ b. is_some (cond b (Some e.value) None) ≡ b) [ true ↦ refl | false ↦ refl ]
  found_one_more q (x ∷ es) e =
      elim (eq_by_cmp path_cmp q (path_of x)) as (λ b. is_some (cond b (Some x.value) (find path_cmp q (map pair_of (es ++ e ∷ [])))) ≡ (is_some (cond b (Some x.value) (find path_cmp q (map pair_of es))) || eq_by_cmp path_cmp q (path_of e))) [
        | true ↦ refl
        | false ↦ found_one_more q es e
      ]

  abbrev found : List (Entry V) → ℕ → Path → Bool
  found es i q = is_some (find path_cmp q (map pair_of (take i es)))

  -- if no entry from a place on has a path, the path is found before that place
  found_stops : (q : Path) (es : List (Entry V)) (i : ℕ) → ((k : ℕ) (d : Entry V) → i ≤ k → k < length es → path_of (get_or es k d) ≢ q) → found es i q ≡ found es (length es) q
  found_stops q [] zero none = refl
  found_stops q [] (suc i) none = refl
  found_stops q (e ∷ es) zero none =
      found_stops q es zero (λ k d low high. none (suc k) d (omega arith) (omega arith))
      ∙ ap (λ b. is_some (cond b (Some e.value) (find path_cmp q (map pair_of (take (length es) es))))) (sym (apart q (path_of e) (λ same. none 0 e (omega arith) (omega arith) (sym same))))
  found_stops q (e ∷ es) (suc i) none =
      let rest = found_stops q es i (λ k d low high. none (suc k) d (omega arith) (omega arith)) in
      elim (eq_by_cmp path_cmp q (path_of e)) as (λ b. is_some (cond b (Some e.value) (find path_cmp q (map pair_of (take i es)))) ≡ is_some (cond b (Some e.value) (find path_cmp q (map pair_of (take (length es) es))))) [
        | true ↦ refl
        | false ↦ rest
      ]

  -- the last names of a path's direct children among the first i entries, each once
  pub record IsListed (p : Path) (es : List (Entry V)) (i : ℕ) (names : List (List ℕ)) : Type 0 where
    pub names_only : AllByRecursion IsName names
    pub each_once : (n : List ℕ) → count_by (is_same_name n) names ≡ one_if (found es i (p ++ Name n ∷ []))

  -- if no entry from a place on is of a child, all names are before it
  pub listed_stop : (p : Path) (es : List (Entry V)) (i : ℕ) (names : List (List ℕ)) → ((n : List ℕ) (k : ℕ) (d : Entry V) → i ≤ k → k < length es → path_of (get_or es k d) ≢ p ++ Name n ∷ [])
      → IsListed p es i names → IsListed p es (length es) names
  listed_stop p es i names none l = record { names_only = l.names_only; each_once = λ n. l.each_once n ∙ ap one_if (found_stops (p ++ Name n ∷ []) es i (none n)) }

  pub listed_all : (p : Path) (es : List (Entry V)) (m : FinMap path_cmp V) → map pair_of es ≡ entries m → (names : List (List ℕ)) → IsListed p es (length es) names → HasChildNames m p names
  listed_all p es m is names l = record {
    names_only = l.names_only;
    each_once = λ n. l.each_once n
        ∙ ap (λ z. one_if (is_some (find path_cmp (p ++ Name n ∷ []) (map pair_of z)))) (take_all (length es) es (omega arith))
        ∙ ap (λ z. one_if (is_some z)) (ap (find path_cmp (p ++ Name n ∷ [])) is ∙ sym (get-entries m (p ++ Name n ∷ [])));
  }

  module _ (p : Path) (es : List (Entry V)) (m : FinMap path_cmp V) (is : map pair_of es ≡ entries m) (i : ℕ) (low : i < length es) (e : Entry V) (at : e ≡ get_or es i e) (names : List (Vec ℕ Global)) (l : IsListed p es i (map vec_items names)) where
    found_more : (q : Path) → found es (i + 1) q ≡ (found es i q || eq_by_cmp path_cmp q (path_of e))
    found_more q = ap (λ z. is_some (find path_cmp q (map pair_of z))) (take_more es i e low ∙ ap (λ z. take i es ++ z ∷ []) (sym at)) ∙ found_one_more q (take i es) e

    -- an entry that is of no child
    pub listed_other : ((n : List ℕ) → path_of e ≢ p ++ Name n ∷ []) → IsListed p es (i + 1) (map vec_items names)
    listed_other other = record {
      names_only = l.names_only;
      each_once = λ n. l.each_once n ∙ ap one_if (sym (found_more (p ++ Name n ∷ []) ∙ ap (λ b. found es i (p ++ Name n ∷ []) || b) (apart (p ++ Name n ∷ []) (path_of e) (λ same. other n (sym same))) ∙ or-false (found es i (p ++ Name n ∷ []))));
    }

    -- one that is of a child
    pub listed_child : (v : Vec ℕ Global) (name : List ℕ) → v.items ≡ name → IsName name → path_of e ≡ p ++ Name name ∷ [] → IsListed p es (i + 1) (map vec_items (names ++ v ∷ []))
    listed_child v name items is_name child = subst (IsListed p es (i + 1)) (ap (λ z. map vec_items names ++ z ∷ []) (sym items) ∙ sym (map-append vec_items names (v ∷ []))) (record {
      names_only = names_one_more name is_name (map vec_items names) l.names_only;
      each_once = λ n. count_one_more n name (map vec_items names) ∙ by n (is_same_name n name) refl ∙ ap one_if (sym (found_more (p ++ Name n ∷ [])));
    })
      where
        before : (n : List ℕ) → n ≡ name → found es i (p ++ Name n ∷ []) ≡ false
        before n same = ap (λ z. found es i z) (ap (λ z. p ++ Name z ∷ []) same ∙ sym child) ∙ ap is_some (find_before es (in_order_of es m is) i low e at)

        tie : (n : List ℕ) → n ≡ name → eq_by_cmp path_cmp (p ++ Name n ∷ []) (path_of e) ≡ true
        tie n same = ap (λ z. eq_by_cmp path_cmp (p ++ Name z ∷ []) (path_of e)) same ∙ ap (λ z. eq_by_cmp path_cmp z (path_of e)) (sym child) ∙ ap is_eq (tied_itself path_cmp_total (path_of e))

        no_tie : (n : List ℕ) → is_same_name n name ≡ false → eq_by_cmp path_cmp (p ++ Name n ∷ []) (path_of e) ≡ false
        no_tie n other = apart (p ++ Name n ∷ []) (path_of e) (λ same. false≢true (sym other ∙ ap (is_same_name n) (sym (same_last p n name (same ∙ child))) ∙ same_itself n))

        sums : (count : ℕ) (f s t : Bool) → count ≡ one_if f → s ≡ t → (t ≡ true → f ≡ false) → count + one_if s ≡ one_if (f || t)
        sums count true s true e k new = absurd (true≢false (new refl))
        sums count true s false e k new = omega (arith, e, ap one_if k)
        sums count false s t e k new = omega (arith, e, ap one_if k)

        by : (n : List ℕ) (s : Bool) → is_same_name n name ≡ s → count_by (is_same_name n) (map vec_items names) + one_if (is_same_name n name) ≡ one_if (found es i (p ++ Name n ∷ []) || eq_by_cmp path_cmp (p ++ Name n ∷ []) (path_of e))
        by n true same = let is = same_name_is n name same in sums _ _ _ _ (l.each_once n) (same ∙ sym (tie n is)) (λ t. before n is)
        by n false other = sums _ _ _ _ (l.each_once n) (other ∙ sym (no_tie n other)) (λ t. absurd (false≢true (sym (no_tie n other) ∙ t)))

-- the names of a directory's children are its listing
pub listing : (m : FinMap path_cmp (Box Place)) (p : Path) (node : FileNode) (names : List (List ℕ)) → get (files_of m).nodes p ≡ Some node → node.kind ≡ Folder → HasChildNames m p names → IsListing (files_of m) p names
unfolding folder_at
listing m p node names at kind children = record {
  folder = ap folder_in at ∙ ap folder_if kind;
  children = record {
    names_only = children.names_only;
    each_once = λ n. children.each_once n ∙ ap one_if (sym (contains-map_values boxed_node m (p ++ Name n ∷ [])));
  };
}
