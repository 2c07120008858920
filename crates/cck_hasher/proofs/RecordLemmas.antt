-- Digests by paths, and how they are listed.
use Rattle.std.proofs.Common.{◌≡◌, ◌&&◌, ℕ, ◌+◌, ◌<◌, List, [], ◌∷◌, ◌++◌, length, map, take, get_or, Bool, true, false, if◌then◌else◌, T, is_some, Some, refl, sym, ap, arith, subst, ◌∙◌}
use Rattle.std.proofs.lemmas.Bool.{false≢true}
use Rattle.std.proofs.lemmas.List.{get_or_default, length-map, map-append, take_all, take_more}
use Rattle.std.specs.FinMap.{FinMap, empty, entries, entries_sorted, entries-from_sorted, find, from_sorted, get, get-empty, get-entries, get-from_entries, get-from_sorted, get-insert, insert, is_sorted, len, len-entries, same_map}
use Rattle.std.specs.Global.{Vec}
use Rattle.std.specs.Ordering.{eq_by_cmp, is_lt}
use Rattle.std.specs.Prelude.{String, string_bytes}
use Rattle.std.specs.declared.alloc.Global.{Global}
use Rattle.cck_path.proofs.ComponentLemmas.{leading_names-names}
use Rattle.cck_path.specs.Path.{Path, Name, Root, has_root, leading_names, normal, path_cmp, path_cmp_total, path_cmp-IsAntisymmetric}
use Rattle.cck_path.specs.Text.{path_text}
use Rattle.cck_path.proofs.PlaceLemmas.{find_at, in_order_of}
use Rattle.cck_path.proofs.TestLemmas.{below_all, tied}
use Rattle.cck_path.specs.PathMap.{IsPlaceOf, pair_of, path_of}
use Rattle.cck_path.specs.Values.{map_values}
use Rattle.cck_path.specs.declared.path_map.Entry.{Entry}
use Rattle.cck_hasher.specs.Digests.{AreNormal, digest_pair, written}

-- a normal path is its own normal form
normal_names : (b : Bool) (ns : List (List ℕ)) → normal ((if b then Root ∷ [] else []) ++ map Name ns) ≡ (if b then Root ∷ [] else []) ++ map Name ns
normal_names true ns = ap (λ l. Root ∷ map Name l) (leading_names-names ns)
normal_names false [] = refl
normal_names false (n ∷ ns) = ap (map Name) (leading_names-names (n ∷ ns))

pub normal_twice : (p : Path) → normal (normal p) ≡ normal p
normal_twice p = normal_names (has_root p) (leading_names p)

module _ {V W : Type 0} (f : V → W) where
  below_values : (p : Path) (es : List (Path × V)) → below_all p (map (λ e. (e.0, f e.1)) es) ≡ below_all p es
  below_values p [] = refl
  below_values p (e ∷ es) = ap (λ b. is_lt (path_cmp p e.0) && b) (below_values p es)

  sorted_values : (es : List (Path × V)) → is_sorted path_cmp (map (λ e. (e.0, f e.1)) es) ≡ is_sorted path_cmp es
  sorted_values [] = refl
  sorted_values (e ∷ es) = λ i. below_values e.0 es i && sorted_values es i

  get_values : (m : FinMap path_cmp V) (q : Path) → get (map_values f m) q ≡ find path_cmp q (map (λ e. (e.0, f e.1)) (entries m))
  unfolding map_values
  get_values m q = get-from_entries path_cmp_total (map (λ e. (e.0, f e.1)) (entries m)) q

  -- the entries are those of the map, with their values read
  pub entries-map_values : (m : FinMap path_cmp V) → entries (map_values f m) ≡ map (λ e. (e.0, f e.1)) (entries m)
  entries-map_values m =
      let es = map (λ e. (e.0, f e.1)) (entries m) in
      let sorted : T (is_sorted path_cmp es) = subst T (sym (sorted_values (entries m))) (entries_sorted m) in
      ap entries (same_map path_cmp_total path_cmp-IsAntisymmetric (map_values f m) (from_sorted es) (λ q. get_values m q ∙ sym (get-from_sorted path_cmp es q sorted)))
      ∙ entries-from_sorted path_cmp es sorted

  pub len-map_values : (m : FinMap path_cmp V) → len (map_values f m) ≡ len m
  len-map_values m = len-entries (map_values f m) ∙ ap length (entries-map_values m) ∙ length-map (entries m) (λ e. (e.0, f e.1)) ∙ sym (len-entries m)

pub none_normal : (V : Type 0) → AreNormal {V = V} empty
none_normal V p h = absurd (false≢true (sym (ap is_some (get-empty path_cmp p)) ∙ h))

module _ {V : Type 0} where
  -- the paths are normal after another normal path is added
  pub more_normal : (m : FinMap path_cmp V) (p : Path) (v : V) → AreNormal m → normal p ≡ p → AreNormal (insert m p v)
  more_normal m p v all one q h = go (eq_by_cmp path_cmp q p) refl (sym (ap is_some (get-insert path_cmp_total m p v q)) ∙ h)
    where
      go : (b : Bool) → eq_by_cmp path_cmp q p ≡ b → is_some (if b then Some v else get m q) ≡ true → normal q ≡ q
      go true is k = subst (λ r. normal r ≡ r) (sym (tied q p is)) one
      go false is k = all q k

  -- the path of each entry is normal
  entry_normal : (es : List (Entry V)) (m : FinMap path_cmp V) → map pair_of es ≡ entries m → AreNormal m → (i : ℕ) → i < length es → (e : Entry V) → e ≡ get_or es i e → normal (path_of e) ≡ path_of e
  entry_normal es m is all i low e at =
      let p = path_of e in
      let place : IsPlaceOf p es i = record { in_range = low; has_path = λ d. ap path_of (get_or_default es i d e low ∙ sym at) } in
      all p (ap is_some (get-entries m p ∙ ap (find path_cmp p) (sym is) ∙ find_at es (in_order_of es m is) p i place e))

-- what is listed for an entry
abbrev read : Entry (String Global) → List ℕ × List ℕ
read e = (path_text (path_of e), string_bytes e.value)

-- the first entries were listed
abbrev pub AreListed : List (Entry (String Global)) → ℕ → List (Vec ℕ × String Global) → Type 0
AreListed es i files = map digest_pair files ≡ map read (take i es)

pub listed_more : (es : List (Entry (String Global))) (m : FinMap path_cmp (String Global)) → map pair_of es ≡ entries m → AreNormal m → (i : ℕ) → i < length es → (e : Entry (String Global)) → e ≡ get_or es i e
    → (files : List (Vec ℕ × String Global)) → AreListed es i files → (path : Vec ℕ) (digest : String Global) → path.items ≡ path_text (normal (path_of e)) → string_bytes digest ≡ string_bytes e.value
    → AreListed es (i + 1) (files ++ (path, digest) ∷ [])
listed_more es m is all i low e at files so_far path digest p d =
    map-append digest_pair files ((path, digest) ∷ [])
    ∙ (λ j. so_far j ++ ((p ∙ ap path_text (entry_normal es m is all i low e at)) j, d j) ∷ [])
    ∙ sym (map-append read (take i es) (e ∷ []))
    ∙ ap (map read) (ap (λ z. take i es ++ z ∷ []) at ∙ sym (take_more es i e low))

read_pairs : (es : List (Entry (String Global))) → map read es ≡ map written (map (λ e. (e.0, string_bytes e.1)) (map pair_of es))
read_pairs [] = refl
read_pairs (e ∷ es) = ap (λ z. read e ∷ z) (read_pairs es)

pub listed_all : (es : List (Entry (String Global))) (m : FinMap path_cmp (String Global)) → map pair_of es ≡ entries m → (i : ℕ) → i ≡ length es → (files : List (Vec ℕ × String Global)) → AreListed es i files
    → map digest_pair files ≡ map written (entries (map_values string_bytes m))
listed_all es m is i end files so_far =
    so_far
    ∙ ap (λ k. map read (take k es)) end
    ∙ ap (map read) (take_all (length es) es (omega arith))
    ∙ read_pairs es
    ∙ ap (λ z. map written (map (λ e. (e.0, string_bytes e.1)) z)) is
    ∙ ap (map written) (sym (entries-map_values string_bytes m))
