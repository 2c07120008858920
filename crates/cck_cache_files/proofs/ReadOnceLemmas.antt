-- Two files of a text with one contents.
use Rattle.std.proofs.Common.{◌≡◌, ◌≢◌, ◌↔◌, ◌∙◌, ◌<◌, ◌+◌, inl, inr, ℕ, Bool, true, false, ◌||◌, List, [], Some, None, Ok, Result, IsTrue, MatchBool, get_or, length, map, refl, sym, ap, subst, arith}
use Rattle.std.specs.BTreeSet.{BTreeSet}
use Rattle.std.specs.Bool.{Decides}
use Rattle.std.specs.Cmp.Lexicographic.{slice_cmp}
use Rattle.std.specs.Global.{Vec}
use Rattle.std.specs.List.{list_any}
use Rattle.std.specs.List.Sorted.{IsStrictlySortedBy}
use Rattle.std.specs.Ordering.{is_eq, nat_cmp}
use Rattle.std.specs.Str.{bytes_eq}
use Rattle.std.specs.declared.cmp.Ordering.TheVariants.{Less}
use Rattle.std.proofs.lemmas.Bool.{cases_lt, or_cases, or_left, or_right}
use Rattle.std.proofs.lemmas.List.{get_or-map}
use Rattle.std.proofs.lemmas.Map.Keys.{Less-from_sorted}
use Rattle.std.proofs.lemmas.Map.Text.{is_eq-slice_cmp}
use Rattle.std.proofs.lemmas.Slice.Eq.{bytes_eq-Decides}
use Rattle.cck_cache_text.specs.Sets.{has_key}
use Rattle.cck_cache_text.proofs.SetLemmas.{has_key_at, key_at}
use Rattle.cck_cache_files.specs.ReadOnce.{HasCopies, IsReadOnce, unmarked}
use Rattle.cck_digest.specs.declared.error.FileError.{FileError}
use Rattle.cck_files.specs.FileMap.{FileMap}
use Rattle.cck_path.specs.Bytes.{Bytes}

same_ok : (a b : Bytes) → ◌≡◌ {A = Result Bytes FileError} (Ok a) (Ok b) → a ≡ b
same_ok a b e = cc

-- what is compared of a path is one
compared_one : (files : FileMap) (IsAny : Type 0) (path : Bytes) (a b : Bytes) → IsReadOnce files IsAny path (Some a) → IsReadOnce files IsAny path (Some b) → a ≡ b
compared_one files IsAny path a b (contents, at, may, is) (other, there, also, same) = is ∙ ap unmarked (same_ok contents other (sym at ∙ there)) ∙ sym same

not_both : (files : FileMap) (IsAny : Type 0) (path : Bytes) (a : Bytes) → IsReadOnce files IsAny path (Some a) → IsReadOnce files IsAny path None → ⊥
not_both files IsAny path a (contents, at, may, is) none = none contents at may

-- what was seen of the first paths: what is compared of each, of no two the same
pub record SeenBelow (files : FileMap) (IsAny : Type 0) (names : List Bytes) (n : ℕ) (seen : BTreeSet (Vec ℕ)) : Type 0 where
  pub each : (k : ℕ) → k < n → (compared : Bytes) → IsReadOnce files IsAny (get_or names k []) (Some compared) → IsTrue (has_key seen compared)
  pub only : (compared : Bytes) → IsTrue (has_key seen compared) → (k : ℕ) × (k < n) × IsReadOnce files IsAny (get_or names k []) (Some compared)
  pub apart : (j k : ℕ) → j < k → k < n → (compared : Bytes) → IsReadOnce files IsAny (get_or names j []) (Some compared) → IsReadOnce files IsAny (get_or names k []) (Some compared) → ⊥

pub seen_none : (files : FileMap) (IsAny : Type 0) (names : List Bytes) (seen : BTreeSet (Vec ℕ)) → seen.keys ≡ [] → SeenBelow files IsAny names 0 seen
seen_none files IsAny names seen none = record {
  each = λ k lt. absurd (omega (arith, lt));
  only = λ compared has. absurd (no_key (ap_keys compared has));
  apart = λ j k less lt. absurd (omega (arith, lt));
}
  where
    no_key : false ≡ true → ⊥
    no_key e = cc

    ap_keys : (compared : Bytes) → IsTrue (has_key seen compared) → false ≡ true
    ap_keys compared has = sym (ap (λ ks. list_any (λ k. bytes_eq compared k.items) ks) none) ∙ has

module _ (files : FileMap) (IsAny : Type 0) (names : List Bytes) (n : ℕ) where
  -- nothing is compared of the next path
  pub seen_passed : (seen : BTreeSet (Vec ℕ)) → IsReadOnce files IsAny (get_or names n []) None → SeenBelow files IsAny names n seen → SeenBelow files IsAny names (n + 1) seen
  seen_passed seen none below = record {
    each = λ k lt compared is. elim (cases_lt k n) [
      | inl before ↦ below.each k before compared is
      | inr after ↦ (let same : k ≡ n = omega arith in absurd (not_both files IsAny (get_or names n []) compared (subst (λ (i : ℕ). IsReadOnce files IsAny (get_or names i []) (Some compared)) same is) none))
    ];
    only = λ compared has. let there = below.only compared has in (there.0, omega (arith, there.1), there.2);
    apart = λ j k less lt compared first second. elim (cases_lt k n) [
      | inl before ↦ below.apart j k less before compared first second
      | inr after ↦ (let same : k ≡ n = omega arith in not_both files IsAny (get_or names n []) compared (subst (λ (i : ℕ). IsReadOnce files IsAny (get_or names i []) (Some compared)) same second) none)
    ];
  }

  -- something is, that was not seen
  pub seen_more : (before after : BTreeSet (Vec ℕ)) (one : Bytes) → ((q : Bytes) → has_key after q ≡ (bytes_eq q one || has_key before q)) → has_key before one ≡ false
      → IsReadOnce files IsAny (get_or names n []) (Some one) → SeenBelow files IsAny names n before → SeenBelow files IsAny names (n + 1) after
  seen_more before after one grown new here below = record {
    each = λ k lt compared is. grown compared ∙ elim (cases_lt k n) [
      | inl early ↦ or_right (bytes_eq compared one) _ (below.each k early compared is)
      | inr late ↦ (let same : k ≡ n = omega arith in
          or_left _ (has_key before compared) ((bytes_eq-Decides compared one).1 (compared_one files IsAny (get_or names n []) compared one (subst (λ (i : ℕ). IsReadOnce files IsAny (get_or names i []) (Some compared)) same is) here)))
    ];
    only = λ compared has. elim (or_cases (bytes_eq compared one) (has_key before compared) (sym (grown compared) ∙ has)) [
      | inl equal ↦ (n, omega arith, subst (λ (c : Bytes). IsReadOnce files IsAny (get_or names n []) (Some c)) (sym ((bytes_eq-Decides compared one).0 equal)) here)
      | inr old ↦ (let there = below.only compared old in (there.0, omega (arith, there.1), there.2))
    ];
    apart = λ j k less lt compared first second. elim (cases_lt k n) [
      | inl early ↦ below.apart j k less early compared first second
      | inr late ↦ (let same : k ≡ n = omega arith in
          let equal : compared ≡ one = compared_one files IsAny (get_or names n []) compared one (subst (λ (i : ℕ). IsReadOnce files IsAny (get_or names i []) (Some compared)) same second) here in
          let early : j < n = omega (arith, less, same) in
          let has : has_key before one ≡ true = subst (λ (c : Bytes). IsTrue (has_key before c)) equal (below.each j early compared first) in
          false_true (sym new ∙ has))
    ];
  }
    where
      false_true : false ≡ true → ⊥
      false_true e = cc

-- the paths of a set are apart
paths_apart : (keys : List (Vec ℕ)) (d : Vec ℕ) (i j : ℕ) → IsStrictlySortedBy (λ (a b : Vec ℕ). slice_cmp nat_cmp a.items b.items) keys → i < j → j < length keys
    → get_or (map (λ k. k.items) keys) i [] ≢ get_or (map (λ k. k.items) keys) j []
paths_apart keys d i j ordered less within same =
    let before : i < length keys = omega (arith, less, within) in
    let first = get_or keys i d in
    let second = get_or keys j d in
    let equal : first.items ≡ second.items = sym (get_or-map (λ (k : Vec ℕ). k.items) keys i d [] before) ∙ same ∙ get_or-map (λ (k : Vec ℕ). k.items) keys j d [] within in
    let below : slice_cmp nat_cmp first.items second.items ≡ Less = Less-from_sorted (λ (a b : Vec ℕ). slice_cmp nat_cmp a.items b.items) keys i j d ordered less within in
    false_true (ap is_eq (sym below) ∙ is_eq-slice_cmp first.items second.items ∙ (bytes_eq-Decides first.items second.items).1 equal)
  where
    false_true : false ≡ true → ⊥
    false_true e = cc

module _ (files : FileMap) (IsAny : Type 0) (paths : BTreeSet (Vec ℕ)) (n : ℕ) (seen : BTreeSet (Vec ℕ)) where
  -- what is compared of the next path was seen
  pub copies_found : (one : Bytes) (d : Vec ℕ) → IsStrictlySortedBy (λ (a b : Vec ℕ). slice_cmp nat_cmp a.items b.items) paths.keys → n < length paths.keys
      → SeenBelow files IsAny (map (λ k. k.items) paths.keys) n seen → IsReadOnce files IsAny (get_or (map (λ k. k.items) paths.keys) n []) (Some one) → has_key seen one ≡ true
      → HasCopies files IsAny (λ path. IsTrue (has_key paths path))
  copies_found one d ordered within below here has =
      let there = below.only one has in (
        get_or (map (λ k. k.items) paths.keys) there.0 [],
        get_or (map (λ k. k.items) paths.keys) n [],
        one,
        paths_apart paths.keys d there.0 n ordered there.1 within,
        has_key_at paths.keys there.0 (omega (arith, there.1, within)),
        has_key_at paths.keys n within,
        there.2,
        here,
      )

  -- no two paths have the same
  pub no_copies : n ≡ length paths.keys → SeenBelow files IsAny (map (λ k. k.items) paths.keys) n seen → ¬ (HasCopies files IsAny (λ path. IsTrue (has_key paths path)))
  no_copies end below (a, b, compared, apart, has_first, has_second, first, second) =
      let i = key_at paths.keys a has_first in
      let j = key_at paths.keys b has_second in
      let one = subst (λ (p : Bytes). IsReadOnce files IsAny p (Some compared)) (sym i.2) first in
      let two = subst (λ (p : Bytes). IsReadOnce files IsAny p (Some compared)) (sym j.2) second in
      elim (cases_lt i.0 j.0) [
        | inl before ↦ below.apart i.0 j.0 before (omega (arith, j.1, end)) compared one two
        | inr after ↦ (elim (cases_lt j.0 i.0) [
          | inl later ↦ below.apart j.0 i.0 later (omega (arith, i.1, end)) compared two one
          | inr not_later ↦ (let same : i.0 ≡ j.0 = omega arith in apart (sym i.2 ∙ ap (λ (k : ℕ). get_or (map (λ k. k.items) paths.keys) k []) same ∙ j.2))
        ])
      ]

-- copies among paths that are others of the same
module _ (files : FileMap) (A B : Type 0) (P Q : Bytes → Type 0) where
  read_once_by : (path compared : Bytes) → (A → B) → IsReadOnce files A path (Some compared) → IsReadOnce files B path (Some compared)
  read_once_by path compared any (contents, at, inl is, same) = (contents, at, inl (any is), same)
  read_once_by path compared any (contents, at, inr once, same) = (contents, at, inr once, same)

  copies_by : (A → B) → ((path : Bytes) → P path → Q path) → HasCopies files A P → HasCopies files B Q
  copies_by any to (a, b, compared, apart, is_first, is_second, first, second) =
      (a, b, compared, apart, to a is_first, to b is_second, read_once_by a compared any first, read_once_by b compared any second)

pub copies_same : (files : FileMap) (A B : Type 0) (P Q : Bytes → Type 0) (found : Bool) → A ↔ B → ((path : Bytes) → P path ↔ Q path)
    → MatchBool found (HasCopies files A P) (¬ (HasCopies files A P)) → MatchBool found (HasCopies files B Q) (¬ (HasCopies files B Q))
copies_same files A B P Q true any paths has = copies_by files A B P Q any.0 (λ path. (paths path).0) has
copies_same files A B P Q false any paths none = λ has. none (copies_by files B A Q P any.1 (λ path. (paths path).1) has)

-- a search that decides whether there is something
pub decided : (P : Type 0) (found : Bool) → Decides found P → MatchBool found P (¬ P)
decided P true search = search.0 refl
decided P false search = λ has. false_true (search.1 has)
  where
    false_true : false ≡ true → ⊥
    false_true e = cc
