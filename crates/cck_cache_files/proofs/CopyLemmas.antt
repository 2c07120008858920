-- The lengths and the times of the files of a text.
use Rattle.std.proofs.Common.{◌≡◌, ◌∙◌, ◌<◌, ◌+◌, ◌⊎◌, inl, inr, ℕ, Bool, true, false, ◌||◌, List, [], ◌∷◌, ◌++◌, Option, Some, None, IsTrue, get_or, length, map, refl, sym, ap, subst, arith}
use Rattle.std.specs.BTreeSet.{BTreeSet}
use Rattle.std.specs.Global.{Vec}
use Rattle.std.specs.Option.{option_and_then}
use Rattle.std.specs.Prelude.{Contains}
use Rattle.std.specs.List.{list_any}
use Rattle.std.specs.Str.{bytes_eq}
use Rattle.std.proofs.lemmas.Bool.{cases_lt, or_cases, or_left, or_right}
use Rattle.std.proofs.lemmas.List.Elements.{Contains-append_cases, Contains-append_left, Contains-append_right}
use Rattle.std.proofs.lemmas.Slice.Eq.{bytes_eq-Decides}
use Rattle.cck_cache_text.specs.Sets.{Adds, IsSetOf, has_key}
use Rattle.cck_cache_text.proofs.SetLemmas.{Below, has_key_at, key_at}
use Rattle.cck_cache_files.specs.Copies.{AreKnown, IsKnownOf, IsMetadataAt, IsPathOfName, known_of}
use Rattle.cck_cache_files.specs.Snapshot.{named_path}
use Rattle.cck_cache_files.specs.declared.copies.KnownFile.{KnownFile}
use Rattle.cck_files.specs.FileMap.{FileMap}
use Rattle.cck_path.specs.Bytes.{Bytes}
use Rattle.cck_path.specs.declared.metadata.Metadata.{Metadata}

-- ---- what a snapshot has at a path

not_both : (files : FileMap) (path : Bytes) (m : Metadata) → IsMetadataAt files path None → IsMetadataAt files path (Some m) → ⊥
not_both files path m none is = cc

same_metadata : (files : FileMap) (path : Bytes) (m n : Metadata) → IsMetadataAt files path (Some m) → IsMetadataAt files path (Some n) → m ≡ n
same_metadata files path m n is other = cc

metadata_one : (files : FileMap) (path : Bytes) (a b : Option Metadata) → IsMetadataAt files path a → IsMetadataAt files path b → a ≡ b
metadata_one files path None None is other = refl
metadata_one files path None (Some n) is other = absurd (not_both files path n is other)
metadata_one files path (Some m) None is other = absurd (not_both files path m other is)
metadata_one files path (Some m) (Some n) is other = ap Some (same_metadata files path m n is other)

-- a name has one length and one time
known_one : (files : FileMap) (directory name : Bytes) (a b : Option KnownFile) → IsKnownOf files directory name a → IsKnownOf files directory name b → a ≡ b
known_one files directory name a b (found, at, is) (other, there, same) =
    is ∙ (ap (option_and_then known_of) (metadata_one files (named_path directory name) found other at there) ∙ sym same)

-- ---- one more name

-- exactly the lengths and the times of the files of the first names
pub record KnownBelow (files : FileMap) (directory : Bytes) (names : List Bytes) (n : ℕ) (known : List KnownFile) : Type 0 where
  pub each : (k : ℕ) → k < n → (file : KnownFile) → IsKnownOf files directory (get_or names k []) (Some file) → Contains known file
  pub only : (file : KnownFile) → Contains known file → (k : ℕ) × (k < n) × IsKnownOf files directory (get_or names k []) (Some file)

pub known_empty : (files : FileMap) (directory : Bytes) (names : List Bytes) (known : List KnownFile) → known ≡ [] → KnownBelow files directory names 0 known
known_empty files directory names known none = record {
  each = λ k lt file is. absurd (omega (arith, lt));
  only = λ file at. absurd (omega (arith, at.1, ap length none));
}

some_none : (file : KnownFile) → Some file ≡ None → ⊥
some_none file e = cc

same_some : (a b : KnownFile) → Some a ≡ Some b → a ≡ b
same_some a b e = cc

module _ (files : FileMap) (directory : Bytes) (names : List Bytes) (n : ℕ) where
  -- there is no file of the next name
  pub known_passed : (known : List KnownFile) → IsKnownOf files directory (get_or names n []) None → KnownBelow files directory names n known → KnownBelow files directory names (n + 1) known
  known_passed known none below = record {
    each = λ k lt file is. elim (cases_lt k n) [
      | inl before ↦ below.each k before file is
      | inr after ↦ (let same : k ≡ n = omega arith in
          absurd (some_none file (known_one files directory (get_or names n []) (Some file) None (subst (λ (i : ℕ). IsKnownOf files directory (get_or names i []) (Some file)) same is) none)))
    ];
    only = λ file at. let there = below.only file at in (there.0, omega (arith, there.1), there.2);
  }

  -- there is one
  pub known_more : (before after : List KnownFile) (one : KnownFile) → after ≡ before ++ one ∷ [] → IsKnownOf files directory (get_or names n []) (Some one) → KnownBelow files directory names n before → KnownBelow files directory names (n + 1) after
  known_more before after one grown here below = record {
    each = λ k lt file is. subst (λ (all : List KnownFile). Contains all file) (sym grown) (elim (cases_lt k n) [
      | inl early ↦ Contains-append_left before (one ∷ []) file (below.each k early file is)
      | inr late ↦ (let same : k ≡ n = omega arith in
          let equal : file ≡ one = same_some file one (known_one files directory (get_or names n []) (Some file) (Some one) (subst (λ (i : ℕ). IsKnownOf files directory (get_or names i []) (Some file)) same is) here) in
          Contains-append_right before (one ∷ []) file (0, omega arith, sym equal))
    ]);
    only = λ file at. elim (Contains-append_cases before (one ∷ []) file (subst (λ (all : List KnownFile). Contains all file) grown at)) [
      | inl old ↦ (let there = below.only file old in (there.0, omega (arith, there.1), there.2))
      | inr new ↦ (n, omega arith, subst (λ (f : KnownFile). IsKnownOf files directory (get_or names n []) (Some f)) (alone one file new) here)
    ];
  }
    where
      alone : (one file : KnownFile) → Contains (one ∷ []) file → one ≡ file
      alone one file (k, lt, is) =
          let first : k ≡ 0 = omega (arith, lt) in
          subst (λ (i : ℕ). get_or (one ∷ []) i file ≡ file) first is

-- all names of a set
pub known_all : (files : FileMap) (directory : Bytes) (names : BTreeSet (Vec ℕ)) (n : ℕ) (known : List KnownFile) → n ≡ length names.keys → KnownBelow files directory (map (λ k. k.items) names.keys) n known → AreKnown files directory (λ name. IsTrue (has_key names name)) known
known_all files directory names n known end below = record {
  each = λ name has file is.
      let at = key_at names.keys name has in
      below.each at.0 (omega (arith, at.1, end)) file (subst (λ (q : Bytes). IsKnownOf files directory q (Some file)) (sym at.2) is);
  only = λ file at.
      let there = below.only file at in
      (get_or (map (λ k. k.items) names.keys) there.0 [], has_key_at names.keys there.0 (omega (arith, there.1, end)), there.2);
}

-- names that are others of the same
pub known_same : (files : FileMap) (directory : Bytes) (P Q : Bytes → Type 0) (known : List KnownFile) → ((name : Bytes) → P name → Q name) → ((name : Bytes) → Q name → P name) → AreKnown files directory P known → AreKnown files directory Q known
known_same files directory P Q known there back are = record {
  each = λ name is. are.each name (back name is);
  only = λ file at. let found = are.only file at in (found.0, there found.0 found.1, found.2);
}

-- the names of a set to which one was added
pub one_name : (old new : BTreeSet (Vec ℕ)) (input : Bytes) (named : Bytes → Bool) → ((name : Bytes) → has_key new name ≡ (bytes_eq name input || has_key old name)) → ((name : Bytes) → has_key old name ≡ named name)
    → (name : Bytes) → (IsTrue (has_key new name) → (name ≡ input) ⊎ IsTrue (named name)) × ((name ≡ input) ⊎ IsTrue (named name) → IsTrue (has_key new name))
one_name old new input named grown are name = (
  λ has. elim (or_cases (bytes_eq name input) (has_key old name) (sym (grown name) ∙ has)) [
    | inl a ↦ inl ((bytes_eq-Decides name input).0 a)
    | inr b ↦ inr (sym (are name) ∙ b)
  ],
  λ is. elim is [
    | inl a ↦ grown name ∙ or_left (bytes_eq name input) (has_key old name) ((bytes_eq-Decides name input).1 a)
    | inr b ↦ grown name ∙ or_right (bytes_eq name input) (has_key old name) (are name ∙ b)
  ],
)

-- the paths of all names
pub paths_all : (directory : Bytes) (names none paths : BTreeSet (Vec ℕ)) (n : ℕ) → n ≡ length names.keys → none.keys ≡ []
    → Adds (Below (λ k p. p ≡ named_path directory (get_or (map (λ (v : Vec ℕ). v.items) names.keys) k [])) n) none paths → IsSetOf (IsPathOfName (λ name. IsTrue (has_key names name)) directory) paths
paths_all directory names none paths n end empty added path = (
  λ has. elim ((added path).0 has) [
    | inl at ↦ (let (k, lt, is) = at in (get_or (map (λ (v : Vec ℕ). v.items) names.keys) k [], has_key_at names.keys k (omega (arith, lt, end)), is))
    | inr before ↦ absurd (no_key (ap (list_any (λ (v : Vec ℕ). bytes_eq path v.items)) (sym empty) ∙ before))
  ],
  λ is.
      let (name, named, leads) = is in
      let at = key_at names.keys name named in
      (added path).1 (inl (at.0, omega (arith, at.1, end), leads ∙ ap (named_path directory) (sym at.2))),
)
  where
    no_key : false ≡ true → ⊥
    no_key e = cc

-- names that are others of the same
pub paths_same : (P Q : Bytes → Type 0) (directory : Bytes) (paths : BTreeSet (Vec ℕ)) → ((name : Bytes) → P name → Q name) → ((name : Bytes) → Q name → P name) → IsSetOf (IsPathOfName P directory) paths
    → IsSetOf (IsPathOfName Q directory) paths
paths_same P Q directory paths there back are path = (
  λ has. let (name, is, leads) = (are path).0 has in (name, there name is, leads),
  λ is. let (name, other, leads) = is in (are path).1 (name, back name other, leads),
)
