-- A node of a map, by its kind.
use Rattle.std.proofs.Common.{◌≡◌, ℕ, ◌+◌, ◌≤◌, ◌<◌, List, [], ◌∷◌, ◌++◌, length, Bool, true, false, ◌&&◌, ◌||◌, cond, refl, sym, ◌∙◌, ap, subst, append-nil, arith, get_or, map, IsOkAnd, Option, Some, None, zero, suc, Result, Ok, Err, Vec, Global}
use Rattle.std.specs.Prelude.{is_some, nat_lt, vec_items}
use Rattle.std.specs.List.{AllByRecursion, list_any}
use Rattle.std.specs.FinMap.{get}
use Rattle.std.proofs.lemmas.Bool.{or_from}
use Rattle.std.proofs.lemmas.Bool.Decides.{nat_tests}
use Rattle.cck_digest.specs.Error.{util_error}
use Rattle.cck_digest.specs.declared.error.FileError.{FileError}
use Rattle.cck_digest.specs.declared.error.FileError.TheVariants.{NotFound, OtherKind, Fault, Memory}
use Rattle.cck_digest.specs.declared.error.UtilError.{UtilError}
use Rattle.cck_digest.specs.declared.error.UtilError.TheVariants as util
use Rattle.cck_path.specs.Path.{Path, Name, components, inner_components, joined, IsName}
use Rattle.cck_path.specs.declared.metadata.FileKind.{FileKind}
use Rattle.cck_path.specs.declared.metadata.FileKind.TheVariants.{File, Folder, Other}
use Rattle.cck_path.specs.declared.metadata.Metadata.{Metadata}
use Rattle.cck_path.proofs.PartLemmas.{inner_one}
use Rattle.cck_path.proofs.NormalLemmas.{name_alone}
use Rattle.cck_files.proofs.FileLemmas.{no_other_kind}
use Rattle.cck_files.specs.FileMap.{FileMap, FileNode, metadata_at, metadata_in, metadata_of, contents_at, contents_in, contents_if, folder_at, folder_in, folder_if, exists_at}
use Rattle.cck_files.specs.Calls.{IsError, IsErrorOrMemory}
use Rattle.cck_files.specs.Folder.{AreChildNames, IsFedNodes}
use Rattle.cck_files.specs.FolderText.{is_folder_kind, is_other, is_other_kind, is_too_deep, name_below, opening, piece_of, nodes_material, reached, node_and_reached, whole_part}
use Rattle.cck_files.specs.Errors.{IsErrorAt}
use Rattle.cck_files.proofs.FolderSteps.{other_reached, deep_reached}

-- there is a node of this kind at a path
pub record IsAt (fm : FileMap) (p : Path) (kind : FileKind) : Type 0 where
  pub node : FileNode
  pub here : get fm.nodes p ≡ Some node
  pub same : node.kind ≡ kind

pub at_metadata : (fm : FileMap) (p : Path) (md : Metadata) (kind : FileKind) → metadata_at fm p ≡ Ok md → md.kind ≡ kind → IsAt fm p kind
unfolding metadata_at
at_metadata fm p md kind e k = by (get fm.nodes p) refl e
  where
    by : (o : Option FileNode) → get fm.nodes p ≡ o → metadata_in o ≡ Ok md → IsAt fm p kind
    by None g e = cc
    by (Some node) g e = let same : metadata_of node ≡ md = cc in record { node = node; here = g; same = ap (λ x. x.kind) same ∙ k }

module _ (fm : FileMap) (p : Path) where
  pub exists_of : (kind : FileKind) → IsAt fm p kind → exists_at fm p ≡ true
  unfolding exists_at
  exists_of kind a = ap is_some a.here

  pub folder_of : IsAt fm p Folder → folder_at fm p ≡ Ok tt
  unfolding folder_at
  folder_of a = ap folder_in a.here ∙ ap folder_if a.same

  pub contents_of : (a : IsAt fm p File) → contents_at fm p ≡ Ok a.node.contents
  unfolding contents_at
  contents_of a = ap contents_in a.here ∙ ap (λ k. contents_if k a.node.contents) a.same

  whole_of : (kind : FileKind) (a : IsAt fm p kind) → node_and_reached fm.nodes p ≡ ([], a.node) ∷ cond (is_folder_kind kind) (reached fm.nodes p) []
  unfolding node_and_reached
  whole_of kind a = ap (whole_part fm.nodes p) a.here ∙ ap (λ k. ([], a.node) ∷ cond (is_folder_kind k) (reached fm.nodes p) []) a.same

  -- ---- what is fed for it

  module _ {S : Type 0} (holds : S → List ℕ → Type 0) (level : ℕ) (name : Option (List ℕ)) (x y : S) where
    unnamed : (name : Option (List ℕ)) → name_below name [] ≡ name
    unnamed None = refl
    unnamed (Some t) = refl

    pub fed_file : IsAt fm p File → IsOkAnd (contents_at fm p) (λ contents. (fed : List ℕ) → holds x fed → holds y (fed ++ (opening name ++ contents)))
        → IsFedNodes holds level name (node_and_reached fm.nodes p) x y
    fed_file a fed =
        subst (λ nodes. IsFedNodes holds level name nodes x y) (sym (whole_of File a)) record {
          none_other = ap (λ k. is_other_kind k || false) a.same;
          none_too_deep = ap (λ k. (is_folder_kind k && nat_lt 100 (level + 0)) || false) a.same;
          fed = λ before h. subst (λ z. holds y (before ++ z))
              (sym (ap (λ k. piece_of k (name_below name []) a.node.contents ++ []) a.same ∙ (append-nil _ ∙ ap (λ o. opening o ++ a.node.contents) (unnamed name))))
              (subst (λ found. IsOkAnd found (λ contents. (fed : List ℕ) → holds x fed → holds y (fed ++ (opening name ++ contents)))) (contents_of a) fed before h);
        }

    pub fed_folder : IsAt fm p Folder → level ≤ 100 → IsFedNodes holds level name (reached fm.nodes p) x y → IsFedNodes holds level name (node_and_reached fm.nodes p) x y
    fed_folder a low f =
        let within : nat_lt 100 (level + 0) ≡ false = grind (arith, nat_tests, low) in
        subst (λ nodes. IsFedNodes holds level name nodes x y) (sym (whole_of Folder a)) record {
          none_other = or_from _ _ (ap is_other_kind a.same) f.none_other;
          none_too_deep = or_from _ _ (ap (λ k. is_folder_kind k && nat_lt 100 (level + 0)) a.same ∙ within) f.none_too_deep;
          fed = λ before h. subst (λ z. holds y (before ++ z)) (sym (ap (λ k. piece_of k (name_below name []) a.node.contents ++ nodes_material name (reached fm.nodes p)) a.same)) (f.fed before h);
        }

  -- ---- its errors

  pub too_deep : (level : ℕ) → IsAt fm p Folder → 100 < level → list_any (is_too_deep level) (node_and_reached fm.nodes p) ≡ true
  too_deep level a high =
      let above : nat_lt 100 (level + 0) ≡ true = grind (arith, nat_tests, high) in
      ap (list_any (is_too_deep level)) (whole_of Folder a)
      ∙ ap (λ b. b || list_any (is_too_deep level) (reached fm.nodes p)) (ap (λ k. is_folder_kind k && nat_lt 100 (level + 0)) a.same ∙ above)

  pub other_kind : IsAt fm p Other → list_any is_other (node_and_reached fm.nodes p) ≡ true
  other_kind a = ap (list_any is_other) (whole_of Other a) ∙ ap (λ k. is_other_kind k || false) a.same

  any_folder : (test : Path × FileNode → Bool) → IsAt fm p Folder → list_any test (reached fm.nodes p) ≡ true → list_any test (node_and_reached fm.nodes p) ≡ true
  any_folder test a e = ap (list_any test) (whole_of Folder a) ∙ (ap (λ b. test ([], a.node) || b) e ∙ or_true (test ([], a.node)))
    where
      or_true : (b : Bool) → (b || true) ≡ true
      or_true true = refl
      or_true false = refl

  pub metadata_failed : (level : ℕ) (HasFault : Type 0) (e : FileError) → IsError (metadata_at fm p) HasFault e → IsErrorAt level fm p HasFault (util_error e)
  unfolding metadata_at exists_at
  metadata_failed level HasFault NotFound r = by (get fm.nodes p) r
    where
      by : (o : Option FileNode) → metadata_in o ≡ Err NotFound → is_some o ≡ false
      by None e = refl
      by (Some node) e = cc
  metadata_failed level HasFault OtherKind r = absurd (no_other_kind (get fm.nodes p) r)
  metadata_failed level HasFault Fault r = r
  metadata_failed level HasFault Memory r = absurd r

  -- where the map has a result, the only errors are faults and lack of memory
  only_faults : {X : Type 0} (found : Result X FileError) (v : X) (level : ℕ) (P Q : Type 0) (e : FileError) → found ≡ Ok v → (P → Q) → IsErrorOrMemory found P e → IsErrorAt level fm p Q (util_error e)
  only_faults found v level P Q NotFound is f r = cc
  only_faults found v level P Q OtherKind is f r = cc
  only_faults found v level P Q Fault is f r = f r
  only_faults found v level P Q Memory is f r = tt

  pub contents_failed : (later : FileMap) (level : ℕ) (P Q : Type 0) (e : FileError) → later ≡ fm → IsAt fm p File → (P → Q) → IsErrorOrMemory (contents_at later p) P e → IsErrorAt level fm p Q (util_error e)
  contents_failed later level P Q e same a f r = only_faults (contents_at later p) a.node.contents level P Q e (ap (λ m. contents_at m p) same ∙ contents_of a) f r

  pub listing_failed : (later : FileMap) (level : ℕ) (P Q : Type 0) (e : FileError) → later ≡ fm → IsAt fm p Folder → (P → Q) → IsErrorOrMemory (folder_at later p) P e → IsErrorAt level fm p Q (util_error e)
  listing_failed later level P Q e same a f r = only_faults (folder_at later p) tt level P Q e (ap (λ m. folder_at m p) same ∙ folder_of a) f r

  -- an error of a child is an error of its directory
  by_child : (q : Path) (names : List (List ℕ)) (i : ℕ) (level : ℕ) (P Q : Type 0) (e : UtilError) → i < length names → AreChildNames fm.nodes p names → q ≡ p ++ Name (get_or names i []) ∷ []
      → IsAt fm p Folder → exists_at fm q ≡ true → (P → Q) → IsErrorAt (level + 1) fm q P e → IsErrorAt level fm p Q e
  by_child q names i level P Q util.Memory here order at a present f r = tt
  by_child q names i level P Q util.Read here order at a present f r = r
  by_child q names i level P Q (util.File NotFound) here order at a present f r = cc
  by_child q names i level P Q (util.File OtherKind) here order at a present f r = any_folder is_other a (other_reached fm.nodes p q names i here order at r)
  by_child q names i level P Q (util.File Fault) here order at a present f r = f r
  by_child q names i level P Q (util.File Memory) here order at a present f r = r
  by_child q names i level P Q util.TooDeep here order at a present f r = any_folder (is_too_deep level) a (deep_reached fm.nodes p q names i here order at level r)
  by_child q names i level P Q util.TooLong here order at a present f r = r
  by_child q names i level P Q util.Write here order at a present f r = r
  by_child q names i level P Q util.IncompleteEscape here order at a present f r = r
  by_child q names i level P Q util.InvalidEscape here order at a present f r = r
  by_child q names i level P Q util.IncompleteHex here order at a present f r = r
  by_child q names i level P Q util.InvalidHex here order at a present f r = r

  pub child_failed : (later : FileMap) (q : Path) (names : List (List ℕ)) (i : ℕ) (level : ℕ) (P Q : Type 0) (e : UtilError) → later ≡ fm → i < length names → AreChildNames fm.nodes p names → q ≡ p ++ Name (get_or names i []) ∷ []
      → IsAt fm p Folder → exists_at fm q ≡ true → (P → Q) → IsErrorAt (level + 1) later q P e → IsErrorAt level fm p Q e
  child_failed later q names i level P Q e same here order at a present f r =
      by_child q names i level P Q e here order at a present f (subst (λ m. IsErrorAt (level + 1) m q P e) same r)

-- ---- the path of a child

components-name : (n : List ℕ) → IsName n → components n ≡ Name n ∷ []
unfolding components
components-name n h = ap (λ p. p ++ inner_components n) (name_alone n h) ∙ (inner_one n h.no_slash ∙ h.part)

joined_name : (p : Path) (n : List ℕ) → joined p (Name n ∷ []) ≡ p ++ Name n ∷ []
joined_name [] n = refl
joined_name (c ∷ p) n = refl

pub name_at : (xs : List (Vec ℕ Global)) (i : ℕ) (v : Vec ℕ Global) → i < length xs → v ≡ get_or xs i v → v.items ≡ get_or (map vec_items xs) i []
name_at [] i v h e = absurd (omega arith)
name_at (x ∷ xs) zero v h e = ap vec_items e
name_at (x ∷ xs) (suc i) v h e = name_at xs i v (omega arith) e

name_among : (names : List (List ℕ)) (i : ℕ) → i < length names → AllByRecursion IsName names → IsName (get_or names i [])
name_among [] i h a = absurd (omega arith)
name_among (n ∷ names) zero h a = a.0
name_among (n ∷ names) (suc i) h a = name_among names i (omega arith) a.1

-- the path of a child whose name is from the listing
pub child_at : (fm : FileMap) (p q : Path) (name : List ℕ) (names : List (List ℕ)) (i : ℕ) → i < length names → AreChildNames fm.nodes p names
    → name ≡ get_or names i [] → q ≡ joined p (components name) → q ≡ p ++ Name (get_or names i []) ∷ []
child_at fm p q name names i here order is e =
    e ∙ (ap (λ n. joined p (components n)) is ∙ (ap (joined p) (components-name (get_or names i []) (name_among names i here order.names_only)) ∙ joined_name p (get_or names i [])))

pub child_exists : (fm : FileMap) (p q : Path) (names : List (List ℕ)) (i : ℕ) → i < length names → AreChildNames fm.nodes p names → q ≡ p ++ Name (get_or names i []) ∷ [] → exists_at fm q ≡ true
unfolding exists_at
child_exists fm p q names i here order at = ap (λ z. is_some (get fm.nodes z)) at ∙ order.stand i here
