-- Hex digests of paths.
use Rattle.std.proofs.Common.{◌≡◌, ℕ, ◌+◌, ◌<◌, List, [], ◌∷◌, ◌++◌, length, map, take, get_or, Bool, true, false, ◌||◌, cond, Option, Some, None, refl, sym, ap, ◌∙◌, arith, zero, suc, subst, Vec, Global, Result, Ok, Err, IfOk, MatchResult}
use Rattle.std.specs.Prelude.{is_some, IsOkUnless}
use Rattle.std.specs.Option.{option_map}
use Rattle.std.specs.List.{list_any}
use Rattle.std.specs.FinMap.{get}
use Rattle.std.proofs.lemmas.List.{take_more}
use Rattle.cck_digest.specs.Digest.{digest_text}
use Rattle.cck_digest.specs.declared.error.FileError.TheVariants.{NotFound, OtherKind, Fault, Memory}
use Rattle.cck_digest.specs.declared.error.UtilError.{UtilError}
use Rattle.cck_digest.specs.declared.error.UtilError.TheVariants as util
use Rattle.cck_path.specs.Path.{Path, components}
use Rattle.cck_files.specs.FileMap.{FileMap, FileNode, exists_at}
use Rattle.cck_files.specs.FileDigest.{IsFirstError, text_and, digest_text_at, texts}
use Rattle.cck_files.specs.Errors.{IsDigestError}
use Rattle.cck_files.specs.FolderText.{is_other, is_too_deep, nodes_material, material_of, node_and_reached, whole_part, digest_material}

pub material_some : (fm : FileMap) (p : Path) → exists_at fm p ≡ true → list_any is_other (node_and_reached fm.nodes p) ≡ false → list_any (is_too_deep 1) (node_and_reached fm.nodes p) ≡ false
    → digest_material fm p ≡ Some (nodes_material None (node_and_reached fm.nodes p))
unfolding exists_at node_and_reached digest_material
material_some fm p present other deep = by (get fm.nodes p) present other deep
  where
    given : (a b : Bool) (bytes : List ℕ) → a ≡ false → b ≡ false → cond (a || b) None (Some bytes) ≡ Some bytes
    given false false bytes e f = refl
    given true b bytes e f = cc
    given false true bytes e f = cc

    by : (o : Option FileNode) → is_some o ≡ true → list_any is_other (whole_part fm.nodes p o) ≡ false → list_any (is_too_deep 1) (whole_part fm.nodes p o) ≡ false
        → material_of (whole_part fm.nodes p o) ≡ Some (nodes_material None (whole_part fm.nodes p o))
    by None s e f = cc
    by (Some node) s e f = given _ _ _ e f

pub text_some : (hash : List ℕ → List ℕ) (fm : FileMap) (p : Path) (bytes text : List ℕ) → digest_material fm p ≡ Some bytes → text ≡ digest_text hash bytes → digest_text_at hash fm p ≡ Some text
unfolding digest_text_at
text_some hash fm p bytes text e f = ap (option_map (digest_text hash)) e ∙ ap Some (sym f)

-- an error by a weaker premise on faults
error_more : (fm : FileMap) (p : Path) (P Q : Type 0) (e : UtilError) → (P → Q) → IsDigestError fm p P e → IsDigestError fm p Q e
error_more fm p P Q (util.File NotFound) f r = r
error_more fm p P Q (util.File OtherKind) f r = r
error_more fm p P Q (util.File Fault) f r = f r
error_more fm p P Q (util.File Memory) f r = r
error_more fm p P Q util.Memory f r = r
error_more fm p P Q util.Read f r = r
error_more fm p P Q util.TooDeep f r = r
error_more fm p P Q util.TooLong f r = r
error_more fm p P Q util.Write f r = r
error_more fm p P Q util.IncompleteEscape f r = r
error_more fm p P Q util.InvalidEscape f r = r
error_more fm p P Q util.IncompleteHex f r = r
error_more fm p P Q util.InvalidHex f r = r

module _ (hash : List ℕ → List ℕ) (fm : FileMap) where
  texts-push : (ps : List Path) (p : Path) (ts : List (List ℕ)) (t : List ℕ) → texts hash fm ps ≡ Some ts → digest_text_at hash fm p ≡ Some t → texts hash fm (ps ++ p ∷ []) ≡ Some (ts ++ t ∷ [])
  texts-push [] p ts t e f = let none : [] ≡ ts = cc in ap (λ o. text_and o (Some [])) f ∙ ap (λ l. Some (l ++ t ∷ [])) none
  texts-push (q ∷ ps) p ts t e f = by (digest_text_at hash fm q) (texts hash fm ps) (λ us is. texts-push ps p us t is f) e
    where
      by : (first : Option (List ℕ)) (others : Option (List (List ℕ))) → ((us : List (List ℕ)) → others ≡ Some us → texts hash fm (ps ++ p ∷ []) ≡ Some (us ++ t ∷ []))
          → text_and first others ≡ Some ts → text_and first (texts hash fm (ps ++ p ∷ [])) ≡ Some (ts ++ t ∷ [])
      by None others more all = cc
      by (Some u) None more all = cc
      by (Some u) (Some us) more all =
          let same : u ∷ us ≡ ts = cc in
          ap (option_map (λ l. u ∷ l)) (more us refl) ∙ ap (λ l. Some (l ++ t ∷ [])) same

  -- one more hex digest
  pub texts_more : (ps : List Path) (i : ℕ) (ts : List (List ℕ)) (t : List ℕ) → i < length ps → texts hash fm (take i ps) ≡ Some ts → digest_text_at hash fm (get_or ps i []) ≡ Some t
      → texts hash fm (take (i + 1) ps) ≡ Some (ts ++ t ∷ [])
  texts_more ps i ts t here e f = ap (texts hash fm) (take_more ps i [] here) ∙ texts-push (take i ps) (get_or ps i []) ts t e f

  -- the error of a path, where each path before it has a digest
  pub first_error : (ps : List Path) (i : ℕ) (ts : List (List ℕ)) (p : Path) (P Q : Type 0) (e : UtilError) → i < length ps → texts hash fm (take i ps) ≡ Some ts → p ≡ get_or ps i []
      → (P → Q) → IsDigestError fm p P e → IsFirstError hash fm ps Q e
  first_error ps i ts p P Q e here so_far at more cause = record {
    at = i;
    within = here;
    earlier = ap is_some so_far;
    cause = subst (λ q. IsDigestError fm q Q e) at (error_more fm p P Q e more cause);
  }

-- the path of this text
pub path_at : (xs : List (Vec ℕ Global)) (i : ℕ) (v : Vec ℕ Global) → i < length xs → v ≡ get_or xs i v → components v.items ≡ get_or (map (λ path. components path.items) xs) i []
path_at [] i v h e = absurd (omega arith)
path_at (x ∷ xs) zero v h e = ap (λ path. components path.items) e
path_at (x ∷ xs) (suc i) v h e = path_at xs i v (omega arith) e

-- finishing fails only for lack of memory
pub finished : {T : Type 0} (r : Result T UtilError) (P P' : T → Type 0) (Q : UtilError → Type 0) → ((x : T) → P x → P' x) → Q UtilError.Memory → IfOk r P → IsOkUnless r UtilError.Memory → MatchResult r P' Q
finished (Ok x) P P' Q f q h unless = f x h
finished (Err e) P P' Q f q h unless = subst Q (sym unless) q
