-- The files that no command line names.
use Rattle.std.proofs.Common.{◌≡◌, ◌≢◌, ℕ, ◌+◌, ◌<◌, List, [], ◌∷◌, ◌++◌, Bool, true, false, cond, Result, Ok, Err, Bor, MatchResult, filter, length, map, take, get_or, is_ok, refl, sym, ap, ap₂, ◌∙◌, append_assoc, codes, ◌==◌}
use Rattle.std.specs.Global.{Vec}
use Rattle.std.specs.List.{flat_map, slice_split}
use Rattle.std.specs.Str.{IsUtf8, bytes_eq, is_utf8}
use Rattle.std.proofs.lemmas.Grind.{flat_map-append}
use Rattle.std.proofs.lemmas.List.{append-nil, map-append, take_more}
use Rattle.std.proofs.lemmas.Str.{IsUtf8-from_is_utf8, is_utf8-from_IsUtf8}
use Rattle.cck_digest.specs.declared.error.FileError.{FileError}
use Rattle.cck_digest.specs.declared.error.FileError.TheVariants as file
use Rattle.cck_files.specs.Folder.{child_names}
use Rattle.cck_files.specs.Calls.{IsErrorOrMemory}
use Rattle.cck_files.specs.FileMap.{FileMap, folder_at}
use Rattle.cck_path.specs.Bytes.{Bytes, variables_of}
use Rattle.cck_path.specs.Path.{components}
use Rattle.cck_path.specs.Text.{join_path}
use Rattle.cck_path.specs.Variables.{Variable}
use Rattle.cck_compiler.specs.Arguments.{Arguments}
use Rattle.cck_compiler.specs.ExtraFiles.{extra_files, if_folder, is_hip, is_library, libraries, library_folder, named_by, named_files, with_extra_files}

-- the test of a text
pub text_test : {E : Type 0} (r : Result (Bor (List ℕ)) E) (bytes : List ℕ) (Q : E → Type 0) → MatchResult r (λ s. (s.now ≡ bytes) × IsUtf8 bytes) (λ e. (IsUtf8 bytes → ⊥) × Q e) → is_ok r ≡ is_utf8 bytes
text_test (Ok s) bytes Q h = sym (is_utf8-from_IsUtf8 bytes h.1)
text_test (Err e) bytes Q h = by (is_utf8 bytes) refl
  where
    by : (b : Bool) → is_utf8 bytes ≡ b → false ≡ b
    by true is = absurd (h.0 (IsUtf8-from_is_utf8 bytes is))
    by false is = refl

-- the libraries among the names in a directory
pub libraries_listed : (m : FileMap) (folder : Bytes) (names : List Bytes) → folder_at m (components folder) ≡ Ok tt → names ≡ child_names m.nodes (components folder) → map (join_path folder) (filter is_library names) ≡ libraries m folder
unfolding libraries
libraries_listed m folder names there are =
    ap (λ ns. map (join_path folder) (filter is_library ns)) are
    ∙ ap (λ r. map (join_path folder) (filter is_library (if_folder r (child_names m.nodes (components folder))))) (sym there)

-- there is no directory
pub no_libraries : (m : FileMap) (folder : Bytes) (HasFault : Type 0) (e : FileError) → e ≢ file.Memory → e ≢ file.Fault → IsErrorOrMemory (folder_at m (components folder)) HasFault e → libraries m folder ≡ []
unfolding libraries
no_libraries m folder HasFault file.NotFound h k is = ap (λ r. map (join_path folder) (filter is_library (if_folder r (child_names m.nodes (components folder))))) is
no_libraries m folder HasFault file.OtherKind h k is = ap (λ r. map (join_path folder) (filter is_library (if_folder r (child_names m.nodes (components folder))))) is
no_libraries m folder HasFault file.Fault h k is = absurd (k refl)
no_libraries m folder HasFault file.Memory h k is = absurd (h refl)

-- at one variable
module _ (vars : List (Vec ℕ × Vec ℕ)) (i : ℕ) (v : Vec ℕ × Vec ℕ) (within : i < length vars) (at : v ≡ get_or vars i v) where
  named_by_it : named_files (variables_of (take (i + 1) vars)) ≡ named_files (variables_of (take i vars)) ++ named_by (v.0.items, v.1.items)
  unfolding named_files
  named_by_it =
      ap (λ vs. flat_map named_by (variables_of vs)) (take_more vars i v within ∙ ap (λ w. take i vars ++ w ∷ []) (sym at))
      ∙ ap (flat_map named_by) (map-append (λ (w : Vec ℕ × Vec ℕ). (w.0.items, w.1.items)) (take i vars) (v ∷ []))
      ∙ flat_map-append named_by (variables_of (take i vars)) ((v.0.items, v.1.items) ∷ [])
      ∙ ap (λ paths. named_files (variables_of (take i vars)) ++ paths) (append-nil (named_by (v.0.items, v.1.items)))

  -- it names files
  pub named_here : bytes_eq v.0.items (codes "SCCACHE_EXTRAFILES") ≡ true → (first before after : List Bytes) (value : Bytes) → before ≡ first ++ named_files (variables_of (take i vars))
      → after ≡ before ++ slice_split (λ c. c == 58) value → value ≡ v.1.items → after ≡ first ++ named_files (variables_of (take (i + 1) vars))
  named_here is first before after value so_far more at =
      more ∙ ap₂ (λ xs s. xs ++ slice_split (λ c. c == 58) s) so_far at
      ∙ append_assoc first (named_files (variables_of (take i vars))) (slice_split (λ c. c == 58) v.1.items)
      ∙ ap (λ b. first ++ (named_files (variables_of (take i vars)) ++ cond b (slice_split (λ c. c == 58) v.1.items) [])) (sym is)
      ∙ ap (λ paths. first ++ paths) (sym named_by_it)

  -- it names none
  pub named_later : bytes_eq v.0.items (codes "SCCACHE_EXTRAFILES") ≡ false → (first before : List Bytes) → before ≡ first ++ named_files (variables_of (take i vars)) → before ≡ first ++ named_files (variables_of (take (i + 1) vars))
  named_later other first before so_far =
      so_far ∙ ap (λ paths. first ++ paths) (sym (append-nil (named_files (variables_of (take i vars))))
      ∙ ap (λ b. named_files (variables_of (take i vars)) ++ cond b (slice_split (λ c. c == 58) v.1.items) []) (sym other) ∙ sym named_by_it)

-- the files hashed beside those that the command line names
pub added_named : (m : FileMap) (variables : List Variable) (a : Arguments) (paths : List Bytes) → is_hip a.language ≡ false → paths ≡ a.extra_hash_files ++ named_files variables
    → record a { extra_hash_files = paths } ≡ with_extra_files m variables a
unfolding extra_files
added_named m variables a paths other are =
    let all : paths ≡ a.extra_hash_files ++ extra_files m variables a =
    are ∙ ap (λ ps. a.extra_hash_files ++ ps) (sym (append-nil (named_files variables)) ∙ ap (λ b. named_files variables ++ cond b (libraries m (library_folder a.common_args variables)) []) (sym other)) in
    λ i. record a { extra_hash_files = all i }

pub added_libraries : (m : FileMap) (variables : List Variable) (a : Arguments) (folder : Bytes) (named paths : List Bytes) → is_hip a.language ≡ true → named ≡ a.extra_hash_files ++ named_files variables
    → folder ≡ library_folder a.common_args variables → paths ≡ named ++ libraries m folder → record a { extra_hash_files = paths } ≡ with_extra_files m variables a
unfolding extra_files
added_libraries m variables a folder named paths is are at all_are =
    let all : paths ≡ a.extra_hash_files ++ extra_files m variables a =
    all_are ∙ ap (λ f. named ++ libraries m f) at
    ∙ ap (λ ps. ps ++ libraries m (library_folder a.common_args variables)) are
    ∙ append_assoc a.extra_hash_files (named_files variables) (libraries m (library_folder a.common_args variables))
    ∙ ap (λ b. a.extra_hash_files ++ (named_files variables ++ cond b (libraries m (library_folder a.common_args variables)) [])) (sym is) in
    λ i. record a { extra_hash_files = all i }
