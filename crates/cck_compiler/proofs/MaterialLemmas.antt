-- Equal key materials have equal parts.
use Rattle.std.proofs.Common.{◌≡◌, ◌↔◌, ℕ, List, [], ◌∷◌, ◌++◌, refl, sym, ◌∙◌, append_assoc, append-nil}
use Rattle.cck_digest.specs.Frames.{frame, framed_list, framed_option}
use Rattle.cck_digest.proofs.FrameLemmas.{frame_reads_back, framed_list_reads_back, option_reads_back}
use Rattle.cck_digest.proofs.ReadsBack.{bytes_read_back}
use Rattle.cck_util.proofs.MaterialLemmas.{flag_reads_back, language_from_name, variable_reads_back}
use Rattle.cck_util.specs.Key.{cache_version, flag_byte}
use Rattle.cck_util.specs.Language.{language_name}
use Rattle.cck_util.specs.Variables.{variable_frames}
use Rattle.cck_include.specs.Include.{format_version}
use Rattle.cck_compiler.specs.PreprocessorKey.{RequestParts, compiler_material, preprocessor_material}

-- the key material up to the lists of arguments, and what follows
abbrev begun : RequestParts → List ℕ → List ℕ
begun p rest =
    (format_version ∷ []) ++ (frame cache_version ++ (frame p.compiler_digest ++ ((flag_byte p.plusplus ∷ []) ++ (frame (language_name p.language)
    ++ ((flag_byte p.multiarch ∷ []) ++ rest)))))

-- the lists, and what follows
abbrev listed : RequestParts → List (List ℕ) → List ℕ → List ℕ
listed p xs rest =
    framed_list frame p.preprocessor_args ++ (framed_list frame p.arch_args ++ (framed_list frame p.common_args ++ (framed_list frame xs ++ rest)))

-- the key material after the lists
abbrev ended : RequestParts → List ℕ → List ℕ
ended p r =
    framed_option p.assembler_digest ++ (framed_list variable_frames p.variables ++ (frame p.input_file ++ (framed_option p.directory ++ frame r)))

-- the key material, nested to the right
material-nested : (p : RequestParts) (xs : List (List ℕ)) (r : List ℕ) → preprocessor_material p xs r ≡ begun p (listed p xs (ended p r))
unfolding preprocessor_material compiler_material
material-nested p xs r =
    parted (format_version ∷ []) (frame cache_version) (frame p.compiler_digest) (flag_byte p.plusplus ∷ []) (frame (language_name p.language)) (flag_byte p.multiarch ∷ [])
    (framed_list frame p.preprocessor_args) (framed_list frame p.arch_args) (framed_list frame p.common_args) (framed_list frame xs)
    (framed_option p.assembler_digest) (framed_list variable_frames p.variables) (frame p.input_file) (framed_option p.directory) (frame r)
  where
    parted : (a b c d e f g h i j k l m n o : List ℕ)
        → a ++ b ++ c ++ d ++ e ++ f ++ g ++ h ++ i ++ j ++ k ++ l ++ m ++ n ++ o
        ≡ a ++ (b ++ (c ++ (d ++ (e ++ (f ++ (g ++ (h ++ (i ++ (j ++ (k ++ (l ++ (m ++ (n ++ o)))))))))))))
    parted a b c d e f g h i j k l m n o = simp append_assoc

parts_from_material : (p q : RequestParts) (xs ys : List (List ℕ)) (r s : List ℕ) → preprocessor_material p xs r ≡ preprocessor_material q ys s → (p ≡ q) × (xs ≡ ys) × (r ≡ s)
parts_from_material p q xs ys r s e =
    let (_, after_format) = bytes_read_back (format_version ∷ []) (format_version ∷ []) _ _ refl (sym (material-nested p xs r) ∙ (e ∙ material-nested q ys s)) in
    let (_, after_version) = frame_reads_back cache_version cache_version _ _ after_format in
    let (compiler_digest, after_compiler) = frame_reads_back p.compiler_digest q.compiler_digest _ _ after_version in
    let (plusplus, after_flag) = flag_reads_back p.plusplus q.plusplus _ _ after_compiler in
    let (names, after_language) = frame_reads_back (language_name p.language) (language_name q.language) _ _ after_flag in
    let (multiarch, after_mark) = flag_reads_back p.multiarch q.multiarch _ _ after_language in
    let (preprocessor_args, after_preprocessor) = framed_list_reads_back frame frame_reads_back p.preprocessor_args q.preprocessor_args _ _ after_mark in
    let (arch_args, after_arch) = framed_list_reads_back frame frame_reads_back p.arch_args q.arch_args _ _ after_preprocessor in
    let (common_args, after_common) = framed_list_reads_back frame frame_reads_back p.common_args q.common_args _ _ after_arch in
    let (extra_hashes, after_hashes) = framed_list_reads_back frame frame_reads_back xs ys _ _ after_common in
    let (assembler_digest, after_assembler) = option_reads_back p.assembler_digest q.assembler_digest _ _ after_hashes in
    let (variables, after_variables) = framed_list_reads_back variable_frames variable_reads_back p.variables q.variables _ _ after_assembler in
    let (input_file, after_input) = frame_reads_back p.input_file q.input_file _ _ after_variables in
    let (directory, after_directory) = option_reads_back p.directory q.directory _ _ after_input in
    let (recorded, _) = frame_reads_back r s [] [] (append-nil (frame r) ∙ (after_directory ∙ sym (append-nil (frame s)))) in
    let language = language_from_name p.language q.language names in
    let parts : p ≡ q = λ i. record {
      compiler_digest = compiler_digest i;
      plusplus = plusplus i;
      language = language i;
      multiarch = multiarch i;
      preprocessor_args = preprocessor_args i;
      arch_args = arch_args i;
      common_args = common_args i;
      assembler_digest = assembler_digest i;
      variables = variables i;
      input_file = input_file i;
      directory = directory i;
    }
    in
    (parts, extra_hashes, recorded)

pub preprocessor_material_tells_parts : (p q : RequestParts) (xs ys : List (List ℕ)) (r s : List ℕ) → preprocessor_material p xs r ≡ preprocessor_material q ys s ↔ ((p ≡ q) × (xs ≡ ys) × (r ≡ s))
preprocessor_material_tells_parts p q xs ys r s =
    (parts_from_material p q xs ys r s, λ same. (λ i. preprocessor_material (same.0 i) (same.1 i) (same.2 i)))
