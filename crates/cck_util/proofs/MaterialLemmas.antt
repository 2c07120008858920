-- Equal key materials have equal parts.
use Rattle.std.proofs.Common.{◌≡◌, ◌↔◌, ℕ, List, [], ◌∷◌, ◌++◌, Bool, true, false, Option, Some, find, refl, sym, ap, ◌∙◌, arith, append_assoc, append-nil}
use Rattle.std.specs.Str.{bytes_eq}
use Rattle.cck_digest.specs.Frames.{frame, framed_list, framed_option}
use Rattle.cck_digest.proofs.FrameLemmas.{frame_reads_back, framed_list_reads_back, option_reads_back}
use Rattle.cck_digest.proofs.ReadsBack.{ReadsBack}
use Rattle.cck_path.specs.Variables.{Variable}
use Rattle.cck_util.specs.Key.{KeyParts, cache_version, flag_byte, material}
use Rattle.cck_util.specs.Language.{language_name}
use Rattle.cck_util.specs.Variables.{variable_frames}
use Rattle.cck_util.specs.declared.language.Language.{Language}
use Rattle.cck_util.specs.declared.language.Language.TheVariants.{Assembler}
use Rattle.cck_util.specs.declared.language.TheConstants.Language.{ALL}

-- the language of a name
abbrev named : List ℕ → Option Language
named name = find (λ language. bytes_eq (language_name language) name) ALL

-- one proof for each language: the second line stands for all but the first
named_by_its_name : (language : Language) → named (language_name language) ≡ Some language
named_by_its_name Assembler = refl
named_by_its_name _ = refl

pub language_from_name : (a b : Language) → language_name a ≡ language_name b → a ≡ b
language_from_name a b e =
    let both : ◌≡◌ {A = Option Language} (Some a) (Some b) = sym (named_by_its_name a) ∙ (ap named e ∙ named_by_its_name b) in
    cc

pub flag_reads_back : (a b : Bool) → ReadsBack (λ flag. flag_byte flag ∷ []) a b
flag_reads_back true true s t e = (refl, cc)
flag_reads_back false false s t e = (refl, cc)
flag_reads_back true false s t e = let one : ◌≡◌ {A = ℕ} 1 0 = cc in absurd (omega arith)
flag_reads_back false true s t e = let one : ◌≡◌ {A = ℕ} 0 1 = cc in absurd (omega arith)

pair_from_parts : (v w : Variable) → v.0 ≡ w.0 → v.1 ≡ w.1 → v ≡ w
pair_from_parts (a, b) (c, d) e f = cc

pub variable_reads_back : (v w : Variable) → ReadsBack variable_frames v w
variable_reads_back v w s t e =
    let split = sym (append_assoc (frame (v.0)) (frame (v.1)) s) ∙ (e ∙ append_assoc (frame (w.0)) (frame (w.1)) t) in
    let names = frame_reads_back (v.0) (w.0) _ _ split in
    let values = frame_reads_back (v.1) (w.1) s t names.1 in
    (pair_from_parts v w names.0 values.0, values.1)

-- the key material, nested to the right
material-nested : (p : KeyParts) → material p ≡ frame cache_version ++ (frame p.compiler_digest ++ ((flag_byte p.plusplus ∷ []) ++ (frame (language_name p.language)
    ++ (framed_list frame p.arguments ++ (framed_list frame p.extra_hashes ++ (framed_option p.assembler_digest
    ++ (framed_list variable_frames p.variables ++ frame p.output)))))))
unfolding material
material-nested p =
    parted (frame cache_version) (frame p.compiler_digest) (flag_byte p.plusplus ∷ []) (frame (language_name p.language)) (framed_list frame p.arguments)
    (framed_list frame p.extra_hashes) (framed_option p.assembler_digest) (framed_list variable_frames p.variables) (frame p.output)
  where
    parted : (a b c d e f g h i : List ℕ) → a ++ b ++ c ++ d ++ e ++ f ++ g ++ h ++ i ≡ a ++ (b ++ (c ++ (d ++ (e ++ (f ++ (g ++ (h ++ i)))))))
    parted a b c d e f g h i = simp append_assoc

parts_from_material : (p q : KeyParts) → material p ≡ material q → p ≡ q
parts_from_material p q e =
    let (_, after_version) = frame_reads_back cache_version cache_version _ _ (sym (material-nested p) ∙ (e ∙ material-nested q)) in
    let (compiler_digest, after_compiler) = frame_reads_back p.compiler_digest q.compiler_digest _ _ after_version in
    let (plusplus, after_flag) = flag_reads_back p.plusplus q.plusplus _ _ after_compiler in
    let (names, after_language) = frame_reads_back (language_name p.language) (language_name q.language) _ _ after_flag in
    let (arguments, after_arguments) = framed_list_reads_back frame frame_reads_back p.arguments q.arguments _ _ after_language in
    let (extra_hashes, after_hashes) = framed_list_reads_back frame frame_reads_back p.extra_hashes q.extra_hashes _ _ after_arguments in
    let (assembler_digest, after_assembler) = option_reads_back p.assembler_digest q.assembler_digest _ _ after_hashes in
    let (variables, after_variables) = framed_list_reads_back variable_frames variable_reads_back p.variables q.variables _ _ after_assembler in
    let (output, _) = frame_reads_back p.output q.output [] [] (append-nil (frame p.output) ∙ (after_variables ∙ sym (append-nil (frame q.output)))) in
    let language = language_from_name p.language q.language names in
    λ i. record {
      compiler_digest = compiler_digest i;
      plusplus = plusplus i;
      language = language i;
      arguments = arguments i;
      extra_hashes = extra_hashes i;
      assembler_digest = assembler_digest i;
      variables = variables i;
      output = output i;
    }

pub material_tells_parts : (p q : KeyParts) → material p ≡ material q ↔ (p ≡ q)
material_tells_parts p q = (parts_from_material p q, ap material)
