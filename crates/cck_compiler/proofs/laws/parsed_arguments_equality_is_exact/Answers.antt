use Rattle.std.proofs.Common.{ap}
use Rattle.std.proofs.lemmas.Bool.Decides.{Decides-and, Decides-like}
use Rattle.std.specs.Cmp.{booleans_Decides}
use Rattle.std.specs.Cmp.Lexicographic.{bytes_decides}
use denote.Enum.Bare.{same_true, true_same}
use Rattle.cck_path.proofs.EqualityLemmas.{list_decides, text_decides, texts_decide}
use Rattle.cck_util.specs.contracts.language.Language.{the_type as language}
use Rattle.cck_compiler.specs.Arguments.{Arguments}
use Rattle.cck_compiler.specs.Seen.{output_of}
use Rattle.cck_compiler.specs.contracts.arguments.ColorMode.{the_type as mode}
use Rattle.cck_compiler.proofs.OutputEquality.{output_decides, same_output}
use Rattle.cck_compiler.proofs.laws.parsed_arguments_equality_is_exact.Goals as goal

pub returns : goal.returns
returns c = λ a b.
    Decides-like _ (λ h. λ i. record { input = h.0 i; double_dash_input = h.1.0 i; language = h.1.1.0 i; compilation_flag = h.1.1.1.0 i; depfile = h.1.1.1.1.0 i; outputs = h.1.1.1.1.1.0 i; dependency_args = h.1.1.1.1.1.1.0 i; preprocessor_args = h.1.1.1.1.1.1.1.0 i; common_args = h.1.1.1.1.1.1.1.1.0 i; arch_args = h.1.1.1.1.1.1.1.1.1.0 i; unhashed_args = h.1.1.1.1.1.1.1.1.1.1.0 i; extra_dist_files = h.1.1.1.1.1.1.1.1.1.1.1.0 i; extra_hash_files = h.1.1.1.1.1.1.1.1.1.1.1.1.0 i; uses_external_assembler = h.1.1.1.1.1.1.1.1.1.1.1.1.1.0 i; msvc_show_includes = h.1.1.1.1.1.1.1.1.1.1.1.1.1.1.0 i; msvc_explicit_language = h.1.1.1.1.1.1.1.1.1.1.1.1.1.1.1.0 i; profile_generate = h.1.1.1.1.1.1.1.1.1.1.1.1.1.1.1.1.0 i; color_mode = h.1.1.1.1.1.1.1.1.1.1.1.1.1.1.1.1.1.0 i; suppress_rewrite_includes_only = h.1.1.1.1.1.1.1.1.1.1.1.1.1.1.1.1.1.1.0 i; too_hard_for_preprocessor_cache_mode = h.1.1.1.1.1.1.1.1.1.1.1.1.1.1.1.1.1.1.1 i })
    (λ e. (ap (λ (x : Arguments). x.input) e, (ap (λ (x : Arguments). x.double_dash_input) e, (ap (λ (x : Arguments). x.language) e, (ap (λ (x : Arguments). x.compilation_flag) e, (ap (λ (x : Arguments). x.depfile) e, (ap (λ (x : Arguments). x.outputs) e, (ap (λ (x : Arguments). x.dependency_args) e, (ap (λ (x : Arguments). x.preprocessor_args) e, (ap (λ (x : Arguments). x.common_args) e, (ap (λ (x : Arguments). x.arch_args) e, (ap (λ (x : Arguments). x.unhashed_args) e, (ap (λ (x : Arguments). x.extra_dist_files) e, (ap (λ (x : Arguments). x.extra_hash_files) e, (ap (λ (x : Arguments). x.uses_external_assembler) e, (ap (λ (x : Arguments). x.msvc_show_includes) e, (ap (λ (x : Arguments). x.msvc_explicit_language) e, (ap (λ (x : Arguments). x.profile_generate) e, (ap (λ (x : Arguments). x.color_mode) e, (ap (λ (x : Arguments). x.suppress_rewrite_includes_only) e, ap (λ (x : Arguments). x.too_hard_for_preprocessor_cache_mode) e))))))))))))))))))))
    (Decides-and _ _ (bytes_decides a.input.items b.input.items)
    (Decides-and _ _ (booleans_Decides a.double_dash_input b.double_dash_input)
    (Decides-and _ _ (same_true language tt a.language b.language, true_same language a.language b.language)
    (Decides-and _ _ (bytes_decides a.compilation_flag.items b.compilation_flag.items)
    (Decides-and _ _ (text_decides a.depfile b.depfile)
    (Decides-and _ _ (list_decides output_of same_output output_decides a.outputs.entries b.outputs.entries)
    (Decides-and _ _ (texts_decide a.dependency_args.items b.dependency_args.items)
    (Decides-and _ _ (texts_decide a.preprocessor_args.items b.preprocessor_args.items)
    (Decides-and _ _ (texts_decide a.common_args.items b.common_args.items)
    (Decides-and _ _ (texts_decide a.arch_args.items b.arch_args.items)
    (Decides-and _ _ (texts_decide a.unhashed_args.items b.unhashed_args.items)
    (Decides-and _ _ (texts_decide a.extra_dist_files.items b.extra_dist_files.items)
    (Decides-and _ _ (texts_decide a.extra_hash_files.items b.extra_hash_files.items)
    (Decides-and _ _ (booleans_Decides a.uses_external_assembler b.uses_external_assembler)
    (Decides-and _ _ (booleans_Decides a.msvc_show_includes b.msvc_show_includes)
    (Decides-and _ _ (booleans_Decides a.msvc_explicit_language b.msvc_explicit_language)
    (Decides-and _ _ (booleans_Decides a.profile_generate b.profile_generate)
    (Decides-and _ _ (same_true mode tt a.color_mode b.color_mode, true_same mode a.color_mode b.color_mode)
    (Decides-and _ _ (booleans_Decides a.suppress_rewrite_includes_only b.suppress_rewrite_includes_only)
    (text_decides a.too_hard_for_preprocessor_cache_mode b.too_hard_for_preprocessor_cache_mode))))))))))))))))))))
