use Rattle.std.proofs.Common.{ap}
use Rattle.std.proofs.lemmas.Bool.Decides.{Decides-and, Decides-like}
use Rattle.std.specs.Cmp.{booleans_Decides}
use Rattle.cck_include.specs.declared.config.PreprocessorCacheModeConfig.{PreprocessorCacheModeConfig}
use Rattle.cck_include.proofs.laws.preprocessor_cache_mode_config_equality_is_exact.Goals as goal

pub returns : goal.returns
returns c = λ a b.
    Decides-like _ (λ h. λ i. record { use_preprocessor_cache_mode = h.0 i; file_stat_matches = h.1.0 i; use_ctime_for_stat = h.1.1.0 i; ignore_time_macros = h.1.1.1.0 i; skip_system_headers = h.1.1.1.1.0 i; hash_working_directory = h.1.1.1.1.1 i })
    (λ e. (ap (λ (o : PreprocessorCacheModeConfig). o.use_preprocessor_cache_mode) e, (ap (λ (o : PreprocessorCacheModeConfig). o.file_stat_matches) e, (ap (λ (o : PreprocessorCacheModeConfig). o.use_ctime_for_stat) e, (ap (λ (o : PreprocessorCacheModeConfig). o.ignore_time_macros) e, (ap (λ (o : PreprocessorCacheModeConfig). o.skip_system_headers) e, ap (λ (o : PreprocessorCacheModeConfig). o.hash_working_directory) e))))))
    (Decides-and _ _ (booleans_Decides a.use_preprocessor_cache_mode b.use_preprocessor_cache_mode)
    (Decides-and _ _ (booleans_Decides a.file_stat_matches b.file_stat_matches)
    (Decides-and _ _ (booleans_Decides a.use_ctime_for_stat b.use_ctime_for_stat)
    (Decides-and _ _ (booleans_Decides a.ignore_time_macros b.ignore_time_macros)
    (Decides-and _ _ (booleans_Decides a.skip_system_headers b.skip_system_headers)
    (booleans_Decides a.hash_working_directory b.hash_working_directory))))))
