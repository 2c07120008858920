-- the options of the preprocessor cache mode
use Rattle.std.specs.Prelude.{true, false}
use Rattle.cck_include.specs.declared.config.PreprocessorCacheModeConfig.{PreprocessorCacheModeConfig}

-- the defaults, with the mode on
abbrev pub activated : PreprocessorCacheModeConfig
activated = record {
  use_preprocessor_cache_mode = true;
  file_stat_matches = false;
  use_ctime_for_stat = true;
  ignore_time_macros = false;
  skip_system_headers = false;
  hash_working_directory = true;
}
