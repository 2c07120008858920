-- what a process is given beside its words
use Rattle.std.specs.Prelude.{ℕ, List, [], ◌∷◌, ◌++◌, codes}
use Rattle.cck_util.specs.Variables.{include_path_names, object_variable_names}

-- the names of the variables that keys and recorded digests depend on: those of both keys, the one that turns the preprocessor cache off, and the
-- one that `__DATE__` shows
abbrev pub variable_names : List (List ℕ)
variable_names = object_variable_names ++ include_path_names ++ codes "SCCACHE_DIRECT" ∷ codes "SOURCE_DATE_EPOCH" ∷ []
