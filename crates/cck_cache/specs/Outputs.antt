-- what a hit writes
use Rattle.std.specs.Prelude.{Bool, not, ◌||◌, ◌==◌, length}
use Rattle.std.specs.Option.{is_none}
use Rattle.cck_cache_rules.specs.declared.object_file.ObjectFile.{ObjectFile}
use Rattle.cck_cache_options.specs.declared.task.Outputs.{Outputs}

-- an object file has some dependencies, if there is a path for them
abbrev pub has_outputs : Outputs → ObjectFile → Bool
has_outputs outputs object = is_none outputs.dependencies || not (length object.dependencies.items == 0)
