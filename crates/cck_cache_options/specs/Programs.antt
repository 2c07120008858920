-- what words say of the programs that a compiler runs
use Rattle.std.specs.Prelude.{◌≡◌, Some, None, codes}
use Rattle.clap.specs.Matches.{first_value}
use Rattle.clap.specs.declared.parser.matches.Found.{Found}
use Rattle.cck_cache_options.specs.declared.compiler_call.Programs.{Programs}
use Rattle.cck_cache_options.specs.declared.compiler_call.Programs.TheVariants.{Driver, Paths}

-- the words have their paths, or not these but the compiler as it is called
abbrev pub HasPrograms : Found → Programs → Type 0
HasPrograms found (Paths paths) = first_value found (codes "compiler") ≡ Some paths.now
HasPrograms found (Driver driver) = (first_value found (codes "compiler") ≡ None) × (first_value found (codes "driver") ≡ Some driver.now)

-- the words have neither
pub record HasNoPrograms (found : Found) : Type 0 where
  pub no_paths : first_value found (codes "compiler") ≡ None
  pub no_driver : first_value found (codes "driver") ≡ None
