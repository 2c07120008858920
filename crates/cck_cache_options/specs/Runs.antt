-- a table in runs
use Rattle.std.specs.Prelude.{◌≡◌, ℕ, List, [], ◌∷◌, ◌++◌, Option, Some, None, flat_map}
use Rattle.std.specs.List.{AllByRecursion}
use Rattle.cck_cache_options.specs.Table.{Entry, entries}
use Rattle.cck_cache_options.specs.declared.runs.Run.{Run}
use Rattle.cck_cache_options.specs.declared.runs.Runs.{Runs}

-- the two bytes of a name or an argument after the dash
abbrev pub after_dash : List ℕ → Option (ℕ × ℕ)
after_dash (dash ∷ first ∷ second ∷ bytes) = Some (first, second)
after_dash _ = None

abbrev pub run_entries : Run → List Entry
run_entries run = entries run.rows.items

-- the options of all runs, in their order
abbrev pub runs_entries : Runs → List Entry
runs_entries runs = flat_map run_entries runs.done.items ++ run_entries runs.last

-- the names of the options of a run have its two bytes
abbrev pub IsRun : Run → Type 0
IsRun run = AllByRecursion (λ option. after_dash option.name ≡ run.bytes) (run_entries run)

abbrev pub AreRuns : Runs → Type 0
AreRuns runs = AllByRecursion IsRun runs.done.items × IsRun runs.last

-- the last run has these bytes, and the options are the same
pub record IsOpened (before : Runs) (bytes : Option (ℕ × ℕ)) (after : Runs) : Type 0 where
  pub bytes_are : after.last.bytes ≡ bytes
  pub options : runs_entries after ≡ runs_entries before
  pub runs : AreRuns before → AreRuns after

-- an option comes after the others
pub record IsMore (before : Runs) (option : Entry) (after : Runs) : Type 0 where
  pub options : runs_entries after ≡ runs_entries before ++ option ∷ []
  pub runs : AreRuns before → AreRuns after
