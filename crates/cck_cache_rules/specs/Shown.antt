-- base directories in what a compilation made
use Rattle.std.specs.Prelude.{ℕ, List, Any}
use Rattle.cck_digest.specs.TimeMacros.{Has}

abbrev pub ShowsBase : List (List ℕ) → List ℕ → Type 0
ShowsBase bases made = Any (Has made) bases
