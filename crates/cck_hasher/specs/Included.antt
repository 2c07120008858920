-- what a walk recorded, in the form that an entry takes
use Rattle.std.specs.Prelude.{ℕ, List, map, String, string_bytes}
use Rattle.std.specs.Global.{Vec}
use Rattle.std.specs.declared.alloc.Global.{Global}
use Rattle.cck_include.specs.Gathered.{Digested}

-- the digests and the paths that a walk recorded
abbrev pub digested_of : List (Vec ℕ × String Global) → List Digested
digested_of files = map (λ f. (string_bytes (f.1), f.0.items)) files
