-- what a walk goes by, as the context of what its marks decide
use Rattle.std.specs.Prelude.{ℕ, List}
use Rattle.cck_files.specs.FileMap.{FileMap}
use Rattle.cck_hasher.specs.Decided.{Context, context_in}
use Rattle.cck_hasher.specs.declared.walk_context.WalkContext.{WalkContext}
use Rattle.jiff.specs.Words.{plain_zone}

-- the context of a hash function and these files
abbrev pub context_of : (List ℕ → List ℕ) → WalkContext → FileMap → Context
context_of hash c files = context_in hash c.judge.config c.judge.moment (plain_zone c.judge.zone.now) c.judge.vars.now files c.input_file.now c.cwd.now
