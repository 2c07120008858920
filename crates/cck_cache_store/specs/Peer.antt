-- what a look-up asks for what a store lacks
use Rattle.std.specs.Prelude.{ℕ, List, codes}
use Rattle.cck_cache_files.specs.declared.store_directory.Kind.{Kind}
use Rattle.cck_cache_files.specs.declared.store_directory.Kind.TheVariants.{Entry, Object}

-- the name of a kind at a server
abbrev pub kind_word : Kind → List ℕ
kind_word Entry = codes "entry"
kind_word Object = codes "object"
