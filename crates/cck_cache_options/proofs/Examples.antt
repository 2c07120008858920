-- The definitions at literal values.
use Rattle.std.proofs.Common.{◌≡◌, true, false, [], ◌∷◌, codes, refl}
use Rattle.cck_cache_options.specs.Call.{is_input}
use Rattle.cck_cache_options.specs.Table.{entry_in, table_of}
use Rattle.cck_cache_options.specs.declared.table.Cause.TheVariants.{LinkTimeOptimization}
use Rattle.cck_cache_options.specs.declared.table.Class.TheVariants.{Code, Passed}
use Rattle.cck_cache_options.specs.declared.table.Form.TheVariants.{Alone, Either}

two_rows : table_of (codes "-g alone code\n-flto either passed-link-time-optimization\n")
    ≡ record { name = codes "-g"; form = Alone; class = Code } ∷ record { name = codes "-flto"; form = Either; class = Passed LinkTimeOptimization } ∷ []
two_rows = refl

-- a line of two fields is no row, nor is one of an unknown class
no_row : entry_in (codes "-g alone") ≡ []
no_row = refl

no_class : entry_in (codes "-g alone other") ≡ []
no_class = refl

-- the null device is a source in C where an option says so, and no source of another language is

null_device : is_input true (codes "/dev/null") ≡ true
null_device = refl

null_device_alone : is_input false (codes "/dev/null") ≡ false
null_device_alone = refl

other_language : is_input true (codes "a.cc") ≡ false
other_language = refl
