-- The definitions at literal values.
use Rattle.std.proofs.Common.{◌≡◌, Some, codes, true, false, refl}
use Rattle.cck_compiler.specs.declared.compiler.CCompilerKind.TheVariants.{Clang, Gcc}
use Rattle.cck_cache.specs.Places.{has_room_beside}
use Rattle.cck_cache.specs.Record.{Holds}
use Rattle.cck_cache.specs.Request.{is_plusplus, kind_of, programs_for}

-- the second program decides, and not the name by which the compiler is called
clang : kind_of (codes "/usr/bin/cc:/usr/lib/llvm-14/bin/clang:/lib/libc.so.6") ≡ Clang
clang = refl

gcc : kind_of (codes "/home/a/clang:/usr/lib/gcc/x86_64-linux-gnu/12/cc1:/usr/bin/as") ≡ Gcc
gcc = refl

clang_plusplus : is_plusplus (codes "/usr/bin/c++:/usr/lib/llvm-14/bin/clang++") ≡ true
clang_plusplus = refl

one_program : is_plusplus (codes "/usr/bin/clang++") ≡ false
one_program = refl

-- gcc's program for C++ counts in C++ alone
of_c : programs_for (codes "/usr/bin/gcc:/g/cc1:/g/cc1plus:/usr/bin/as") (codes "x.c") ≡ codes "/usr/bin/gcc:/g/cc1:/usr/bin/as"
of_c = refl

of_cplusplus : programs_for (codes "/usr/bin/gcc:/g/cc1:/g/cc1plus:/usr/bin/as") (codes "x.cc") ≡ codes "/usr/bin/gcc:/g/cc1:/g/cc1plus:/usr/bin/as"
of_cplusplus = refl

held : Holds (λ rule. rule ≡ codes "x.o: x.c") (Some (codes "x.o: x.c"))
held = refl

-- a percent sign counts in the directory alone
percent_in_name : has_room_beside (codes "a/%b.o") ≡ true
percent_in_name = refl

percent_in_directory : has_room_beside (codes "%a/b.o") ≡ false
percent_in_directory = refl
