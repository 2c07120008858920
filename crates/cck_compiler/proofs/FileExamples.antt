-- Examples of variables and arguments that give extra files.
use lib.Utf8.{encode}
use Rattle.std.proofs.Common.{◌≡◌, [], ◌∷◌, codes, refl}
use Rattle.std.specs.Str.{chars, is_utf8}
use Rattle.cck_path.specs.Text.{join_path}
use Rattle.cck_compiler.specs.ExtraFiles.{flag_value, library_folder, named_files, text_value}

two_named : named_files ((codes "A", codes "/a") ∷ (codes "SCCACHE_EXTRAFILES", codes "/x:/y") ∷ []) ≡ codes "/x" ∷ codes "/y" ∷ []
unfolding named_files
two_named = refl

-- an empty value names one empty path
empty_named : named_files ((codes "SCCACHE_EXTRAFILES", []) ∷ []) ≡ [] ∷ []
unfolding named_files
empty_named = refl

-- every variable of the name counts
all_named : named_files ((codes "SCCACHE_EXTRAFILES", codes "/x") ∷ (codes "SCCACHE_EXTRAFILES", codes "/y:") ∷ []) ≡ codes "/x" ∷ codes "/y" ∷ [] ∷ []
unfolding named_files
all_named = refl

-- a flag has precedence over a variable, and the directory itself over the release
directory_by_flag : library_folder (codes "--rocm-path=/r" ∷ codes "--hip-device-lib-path=/d" ∷ []) ((codes "HIP_DEVICE_LIB_PATH", codes "/e") ∷ []) ≡ codes "/d"
unfolding chars encode flag_value is_utf8 join_path library_folder text_value
directory_by_flag = refl

directory_of_release : library_folder (codes "--rocm-path=/r" ∷ []) [] ≡ codes "/r/amdgcn/bitcode"
unfolding chars encode flag_value is_utf8 join_path library_folder text_value
directory_of_release = refl

directory_by_none : library_folder [] [] ≡ codes "/opt/rocm/amdgcn/bitcode"
unfolding library_folder flag_value text_value
directory_by_none = refl
