-- the paths that gcc chooses
use Rattle.std.specs.Prelude.{◌≡◌, ◌≢◌, ◌⊎◌, ℕ, List, [], ◌∷◌, ◌++◌, codes}
use Rattle.std.specs.List.{AllByRecursion}

abbrev pub HasNo : ℕ → List ℕ → Type 0
HasNo byte bytes = AllByRecursion (λ b. b ≢ byte) bytes

-- a path is a directory, which is empty or ends in a slash, and a name without a slash
pub record IsNameIn (path directory name : List ℕ) : Type 0 where
  pub whole : path ≡ directory ++ name
  pub is_name : HasNo 47 name
  pub is_directory : (directory ≡ []) ⊎ ((start : List ℕ) × (directory ≡ start ++ 47 ∷ []))

-- a name is a stem and a suffix, which begins with its last point; a name without a point is a stem
abbrev pub IsStem : List ℕ → List ℕ → Type 0
IsStem name stem = ((suffix : List ℕ) × (name ≡ stem ++ 46 ∷ suffix) × HasNo 46 suffix) ⊎ ((name ≡ stem) × HasNo 46 name)

-- the input's name in the working directory, with `.o` in place of its suffix
pub record IsObjectPath (input path : List ℕ) : Type 0 where
  pub directory : List ℕ
  pub name : List ℕ
  pub stem : List ℕ
  pub divided : IsNameIn input directory name
  pub is_stem : IsStem name stem
  pub is : path ≡ stem ++ codes ".o"

-- the path of the object, with `.d` in place of the suffix of its name
pub record IsDependencyPath (output path : List ℕ) : Type 0 where
  pub directory : List ℕ
  pub name : List ℕ
  pub stem : List ℕ
  pub divided : IsNameIn output directory name
  pub is_stem : IsStem name stem
  pub is : path ≡ directory ++ stem ++ codes ".d"
