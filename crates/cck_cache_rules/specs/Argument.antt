-- what one argument does
use Rattle.std.specs.Prelude.{◌≡◌, ◌≢◌, ℕ, ◌⊎◌, List, ◌∷◌, ◌++◌, All, codes}
use Rattle.cck_digest.specs.TimeMacros.{Has}

abbrev pub Begins : List ℕ → List ℕ → Type 0
Begins text word = (rest : List ℕ) × (text ≡ word ++ rest)

abbrev pub IsEndOf : List ℕ → List ℕ → Type 0
IsEndOf text word = (front : List ℕ) × (text ≡ front ++ word)

-- an option, the base directory, `=` and a name that has neither `=` nor the base directory
pub record MapsBase (argument option base : List ℕ) : Type 0 where
  pub name : List ℕ
  pub is : argument ≡ option ++ (base ++ 61 ∷ name)
  pub one_map : All (λ byte. byte ≢ 61) name
  pub hidden : ¬ Has name base

-- the base directory has another name in debug information
abbrev pub MapsDebug : List ℕ → List ℕ → Type 0
MapsDebug argument base =
    MapsBase argument (codes "-ffile-prefix-map=") base ⊎ MapsBase argument (codes "-fdebug-prefix-map=") base

abbrev pub IsMapOfBase : List ℕ → List ℕ → Type 0
IsMapOfBase argument base = MapsDebug argument base ⊎ MapsBase argument (codes "-fmacro-prefix-map=") base

abbrev pub AsksForDebug : List ℕ → Type 0
AsksForDebug argument = Begins argument (codes "-g") × (argument ≢ codes "-g0")

-- the option may put paths into an object, or hide them there
abbrev pub ShowsPaths : List ℕ → Type 0
ShowsPaths argument = Begins argument (codes "-fsanitize") ⊎ (Begins argument (codes "-gz") ⊎ Begins argument (codes "-flto"))

-- an argument of a portable compilation: it maps exactly the base directory, or maps and names nothing
abbrev pub IsPortable : List ℕ → List ℕ → Type 0
IsPortable argument base =
    (¬ ShowsPaths argument) × (IsMapOfBase argument base ⊎ ((¬ Has argument (codes "-prefix-map")) × (¬ Has argument base)))
