-- which of the directories that a preprocessor searches are the same
use Rattle.std.specs.Prelude.{◌≡◌, ◌≢◌, ℕ, ◌<◌, List, [], ◌∷◌, ◌++◌, Option, Some, None, IsUtf8, get_or}
use Rattle.cck_cache_files.specs.declared.identity.Identity.{Identity}

-- a directory of this identity was found at this place, and at no earlier one
pub record IsFirstSame (all : List (Option Identity)) (identity : Identity) (place : ℕ) : Type 0 where
  pub at : get_or all place None ≡ Some identity
  pub first : (earlier : ℕ) → earlier < place → get_or all earlier None ≢ Some identity

-- the place of the first directory that is the same as one; none where no directory was found
abbrev pub IsPlaceOf : List (Option Identity) → Option Identity → Option ℕ → Type 0
IsPlaceOf all None place = place ≡ None
IsPlaceOf all (Some identity) None = ⊥
IsPlaceOf all (Some identity) (Some place) = IsFirstSame all identity place

-- what was found at a path was added after what was found before, and has this place; a directory is found only at a path that is UTF-8
pub record AddsDirectory (old : List (Option Identity)) (path : List ℕ) (new : List (Option Identity)) (place : Option ℕ) : Type 0 where
  pub identity : Option Identity
  pub added : new ≡ old ++ identity ∷ []
  pub place_is : IsPlaceOf new identity place
  pub text : identity ≢ None → IsUtf8 path
