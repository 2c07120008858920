-- the results for a line marker
use Rattle.std.specs.Prelude.{◌≡◌, ◌≢◌, ◌⊎◌, ◌+◌, ℕ, Bool, true, false, List, [], Some, Result, Ok, Err}
use Rattle.std.specs.declared.alloc.AllocError.{AllocError}
use Rattle.cck_digest.specs.declared.key_error.KeyError.{KeyError}
use Rattle.cck_digest.specs.declared.key_error.KeyError.TheVariants.{Memory, Marker}
use Rattle.cck_include.specs.Lines.{IsNamedAt, IsUnnamedTo}
use Rattle.cck_include.specs.Marks.{Named, Unnamed, is_system}
use Rattle.cck_path.specs.Path.{Path}
use Rattle.cck_hasher.specs.Decided.{Context, Digests, IsLookedFor, Refuses, after, is_looked_for, outcome}
use Rattle.cck_hasher.specs.declared.line.LineAction.{LineAction}
use Rattle.cck_hasher.specs.declared.line.LineAction.TheVariants.{Continue, Break}

-- a name was taken; or the text is refused for it; or a fault came where a file is looked for, and the text counts as refused
abbrev pub IsNameResult : Context → Type 0 → Digests → Digests → List ℕ → Bool → Result Bool AllocError → Type 0
IsNameResult c HasFault old new name is_system_in (Ok true) = after old (outcome c old name is_system_in) ≡ Some new
IsNameResult c HasFault old new name is_system_in (Ok false) = (new ≡ old) × ((outcome c old name is_system_in ≡ Refuses) ⊎ (HasFault × (is_looked_for c old name is_system_in ≡ true)))
IsNameResult c HasFault old new name is_system_in (Err e) = new ≡ old

-- a marker with a name that has bytes, and the places of these
abbrev pub IsLongNamed : List ℕ → ℕ → ℕ → (List ℕ → Bool → Type 0) → Type 0
IsLongNamed text begin end Does = (marker : Named text) × IsNamedAt text begin end marker × (marker.name ≢ []) × Does marker.name (is_system marker.rest)

-- the path that is looked for by the name of the marker with which this text begins
abbrev pub IsLineLookedFor : Context → Digests → List ℕ → Path → Type 0
IsLineLookedFor c held text p = (marker : Named text) × IsLookedFor c held marker.name (is_system marker.rest) p

-- the result for the marker with which this text begins, where the text begins at a place of a longer one
abbrev pub IsLineResult : Context → Type 0 → List ℕ → ℕ → ℕ → Digests → Digests → Result LineAction KeyError → Type 0
IsLineResult c HasFault text start hash_start old new (Ok (Continue (next, also))) =
    (begin : ℕ) × (end : ℕ) × (next ≡ start + end) × (also ≡ start + end)
    × IsLongNamed text begin end (λ name is_system_in. after old (outcome c old name is_system_in) ≡ Some new)
IsLineResult c HasFault text start hash_start old new (Ok (Break (next, from, false))) =
    (begin : ℕ) × (end : ℕ) × (next ≡ start + end) × (from ≡ start + begin) × (new ≡ old)
    × IsLongNamed text begin end (λ name is_system_in. (outcome c old name is_system_in ≡ Refuses) ⊎ (HasFault × (is_looked_for c old name is_system_in ≡ true)))
IsLineResult c HasFault text start hash_start old new (Ok (Break (next, from, true))) =
    (new ≡ old) × (((end : ℕ) × IsUnnamedTo text end × (next ≡ start + end) × (from ≡ hash_start))
    ⊎ ((marker : Named text) × (begin : ℕ) × (end : ℕ) × IsNamedAt text begin end marker × (marker.name ≡ []) × (next ≡ start + end) × (from ≡ start + begin)))
IsLineResult c HasFault text start hash_start old new (Err Marker) = (new ≡ old) × ((Unnamed text → ⊥) × (Named text → ⊥))
IsLineResult c HasFault text start hash_start old new (Err Memory) = new ≡ old
IsLineResult c HasFault text start hash_start old new (Err other) = ⊥
