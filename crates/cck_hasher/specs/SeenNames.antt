-- the names that a walk has taken
use Rattle.std.specs.Prelude.{◌≡◌, ℕ, List, Bool, Option, Some, map, Contains}
use Rattle.std.specs.Option.{option_map}
use Rattle.cck_hasher.specs.Decided.{Context, Digests, Passes, outcome}
use Rattle.cck_hasher.specs.declared.seen.SeenName.{SeenName}
use Rattle.cck_hasher.specs.declared.seen.SeenNames.{SeenNames}

-- a name and its flag, without its place in memory
abbrev pub name_in : SeenName → List ℕ × Bool
name_in seen = (seen.name.now, seen.is_system)

-- the names that are remembered, slot by slot
abbrev pub names_in : SeenNames → List (Option (List ℕ × Bool))
names_in seen = map (option_map name_in) seen.slots

-- a name that is remembered is passed over, with these digests
abbrev pub AllPass : Context → Digests → SeenNames → Type 0
AllPass c held seen = (name : List ℕ) (is_system : Bool) → Contains (names_in seen) (Some (name, is_system)) → outcome c held name is_system ≡ Passes
