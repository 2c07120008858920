-- the results of a walk over a text
use Rattle.std.specs.Prelude.{◌≡◌, ◌⊎◌, ℕ, List, map, Option, Some, None, Result, Ok, Err}
use Rattle.std.specs.FinMap.{entries}
use Rattle.cck_digest.specs.declared.key_error.KeyError.{KeyError}
use Rattle.cck_digest.specs.declared.key_error.KeyError.TheVariants.{Memory, Marker}
use Rattle.cck_path.specs.Path.{Path}
use Rattle.cck_hasher.specs.Decided.{Accepts, IsAskedFor, Context, TextDecides, Digests, Errs, IsRefused}
use Rattle.cck_hasher.specs.Digests.{digest_pair, written}
use Rattle.cck_hasher.specs.declared.walk.Walk.{Walk}
use Rattle.cck_hasher.specs.declared.walk.Walk.TheVariants.{Accepted, Refused}

-- the marks of the text decide it; after a fault, if a path is looked for, the text may be refused whatever they decide
abbrev pub IsWalk : Context → Type 0 → List ℕ → Result Walk KeyError → Type 0
IsWalk c HasFault text (Ok (Accepted files)) = (digests : Digests) × TextDecides c text (Accepts digests) × (map digest_pair files.items ≡ map written (entries digests))
IsWalk c HasFault text (Ok Refused) = TextDecides c text IsRefused ⊎ (HasFault × (p : Path) × IsAskedFor c text p)
IsWalk c HasFault text (Err Marker) = TextDecides c text Errs
IsWalk c HasFault text (Err Memory) = Unit {0}
IsWalk c HasFault text (Err other) = ⊥

-- the paths and digests of an accepted text, in order, and none of a refused one
abbrev pub accepted_of : Walk → Option (List (List ℕ × List ℕ))
accepted_of (Accepted files) = Some (map digest_pair files.items)
accepted_of Refused = None
