-- which result of an entry is found
use Rattle.std.specs.Prelude.{◌≡◌, ◌≢◌, ◌⊎◌, ℕ, Bool, true, false, List, reverse, Option, Some, None, Contains}
use Rattle.std.specs.FinMap.{entries, get}
use Rattle.std.specs.List.{find, list_all}
use Rattle.std.specs.declared.cmp.Ordering.TheVariants.{Less}
use Rattle.cck_path.specs.TextOrder.{text_cmp}
use Rattle.cck_entry.specs.Entry.{Entry}
use Rattle.cck_entry.specs.Results.{KeyResult}
use Rattle.cck_include.specs.Include.{Include}

-- of results in the order of their keys, the last whose includes all match
abbrev pub found_in : (Include → Bool) → List KeyResult → Option KeyResult
found_in matching results = find (λ r. list_all matching (r.1)) (reverse results)

-- the key that a look-up returns; after a fault it may be none, or another key whose includes all match
abbrev pub IsLookup : (Include → Bool) → List KeyResult → Type 0 → Option (List ℕ) → Type 0
IsLookup matching results HasFault None = (found_in matching results ≡ None) ⊎ HasFault
IsLookup matching results HasFault (Some key) =
    (list : List Include) × Contains results (key, list) × (list_all matching list ≡ true) × ((found_in matching results ≡ Some (key, list)) ⊎ HasFault)

-- no result's includes all match, or this one's do and none with a greater key
abbrev pub IsGreatest : (Include → Bool) → Entry → Option KeyResult → Type 0
IsGreatest matching e None = (key : List ℕ) (list : List Include) → get e key ≡ Some list → list_all matching list ≡ false
IsGreatest matching e (Some r) =
    (get e (r.0) ≡ Some (r.1)) × (list_all matching (r.1) ≡ true)
    × ((key : List ℕ) (list : List Include) → get e key ≡ Some list → list_all matching list ≡ true → text_cmp (r.0) key ≢ Less)

-- what is found is the greatest key whose includes all match
abbrev pub GreatestIsFound : Type 0
GreatestIsFound = (matching : Include → Bool) (e : Entry) → IsGreatest matching e (found_in matching (entries e))
