-- results as borrowed from the bytes of an entry
use Rattle.std.specs.Prelude.{◌≡◌, ℕ, ◌+◌, List, [], ◌∷◌, map, true, Option, Some, None, IsSome}
use Rattle.std.specs.FinMap.{from_sorted, is_sorted}
use Rattle.std.specs.List.{AllByRecursion}
use Rattle.cck_include.specs.Include.{Include}
use Rattle.cck_path.specs.TextOrder.{text_cmp}
use Rattle.cck_entry.specs.Entry.{Entry, include_count}
use Rattle.cck_entry.specs.Reading.{includes_at}
use Rattle.cck_entry.specs.Results.{KeyResult}
use Rattle.cck_entry.specs.declared.result_ref.ResultRef.{ResultRef}

-- the includes that were read, if they were
abbrev pub includes_read : Option (List Include × List ℕ) → List Include
includes_read None = []
includes_read (Some x) = x.0

-- the first n includes of bytes, or none where they do not begin with n includes
abbrev pub includes_begun : ℕ → List ℕ → List Include
includes_begun n bytes = includes_read (includes_at n bytes)

-- the value of a borrowed result
abbrev pub result_lent : ResultRef → KeyResult
result_lent r = (r.key.now, includes_begun r.count r.includes.now)

-- all of its includes can be read
abbrev pub IsWhole : ResultRef → Type 0
IsWhole r = IsSome (includes_at r.count r.includes.now)

-- the number of includes of all together
abbrev pub counts : List ResultRef → ℕ
counts [] = 0
counts (r ∷ rs) = r.count + counts rs

-- the entry that has these results
abbrev pub entry_lent : List ResultRef → Entry
entry_lent rs = from_sorted (map result_lent rs)

-- the invariant of a view: its keys ascend, each result is whole, and number is that of all their includes
pub record IsView (rs : List ResultRef) (number : ℕ) : Type 0 where
  pub ascend : is_sorted text_cmp (map result_lent rs) ≡ true
  pub whole : AllByRecursion IsWhole rs
  pub count : number ≡ include_count (map result_lent rs)
