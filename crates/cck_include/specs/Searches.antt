-- what the searches for words know of what is left of a text
use Rattle.std.specs.Prelude.{◌≡◌, ℕ, ◌+◌, ◌-◌, ◌<◌, zero, suc, Bool, true, false, ◌==◌, List, ◌∷◌, length, drop, get_or, codes}
use Rattle.memchr.specs.Find.{Nowhere, OccursAt}
use Rattle.cck_include.specs.Marks.{Plain, is_marker, what}
use Rattle.cck_include.specs.declared.search.MarkerSearch.{MarkerSearch}
use Rattle.cck_include.specs.declared.search.Searches.{Searches}
use Rattle.cck_include.specs.declared.search.WordFinder.{WordFinder}

-- the word does not occur before the place from which n bytes are left
abbrev pub IsKnown : ℕ → List ℕ → List ℕ → Type 0
IsKnown left word text = Nowhere (OccursAt text word) 0 (length text - left)

-- a search is for this word, and the word does not occur before the place that it keeps
pub record IsSearchFor (word : List ℕ) (search : WordFinder) (text : List ℕ) : Type 0 where
  pub word_is : search.finder ≡ word
  pub known : IsKnown search.left word text

-- a line's end is here, and a marker follows it
abbrev pub EndsBeforeMarker : List ℕ → ℕ → Type 0
EndsBeforeMarker text place = (get_or text place 0 ≡ 10) × (is_marker (drop (place + 1) text) ≡ true)

-- no marker follows a line's end before the place that a search keeps
abbrev pub IsMarkerSearch : MarkerSearch → List ℕ → Type 0
IsMarkerSearch search text = Nowhere (EndsBeforeMarker text) 0 (length text - search.left)

-- a line's end before a marker, a line's end and ten underscores, and `.incbin`
pub record AreSearched (searches : Searches) (text : List ℕ) : Type 0 where
  pub marker : IsMarkerSearch searches.marker text
  pub hidden : IsSearchFor (10 ∷ codes "__________") searches.hidden text
  pub inclusion : IsSearchFor (codes ".incbin") searches.inclusion text

-- whether a line starts at this place of what is left of a text, if none starts at its first
abbrev pub starts_line_at : List ℕ → ℕ → Bool
starts_line_at text zero = false
starts_line_at text (suc place) = get_or text place 0 == 10

-- the first n bytes are plain, if no line starts at the first of them
abbrev pub ArePlain : List ℕ → ℕ → Type 0
ArePlain text size = (place : ℕ) → place < size → what (starts_line_at text place) (drop place text) ≡ Plain
