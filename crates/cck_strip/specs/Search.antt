-- what a search of a text finds
use Rattle.std.specs.Prelude.{ℕ, ◌<◌, List, [], ◌∷◌, length}
use Rattle.cck_strip.specs.Beginnings.{AllBegin, FirstsMarked}
use Rattle.cck_strip.specs.declared.search.TextSearch.{TextSearch}
use Rattle.cck_strip.specs.declared.search.TextSearch.TheVariants.{FirstBytes, Byte, Word}

-- the search finds each place where one of these words may begin
abbrev pub Finds : TextSearch → List (List ℕ) → Type 0
Finds (FirstBytes search) words = FirstsMarked words search.is_first
Finds (Byte search) words = AllBegin words (search.byte ∷ [])
Finds (Word search) words = (0 < length search.word.now) × AllBegin words search.word.now
