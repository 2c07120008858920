-- The definitions of lines and arguments that include a header, at literal values.
use Rattle.std.proofs.Common.{◌≡◌, ◌∙◌, ℕ, List, [], ◌∷◌, ◌++◌, inl, inr, true, false, ap, codes, get_or, refl, arith}
use Rattle.cck_cache_text.specs.Included.{IncludesHeader, IsGivenTo, IsIncludedBy}
use Rattle.cck_cache_text.specs.SearchList.{text_lines}

in_quotes : IncludesHeader (codes "#include \"d/o.h\"") (codes "d/o.h") true
in_quotes = (codes "#include ", inl refl, (codes "d/o.h\"", refl, (codes "", refl)))

in_brackets : IncludesHeader (codes "#include_next <o.h>") (codes "o.h") false
in_brackets = (codes "#include_next ", inr (inl refl), (codes "o.h>", refl, (codes "", refl)))

-- with -C gcc writes a comment after the name, which may have a quote
before_a_comment : IncludesHeader (codes "#import \"o.h\" /* \"x\" */") (codes "o.h") true
before_a_comment = (codes "#import ", inr (inr refl), (codes "o.h\" /* \"x\" */", refl, (codes " /* \"x\" */", refl)))

-- a macro may give a name that has a quote
with_a_quote : IncludesHeader (codes "#include \"a\"b.h\"") (codes "a\"b.h") true
with_a_quote = (codes "#include ", inl refl, (codes "a\"b.h\"", refl, (codes "", refl)))

-- the byte at this place of a line that begins so
byte_at : (line word rest : List ℕ) (other : List ℕ) (first place : ℕ) → word ≡ other → line ≡ (word ++ first ∷ []) ++ rest → get_or line place 0 ≡ get_or ((other ++ first ∷ []) ++ rest) place 0
byte_at line word rest other first place is begins = ap (λ (l : List ℕ). get_or l place 0) (begins ∙ ap (λ (w : List ℕ). (w ++ first ∷ []) ++ rest) is)

-- a marker includes nothing
no_marker : (name : List ℕ) → IncludesHeader (codes "# 1 \"o.h\"") name true → ⊥
no_marker name (word, inl is, (rest, begins, closed)) = let d : 32 ≡ 105 = byte_at (codes "# 1 \"o.h\"") word rest (codes "#include ") 34 1 is begins in omega (arith, d)
no_marker name (word, inr (inl is), (rest, begins, closed)) = let d : 32 ≡ 105 = byte_at (codes "# 1 \"o.h\"") word rest (codes "#include_next ") 34 1 is begins in omega (arith, d)
no_marker name (word, inr (inr is), (rest, begins, closed)) = let d : 32 ≡ 105 = byte_at (codes "# 1 \"o.h\"") word rest (codes "#import ") 34 1 is begins in omega (arith, d)

-- a header in quotes is none in brackets
no_brackets : (name : List ℕ) → IncludesHeader (codes "#include \"o.h\"") name false → ⊥
no_brackets name (word, inl is, (rest, begins, closed)) = let d : 34 ≡ 60 = byte_at (codes "#include \"o.h\"") word rest (codes "#include ") 60 9 is begins in omega (arith, d)
no_brackets name (word, inr (inl is), (rest, begins, closed)) = let d : 32 ≡ 95 = byte_at (codes "#include \"o.h\"") word rest (codes "#include_next ") 60 8 is begins in omega (arith, d)
no_brackets name (word, inr (inr is), (rest, begins, closed)) = let d : 110 ≡ 109 = byte_at (codes "#include \"o.h\"") word rest (codes "#import ") 60 2 is begins in omega (arith, d)

second_line : IsIncludedBy (text_lines (codes "int x;\n#include <o.h>\n")) false (codes "o.h")
second_line = (codes "#include <o.h>", (1, omega arith, refl), (codes "#include ", inl refl, (codes "o.h>", refl, (codes "", refl))))

joined_argument : IsGivenTo (codes "-include") (codes "-O2" ∷ codes "-includeo.h" ∷ []) 1 (codes "o.h")
joined_argument = inl (omega arith, refl)

next_argument : IsGivenTo (codes "-imacros") (codes "-imacros" ∷ codes "o.h" ∷ []) 0 (codes "o.h")
next_argument = inr (refl, refl)
