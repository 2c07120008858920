use Rattle.std.proofs.Common.{◌≡◌, ◌<◌, ◌==◌, ℕ, zero, suc, List, [], ◌∷◌, false, get_or, length, refl, subst, arith}
use Rattle.cck_strip.specs.Beginnings.{AllBegin}
use Rattle.cck_strip.proofs.search.text_search.Goals as goal

not_none : (n : ℕ) → false ≡ (n == 0) → 0 < n
not_none zero e = cc
not_none (suc n) e = omega arith

-- a word of one byte
one_byte : (word : List ℕ) → length word ≡ 1 → word ≡ get_or word 0 0 ∷ []
one_byte [] e = cc
one_byte (byte ∷ []) e = refl
one_byte (byte ∷ other ∷ word) e = absurd (omega arith)

pub returns-in-None : goal.returns-in-None
returns-in-None c = c.in-None.ensures

pub returns-then-is_empty : goal.returns-then-is_empty
returns-then-is_empty c = c.first_bytes-is_first.ensures

pub returns-then-word-eq1 : goal.returns-then-word-eq1
returns-then-word-eq1 c = subst (AllBegin _) (one_byte c.in-Some.word.now c.if-word-eq1.true) c.in-Some.ensures

pub returns : goal.returns
returns c = (not_none (length c.in-Some.word.now) c.if-is_empty.ensures, c.in-Some.ensures)
