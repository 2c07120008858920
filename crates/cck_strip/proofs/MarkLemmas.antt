-- A search of a text by the places that are marked.
use Rattle.std.proofs.Common.{◌≡◌, inl, inr, ℕ, ◌+◌, ◌-◌, ◌<◌, ◌≤◌, List, false, length, subst, arith}
use Rattle.std.specs.Int.{bit_at}
use Rattle.std.proofs.lemmas.Bool.{cases_lt}
use Rattle.memchr.specs.Find.{OccursAt}
use Rattle.cck_strip.specs.Beginnings.{AllBegin}
use Rattle.cck_strip.specs.Lanes.{MarksWord}
use Rattle.cck_strip.specs.Text.{is_boundary, text_site}
use Rattle.cck_strip.proofs.SoughtLemmas.{text_site-beginning, text_site-beyond, text_site-inside}

-- no site starts from the one place up to the other
abbrev pub NoneUpTo : (ℕ → ℕ) → ℕ → ℕ → Type 0
NoneUpTo site from at = (k : ℕ) → from ≤ k → k < at → site k ≡ 0

-- the first n marks are not set
pub passed_marks : (words : List (List ℕ)) (text bytes : List ℕ) (from at marks n : ℕ) → AllBegin words bytes → MarksWord text bytes at marks
    → n ≤ 64 → ((k : ℕ) → k < n → bit_at marks k ≡ 0) → NoneUpTo (text_site words text) from at → NoneUpTo (text_site words text) from (at + n)
passed_marks words text bytes from at marks n h marked small clear passed k low high = elim (cases_lt k at) [
  | inl before ↦ passed k low before
  | inr inside ↦
      text_site-beginning words text bytes k h (λ o.
      let back : k ≡ at + (k - at) = omega arith in
      let set = marked (k - at) (omega arith) (subst (OccursAt text bytes) back o) in
      let none = clear (k - at) (omega arith) in
      omega arith)
]

-- the place is no boundary
pub passed_place : (words : List (List ℕ)) (text : List ℕ) (from at : ℕ) → is_boundary text at ≡ false
    → NoneUpTo (text_site words text) from at → NoneUpTo (text_site words text) from (at + 1)
passed_place words text from at inside passed k low high = elim (cases_lt k at) [
  | inl before ↦ passed k low before
  | inr here ↦ let same : at ≡ k = omega arith in subst (λ i. text_site words text i ≡ 0) same (text_site-inside words text at inside)
]

-- no place is left
pub passed_all : (words : List (List ℕ)) (text : List ℕ) (from at : ℕ) → length text ≤ at → NoneUpTo (text_site words text) from at
    → (k : ℕ) → from ≤ k → text_site words text k ≡ 0
passed_all words text from at end passed k low = elim (cases_lt k at) [
  | inl before ↦ passed k low before
  | inr later ↦ text_site-beyond words text k (omega arith)
]
