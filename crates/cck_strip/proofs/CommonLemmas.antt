-- What all words of a list begin with.
use Rattle.std.proofs.Common.{Bor, ◌≡◌, inl, inr, ℕ, ◌<◌, ◌≤◌, List, [], ◌∷◌, ◌++◌, Option, None, Some, length, get_or, take, length-take, sym, ap, subst, ◌∙◌, arith}
use Rattle.std.specs.Prelude.{MatchOption}
use Rattle.std.proofs.lemmas.List.{get_or-take}
use Rattle.std.proofs.lemmas.List.Elements.{Contains-push_cases}
use Rattle.memchr.specs.Find.{OccursAt}
use Rattle.cck_strip.specs.Beginnings.{AllBegin, AllEmpty}
use Rattle.cck_strip.proofs.SoughtLemmas.{no_word}

pub AllEmpty-start : AllEmpty []
AllEmpty-start word c some = no_word word c

-- the first word that is not empty
pub AllBegin-first : (words : List (List ℕ)) (word : List ℕ) (n : ℕ) → AllEmpty words → AllBegin (words ++ word ∷ []) (take n word)
AllBegin-first words word n h w c some = elim (Contains-push_cases words word w c) [
  | inl old ↦ absurd (h w old some)
  | inr e ↦ subst (λ v. OccursAt v (take n word) 0) e (record {
    fits = omega (arith, length-take n word);
    reads = λ j lt. ap (λ i. get_or word i 0) (omega arith) ∙ sym (get_or-take n word j 0 (omega (arith, length-take n word)));
  })
]

-- another word, of which some bytes are alike
pub AllBegin-more : (words : List (List ℕ)) (word bytes : List ℕ) (n : ℕ) → AllBegin words bytes → n ≤ length bytes → n ≤ length word
    → ((k : ℕ) → k < n → get_or bytes k 0 ≡ get_or word k 0) → AllBegin (words ++ word ∷ []) (take n bytes)
AllBegin-more words word bytes n h le fits alike w c some = elim (Contains-push_cases words word w c) [
  | inl old ↦
      let o = h w old some in
      let o_fits = o.fits in record {
        fits = omega (arith, length-take n bytes);
        reads = λ j lt. o.reads j (omega (arith, length-take n bytes)) ∙ sym (get_or-take n bytes j 0 (omega (arith, length-take n bytes)));
      }
  | inr e ↦ subst (λ v. OccursAt v (take n bytes) 0) e (record {
    fits = omega (arith, length-take n bytes);
    reads = λ j lt.
        ap (λ i. get_or word i 0) (omega arith)
        ∙ (sym (alike j (omega (arith, length-take n bytes))) ∙ sym (get_or-take n bytes j 0 (omega (arith, length-take n bytes))));
  })
]

-- an empty word
AllEmpty-pass : (words : List (List ℕ)) (word : List ℕ) → AllEmpty words → length word ≡ 0 → AllEmpty (words ++ word ∷ [])
AllEmpty-pass words word h empty w c some = elim (Contains-push_cases words word w c) [
  | inl old ↦ h w old some
  | inr e ↦ let same = ap length e in absurd (omega arith)
]

AllBegin-pass : (words : List (List ℕ)) (word bytes : List ℕ) → AllBegin words bytes → length word ≡ 0 → AllBegin (words ++ word ∷ []) bytes
AllBegin-pass words word bytes h empty w c some = elim (Contains-push_cases words word w c) [
  | inl old ↦ h w old some
  | inr e ↦ let same = ap length e in absurd (omega arith)
]

-- all these words begin with these bytes, or are empty where there are none
abbrev pub Common : List (List ℕ) → Option (Bor (List ℕ)) → Type 0
Common words common = MatchOption common (AllEmpty words) (λ bytes. AllBegin words bytes.now)

pub Common-pass : (words : List (List ℕ)) (word : List ℕ) (common : Option (Bor (List ℕ))) → Common words common → length word ≡ 0 → Common (words ++ word ∷ []) common
Common-pass words word None h empty = AllEmpty-pass words word h empty
Common-pass words word (Some bytes) h empty = AllBegin-pass words word bytes.now h empty

-- what is known of an option that is a value, or none
pub when_some : {X : Type 0} (o : Option X) (x : X) (N : Type 0) (S : X → Type 0) → o ≡ Some x → MatchOption o N S → S x
when_some o x N S e h = subst (λ p. MatchOption p N S) e h

pub when_none : {X : Type 0} (o : Option X) (N : Type 0) (S : X → Type 0) → o ≡ None → MatchOption o N S → N
when_none o N S e h = subst (λ p. MatchOption p N S) e h
