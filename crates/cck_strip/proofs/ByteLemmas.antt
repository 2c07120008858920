-- A walk over the places of a byte, with which all base directories begin.
use Rattle.std.proofs.Common.{◌≡◌, inl, inr, ℕ, zero, suc, ◌+◌, ◌-◌, ◌<◌, ◌≤◌, List, [], ◌∷◌, Bool, true, false, cond, length, get_or, drop, length-drop, refl, sym, ap, ◌∙◌, arith}
use Rattle.std.proofs.lemmas.Bool.{cases_lt, false≢true}
use Rattle.std.proofs.lemmas.Bool.Decides.{nat_tests}
use Rattle.std.proofs.lemmas.List.{get_or-drop}
use Rattle.memchr.specs.Find.{OccursAt, Passes, is_byte, places_from}
use Rattle.cck_strip.specs.Beginnings.{AllBegin}
use Rattle.cck_strip.specs.Cuts.{IsNextPlace}
use Rattle.cck_strip.specs.Text.{text_site}
use Rattle.cck_strip.proofs.SoughtLemmas.{text_site-beginning, text_site-beyond}

-- of n places from i on, d is the first that passes, and these are the others
record IsFirstOf (test : ℕ → Bool) (hay : List ℕ) (i n d : ℕ) (others : List ℕ) : Type 0 where
  pub low : i ≤ d
  pub high : d < i + n
  pub before : (k : ℕ) → i ≤ k → k < d → Passes test hay k → ⊥
  pub rest : others ≡ places_from test hay (d + 1) (i + n - (d + 1))

places_from-first : (test : ℕ → Bool) (hay : List ℕ) (i n d : ℕ) (others : List ℕ) → places_from test hay i n ≡ d ∷ others → IsFirstOf test hay i n d others
unfolding places_from
places_from-first test hay i zero d others e = absurd (cc)
places_from-first test hay i (suc n) d others e = go (test (get_or hay i 0)) refl e (places_from-first test hay (i + 1) n d others)
  where
    later : List ℕ
    later = places_from test hay (i + 1) n

    go : (b : Bool) → test (get_or hay i 0) ≡ b → cond b (i ∷ later) later ≡ d ∷ others
        → (later ≡ d ∷ others → IsFirstOf test hay (i + 1) n d others) → IsFirstOf test hay i (suc n) d others
    go true p e h =
        let here : i ≡ d = cc in
        let same : later ≡ others = cc in record {
          low = omega arith;
          high = omega arith;
          before = λ k low lt. absurd (omega arith);
          rest = sym same ∙ (ap (λ j. places_from test hay (j + 1) n) here ∙ ap (places_from test hay (d + 1)) (omega arith));
        }
    go false p e h =
        let f = h e in
        let low = f.low in
        let high = f.high in record {
          low = omega arith;
          high = omega arith;
          before = λ k from lt passes. elim (cases_lt i k) [
            | inl following ↦ f.before k (omega arith) lt passes
            | inr at ↦ let same : k ≡ i = omega arith in false≢true (sym p ∙ (ap (λ j. test (get_or hay j 0)) (sym same) ∙ passes))
          ];
          rest = f.rest ∙ ap (places_from test hay (d + 1)) (omega arith);
        }

places_from-none : (test : ℕ → Bool) (hay : List ℕ) (i n : ℕ) → places_from test hay i n ≡ [] → (k : ℕ) → i ≤ k → k < i + n → Passes test hay k → ⊥
unfolding places_from
places_from-none test hay i zero e k low high passes = omega arith
places_from-none test hay i (suc n) e k low high passes = go (test (get_or hay i 0)) refl e (places_from-none test hay (i + 1) n)
  where
    later : List ℕ
    later = places_from test hay (i + 1) n

    go : (b : Bool) → test (get_or hay i 0) ≡ b → cond b (i ∷ later) later ≡ []
        → (later ≡ [] → (j : ℕ) → i + 1 ≤ j → j < i + 1 + n → Passes test hay j → ⊥) → ⊥
    go true p e h = cc
    go false p e h = elim (cases_lt i k) [
      | inl following ↦ h e k (omega arith) (omega arith) passes
      | inr at ↦ let same : k ≡ i = omega arith in false≢true (sym p ∙ (ap (λ j. test (get_or hay j 0)) (sym same) ∙ passes))
    ]

-- what is left of the places of a byte after `from`: there is no site at those that are gone
pub record Left (words : List (List ℕ)) (byte : ℕ) (text distances : List ℕ) (from : ℕ) : Type 0 where
  pub seen : ℕ
  pub seen_in : seen ≤ length (drop from text)
  pub rest : distances ≡ places_from (is_byte byte) (drop from text) seen (length (drop from text) - seen)
  pub none : (k : ℕ) → from ≤ k → k < from + seen → text_site words text k ≡ 0

pub Left-start : (words : List (List ℕ)) (byte : ℕ) (text distances : List ℕ) (from : ℕ)
    → distances ≡ places_from (is_byte byte) (drop from text) 0 (length (drop from text) - 0) → Left words byte text distances from
Left-start words byte text distances from e = record { seen = 0; seen_in = omega arith; rest = e; none = λ k low high. absurd (omega arith) }

-- where the byte is, it is the byte of a place after `from`
passes_in_rest : (text : List ℕ) (byte from k : ℕ) → from ≤ k → OccursAt text (byte ∷ []) k → Passes (is_byte byte) (drop from text) (k - from)
passes_in_rest text byte from k low o =
    let read : get_or text k 0 ≡ byte = ap (λ i. get_or text i 0) (omega arith) ∙ o.reads 0 (omega arith) in
    let there : get_or (drop from text) (k - from) 0 ≡ byte = get_or-drop from text (k - from) 0 ∙ (ap (λ i. get_or text i 0) (omega arith) ∙ read) in
    grind (arith, nat_tests)

-- the next of these places
pub Left-place : (words : List (List ℕ)) (byte : ℕ) (text distances others : List ℕ) (from d : ℕ) → AllBegin words (byte ∷ [])
    → Left words byte text distances from → distances ≡ d ∷ others → IsNextPlace (text_site words text) (length text) from (from + d)
Left-place words byte text distances others from d begins l e =
    let f = places_from-first (is_byte byte) (drop from text) (l.seen) (length (drop from text) - l.seen) d others (sym (l.rest) ∙ e) in
    let high = f.high in
    let seen_in = l.seen_in in record {
      from_on = omega arith;
      within = omega (arith, length-drop from text);
      none_before = λ k low lt. elim (cases_lt k (from + l.seen)) [
        | inl gone ↦ l.none k low gone
        | inr following ↦
            text_site-beginning words text (byte ∷ []) k begins
            (λ o. f.before (k - from) (omega arith) (omega arith) (passes_in_rest text byte from k low o))
      ];
    }

-- at which there is no site
pub Left-next : (words : List (List ℕ)) (byte : ℕ) (text distances others : List ℕ) (from d : ℕ) → AllBegin words (byte ∷ [])
    → Left words byte text distances from → distances ≡ d ∷ others → text_site words text (from + d) ≡ 0 → Left words byte text others from
Left-next words byte text distances others from d begins l e here =
    let next = Left-place words byte text distances others from d begins l e in
    let f = places_from-first (is_byte byte) (drop from text) (l.seen) (length (drop from text) - l.seen) d others (sym (l.rest) ∙ e) in
    let high = f.high in
    let seen_in = l.seen_in in record {
      seen = d + 1;
      seen_in = omega arith;
      rest = f.rest ∙ ap (places_from (is_byte byte) (drop from text) (d + 1)) (omega arith);
      none = λ k low lt. elim (cases_lt k (from + d)) [
        | inl before ↦ next.none_before k low before
        | inr at ↦ let same : k ≡ from + d = omega arith in ap (text_site words text) same ∙ here
      ];
    }

-- none of these places is left
pub Left-none : (words : List (List ℕ)) (byte : ℕ) (text distances : List ℕ) (from : ℕ) → AllBegin words (byte ∷ [])
    → Left words byte text distances from → distances ≡ [] → (k : ℕ) → from ≤ k → text_site words text k ≡ 0
Left-none words byte text distances from begins l e k low = elim (cases_lt k (from + l.seen)) [
  | inl gone ↦ l.none k low gone
  | inr following ↦ elim (cases_lt k (length text)) [
    | inl within ↦
        text_site-beginning words text (byte ∷ []) k begins
        (λ o. places_from-none (is_byte byte) (drop from text) (l.seen) (length (drop from text) - l.seen) (sym (l.rest) ∙ e) (k - from)
        (omega arith) (let size = length-drop from text in omega arith) (passes_in_rest text byte from k low o))
    | inr beyond ↦ text_site-beyond words text k beyond
  ]
]
