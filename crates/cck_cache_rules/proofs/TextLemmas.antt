-- Markers of the working directory, and the places of a base directory in a text.
use Rattle.std.proofs.Common.{◌≡◌, ◌≢◌, ℕ, ◌+◌, ◌-◌, ◌<◌, ◌≤◌, inl, inr, Bool, List, ◌++◌, Option, None, Some, length, get_or, take, drop, codes, append_assoc, refl, sym, ap, subst, ◌∙◌, arith, length-drop}
use Rattle.std.specs.Bool.{Decides}
use Rattle.std.proofs.lemmas.Bool.{cases_lt}
use Rattle.std.proofs.lemmas.List.{append_cancel_left, drop_at, get_or-drop, take_at, take_rest}
use Rattle.memchr.specs.Find.{FindsNeedle, OccursAt}
use Rattle.memchr.proofs.lemmas.MatchLemmas.{OccursAt-split}
use Rattle.cck_cache_rules.specs.Argument.{Begins, IsEndOf}
use Rattle.cck_cache_rules.specs.Text.{IsDirectoryMarker, IsPortableText}
use Rattle.cck_cache_rules.proofs.ArgumentLemmas.{occurs, parts}

-- what is after the directory
module _ (before after directory rest : List ℕ) (begins : after ≡ directory ++ rest) where
  pub marker_decided : (r : Bool) → IsEndOf before (codes "\n# 1 \"") → Decides r (Begins rest (codes "//\"\n")) → Decides r (IsDirectoryMarker before after directory)
  marker_decided r line end = (
    λ q. let on = end.0 q in (line, (on.0, begins ∙ (ap (λ x. directory ++ x) on.1 ∙ sym (append_assoc directory (codes "//\"\n") on.0)))),
    λ marker. let on = marker.1 in end.1 (on.0, append_cancel_left directory rest (codes "//\"\n" ++ on.0) (sym begins ∙ (on.1 ∙ append_assoc directory (codes "//\"\n") on.0))),
  )

pub no_marker : (before after directory : List ℕ) → ((rest : List ℕ) → after ≢ directory ++ rest) → ¬ IsDirectoryMarker before after directory
no_marker before after directory other (line, on) = other (codes "//\"\n" ++ on.0) (on.1 ∙ append_assoc directory (codes "//\"\n") on.0)

module _ (text base directory : List ℕ) where
  -- each place of the base directory below this one is in a marker
  abbrev pub AreMarkersBelow : ℕ → Type 0
  AreMarkersBelow from = (k : ℕ) → k < from → OccursAt text base k → IsDirectoryMarker (take k text) (drop k text) directory

  -- all are
  pub portable_from : (from : ℕ) → AreMarkersBelow from → ((k : ℕ) → from ≤ k → ¬ OccursAt text base k) → IsPortableText text base directory
  portable_from from below none before after is =
      let at = occurs text base before after is in
      let front : take (length before) text ≡ before = ap (take (length before)) is ∙ take_at before (base ++ after) (length before) refl in
      let back : drop (length before) text ≡ base ++ after = ap (drop (length before)) is ∙ drop_at before (base ++ after) (length before) refl in
      let marker : IsDirectoryMarker (take (length before) text) (drop (length before) text) directory =
      elim (cases_lt (length before) from) [
        | inl under ↦ below (length before) under at
        | inr over ↦ absurd (none (length before) over at)
      ] in
      subst (λ f. IsDirectoryMarker f (base ++ after) directory) front (subst (λ b. IsDirectoryMarker (take (length before) text) b directory) back marker)

  -- one is not
  pub not_portable : (k : ℕ) → OccursAt text base k → ¬ IsDirectoryMarker (take k text) (drop k text) directory → ¬ IsPortableText text base directory
  not_portable k at other portable =
      let marker = portable (take k text) (drop (k + length base) text) (parts text base k at) in
      other (subst (λ b. IsDirectoryMarker (take k text) b directory) (sym (OccursAt-split text base k at)) marker)

  -- the whole text was searched
  pub portable_past : (from : ℕ) → length text < from → AreMarkersBelow from → IsPortableText text base directory
  portable_past from past below = portable_from from below (λ k low at. let fits = at.fits in omega arith)

  -- a search of what is left of the text
  pub found_in_rest : (from : ℕ) (word : List ℕ) (r : Option ℕ) → word ≡ base → FindsNeedle (take (length text - from) (drop from text)) word 0 r → FindsNeedle (drop from text) base 0 r
  found_in_rest from word r same found =
      subst (λ w. FindsNeedle (drop from text) w 0 r) same (subst (λ h. FindsNeedle h word 0 r) (take_rest text from) found)

  -- a place of the base directory in what is left of the text
  module _ (from : ℕ) (within : from ≤ length text) where
    later : (k : ℕ) → OccursAt (drop from text) base k → OccursAt text base (from + k)
    later k at =
        let fits = at.fits in record {
          fits = omega (arith, length-drop from text);
          reads = λ j lt. ap (λ i. get_or text i 0) (omega arith) ∙ (sym (get_or-drop from text (k + j) 0) ∙ at.reads j lt);
        }

    earlier : (k : ℕ) → from ≤ k → OccursAt text base k → OccursAt (drop from text) base (k - from)
    earlier k low at =
        let fits = at.fits in record {
          fits = omega (arith, length-drop from text);
          reads = λ j lt. get_or-drop from text (k - from + j) 0 ∙ (ap (λ i. get_or text i 0) (omega arith) ∙ at.reads j lt);
        }

    -- no place is left
    pub portable_rest : FindsNeedle (drop from text) base 0 None → AreMarkersBelow from → IsPortableText text base directory
    portable_rest none below =
        portable_from from below
        (λ k low at. let there = earlier k low at in let fits = there.fits in none (k - from) (omega arith) (omega arith) there)

    module _ (k : ℕ) (found : FindsNeedle (drop from text) base 0 (Some k)) where
      -- the next one is in a marker
      pub markers_more : AreMarkersBelow from → IsDirectoryMarker (take (from + k) text) (drop (from + k) text) directory → AreMarkersBelow (from + (k + 1))
      markers_more below marker j lt at =
          elim (cases_lt j from) [
            | inl under ↦ below j under at
            | inr over ↦ elim (cases_lt j (from + k)) [
              | inl between ↦ let first = found.0 in absurd (first.before (j - from) (omega arith) (omega arith) (earlier j over at))
              | inr last ↦ let same : from + k ≡ j = omega arith in subst (λ i. IsDirectoryMarker (take i text) (drop i text) directory) same marker
            ]
          ]

      -- the next one is in none
      pub portable_not : ¬ IsDirectoryMarker (take (from + k) text) (drop (from + k) text) directory → ¬ IsPortableText text base directory
      portable_not other = not_portable (from + k) (later k found.1) other
