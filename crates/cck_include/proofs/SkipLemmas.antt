-- bytes that are plain because the words do not occur among them
use Rattle.std.proofs.Common.{◌≡◌, ◌≢◌, ℕ, zero, suc, ◌+◌, ◌-◌, ◌<◌, ◌≤◌, Bool, true, false, ◌==◌, ◌&&◌, nat_eq, nat_lt, List, [], ◌∷◌, ◌++◌, length, drop, take, get_or, refl, sym, ap, ap₂, inl, inr, subst, add-one, ◌∙◌, arith, length-append}
use Rattle.std.specs.Prelude.{codes, if◌then◌else◌}
use Rattle.std.specs.List.{starts_with}
use Rattle.std.proofs.lemmas.Bool.{cases_lt, eq-eqb, eqb-true, ltb-true, false_from_ne_true}
use Rattle.std.proofs.lemmas.List.{drop-drop, drop_more, length-drop, get_or-drop, get_or_append_left}
use Rattle.memchr.specs.Find.{Nowhere, OccursAt, Passes, is_byte}
use Rattle.cck_include.specs.Marks.{Mark, Short, Marker, Hidden, Inclusion, Plain, Marks, what, is_marker, is_hidden, is_inclusion, at_end, unnamed, named, malformed, hidden, hidden_to_end, refused, plain}
use Rattle.cck_include.specs.Markers.{Unread, Yields}
use Rattle.cck_include.specs.Searches.{AreSearched, ArePlain, EndsBeforeMarker, IsMarkerSearch, IsSearchFor, starts_line_at}
use Rattle.cck_include.specs.declared.search.MarkerSearch.{MarkerSearch}
use Rattle.cck_include.specs.declared.search.Searches.{Searches}
use Rattle.cck_include.specs.declared.search.WordFinder.{WordFinder}
use Rattle.cck_include.proofs.Cuts.{slice_from}
use Rattle.cck_include.proofs.EachText.{any_true, after_word, marker_starts}
use Rattle.cck_include.proofs.ItemLemmas.{gives_both, gives_nothing}

-- plain bytes have no mark
pub plain_bytes : (text : List ℕ) (size : ℕ) → size ≤ length text → ArePlain text size
    → Yields (record { starts_line = false; text = text }) [] (record { starts_line = starts_line_at text size; text = drop size text })
plain_bytes text zero within are_plain = gives_nothing _
plain_bytes text (suc size) within are_plain =
    let before = plain_bytes text size (omega arith) (λ place l. are_plain place (omega arith)) in
    λ marks left. before marks (plain (are_plain size (omega arith)) (get_or text size 0) (drop (suc size) text) (next_byte size (omega arith)) left)
  where
    next_byte : (place : ℕ) → place < length text → drop place text ≡ get_or text place 0 ∷ drop (suc place) text
    next_byte place l = rw (← add-one place) (drop_more text place 0 l)

-- a word with which the rest begins occurs there
pub occurs : (text word rest : List ℕ) (place : ℕ) → 0 < length word → drop place text ≡ word ++ rest → OccursAt text word place
occurs text word rest place some is =
    record {
      fits = omega (arith, some, ap length is, length-drop place text, length-append word rest);
      reads = λ j l. sym (get_or-drop place text j 0) ∙ ap (λ (t : List ℕ). get_or t j 0) is ∙ get_or_append_left word rest 0 j l;
    }

-- after a line's end, a word occurs together with that line's end
occurs_after : (text word rest : List ℕ) (place : ℕ) → suc place ≤ length text → starts_line_at text (suc place) ≡ true → drop (suc place) text ≡ word ++ rest → OccursAt text (10 ∷ word) place
occurs_after text word rest place within starts is =
    occurs text (10 ∷ word) rest place (omega arith)
    (drop_more text place 0 within ∙ ap₂ (λ byte following. byte ∷ following) (eqb-true (get_or text place 0) 10 starts) (rw (add-one place) is))

-- a byte is plain where nothing else is
what_plain : (a b c d e : Bool) → a ≡ false → (b ≡ true → (c ≡ false) × (d ≡ false)) → e ≡ false
    → (if a then Short else if b && c then Marker else if b && d then Hidden else if e then Inclusion else Plain) ≡ Plain
what_plain true b c d e p q r = cc
what_plain false false c d false p q r = refl
what_plain false false c d true p q r = cc
what_plain false true c d e p q r = rw ((q refl).0, (q refl).1, r) refl

inclusion_starts : (text : List ℕ) → is_inclusion text ≡ true → (rest : List ℕ) × (text ≡ codes ".incbin" ++ rest)
unfolding is_inclusion
inclusion_starts text h =
    any_true (starts_with nat_eq text (codes ".incbin" ++ 34 ∷ [])) (starts_with nat_eq text (codes ".incbin " ++ 34 ∷ [])) (starts_with nat_eq text (codes ".incbin " ++ 92 ∷ 34 ∷ [])) ((rest : List ℕ) × (text ≡ codes ".incbin" ++ rest)) h
    (λ e. (_, after_word text (codes ".incbin" ++ 34 ∷ []) e))
    (λ e. (_, after_word text (codes ".incbin " ++ 34 ∷ []) e))
    (λ e. (_, after_word text (codes ".incbin " ++ 92 ∷ 34 ∷ []) e))

hidden_starts : (text : List ℕ) → is_hidden text ≡ true → (rest : List ℕ) × (text ≡ codes "__________" ++ rest)
unfolding is_hidden
hidden_starts text h = (_, after_word text (codes "__________") h)

module _ (text : List ℕ) (marker hidden inclusion : ℕ)
    (no_marker : Nowhere (EndsBeforeMarker text) 0 marker)
    (no_hidden : Nowhere (OccursAt text (10 ∷ codes "__________")) 0 hidden)
    (no_inclusion : Nowhere (OccursAt text (codes ".incbin")) 0 inclusion) where
  -- no marker and no hidden line starts at a place that the searches passed
  no_line : (place : ℕ) → place < length text → place < marker + 1 → place < hidden + 1 → starts_line_at text place ≡ true
      → (is_marker (drop place text) ≡ false) × (is_hidden (drop place text) ≡ false)
  no_line zero within before_marker before_hidden starts = cc
  no_line (suc place) within before_marker before_hidden starts = (
    false_from_ne_true _ (λ e. no_marker place (omega arith) (omega arith) (eqb-true (get_or text place 0) 10 starts, rw (add-one place) e)),
    false_from_ne_true _ (λ e.
        let word = hidden_starts (drop (suc place) text) e in
        no_hidden place (omega arith) (omega arith) (occurs_after text (codes "__________") word.0 place (omega arith) starts word.1)),
  )

  pub are_plain : (size : ℕ) → size ≤ length text - 6 → size ≤ marker + 1 → size ≤ hidden + 1 → size ≤ inclusion → ArePlain text size
  unfolding what
  are_plain size enough before_marker before_hidden before_inclusion place l =
      what_plain (nat_lt (length (drop place text)) 7) (starts_line_at text place) (is_marker (drop place text)) (is_hidden (drop place text)) (is_inclusion (drop place text))
      (false_from_ne_true _ (λ short. absurd (omega (arith, ltb-true (length (drop place text)) 7 short, length-drop place text))))
      (no_line place (omega arith) (omega arith) (omega arith))
      (false_from_ne_true _ (λ e.
      let word = inclusion_starts (drop place text) e in
      no_inclusion place (omega arith) (omega arith) (occurs text (codes ".incbin") word.0 place (omega arith) word.1)))

-- a line's end before a marker, in what is left after some bytes and in all of a text
pub ends_later : (text : List ℕ) (size place : ℕ) → EndsBeforeMarker (drop size text) place → EndsBeforeMarker text (size + place)
ends_later text size place ends = (
  sym (get_or-drop size text place 0) ∙ ends.0,
  ap is_marker (ap (λ (k : ℕ). drop k text) (omega arith) ∙ sym (drop-drop (place + 1) size text)) ∙ ends.1,
)

-- `#` follows a line's end that a marker follows
hash_follows : (text : List ℕ) (place : ℕ) → EndsBeforeMarker text place → (place + 1 < length text) × (get_or text (place + 1) 0 ≡ 35)
hash_follows text place ends =
    let hash = marker_starts (drop (place + 1) text) ends.1 in (
      omega (arith, length-drop (place + 1) text, ap length hash.1),
      ap (λ (k : ℕ). get_or text k 0) (omega arith) ∙ sym (get_or-drop (place + 1) text 0 0) ∙ ap (λ (t : List ℕ). get_or t 0 0) hash.1,
    )

-- a byte that was searched for in what is left, and is not there before a place
pub is_absent : (byte : ℕ) (text : List ℕ) (size passed : ℕ) → Nowhere (Passes (is_byte byte) (take (length text - size) (drop size text))) 0 passed
    → (k : ℕ) → size ≤ k → k < size + passed → get_or text k 0 ≢ byte
is_absent byte text size passed nowhere k low high same =
    subst (λ (rest : List ℕ). Nowhere (Passes (is_byte byte) rest) 0 passed) (slice_from text size) nowhere (k - size) (omega arith) (omega (arith, low))
    (eq-eqb (get_or (drop size text) (k - size) 0) byte (get_or-drop size text (k - size) 0 ∙ ap (λ (j : ℕ). get_or text j 0) (omega (arith, low)) ∙ same))

-- before the next `#`, no marker follows a line's end
pub no_end_before : (text : List ℕ) (from bound : ℕ) → Nowhere (EndsBeforeMarker text) 0 from → ((k : ℕ) → from + 1 ≤ k → k < length text → k < bound + 1 → get_or text k 0 ≢ 35)
    → Nowhere (EndsBeforeMarker text) 0 bound
no_end_before text from bound before no_hash place low high ends =
    elim (cases_lt place from) [
      | inl below ↦ before place low below ends
      | inr above ↦ (let hash = hash_follows text place ends in no_hash (place + 1) (omega (arith, above)) hash.0 (omega (arith, high)) hash.1)
    ]

-- nor does one up to the end of the line that has it, if it starts no marker
pub no_end_after : (text : List ℕ) (from bound : ℕ) → Nowhere (EndsBeforeMarker text) 0 from → (EndsBeforeMarker text from → ⊥) → get_or text (from + 1) 0 ≡ 35
    → ((k : ℕ) → from + 2 ≤ k → k < bound → get_or text k 0 ≢ 10) → Nowhere (EndsBeforeMarker text) 0 bound
no_end_after text from bound before not_here hash no_feed place low high ends =
    elim (cases_lt place (from + 2)) [
      | inr after ↦ no_feed place after high ends.0
      | inl near ↦ (elim (cases_lt place from) [
        | inl below ↦ before place low below ends
        | inr above ↦ (elim (cases_lt place (from + 1)) [
          | inl last ↦ not_here (let same : place ≡ from = omega (arith, above, last) in rw same at ends)
          | inr at ↦ (let same : place ≡ from + 1 = omega (arith, near, at) in let feed = rw same at ends.0 in let apart = sym hash ∙ feed in cc)
        ])
      ])
    ]

-- what a word's search knows stays true of what is left
pub word_known_after : (text word : List ℕ) (size left : ℕ) → Nowhere (OccursAt text word) 0 (length text - left) → size ≤ length text → Nowhere (OccursAt (drop size text) word) 0 (length (drop size text) - left)
word_known_after text word size left known within = λ place low high at.
    known (size + place) (omega arith) (omega (arith, high, length-drop size text)) (record {
      fits = omega (arith, at.fits, length-drop size text);
      reads = λ j l. ap (λ (k : ℕ). get_or text k 0) (omega arith) ∙ sym (get_or-drop size text (place + j) 0) ∙ at.reads j l;
    })

marker_after : (search : MarkerSearch) (text : List ℕ) (size : ℕ) → IsMarkerSearch search text → size ≤ length text → IsMarkerSearch search (drop size text)
marker_after search text size known within = λ place low high ends. known (size + place) (omega arith) (omega (arith, high, length-drop size text)) (ends_later text size place ends)

search_after : (word : List ℕ) (search : WordFinder) (text : List ℕ) (size : ℕ) → IsSearchFor word search text → size ≤ length text → IsSearchFor word search (drop size text)
search_after word search text size known within = record { word_is = known.word_is; known = word_known_after text word size search.left known.known within }

pub known_after : (searches : Searches) (text : List ℕ) (size : ℕ) → AreSearched searches text → size ≤ length text → AreSearched searches (drop size text)
known_after searches text size known within =
    record {
      marker = marker_after searches.marker text size known.marker within;
      hidden = search_after _ searches.hidden text size known.hidden within;
      inclusion = search_after _ searches.inclusion text size known.inclusion within;
    }

-- the marks are those of a place where no line starts, if what is there is the same
pub same_marks : (a b : Bool) (text : List ℕ) (marks : List Mark) → what a text ≡ what b text → Marks b text marks → Marks a text marks
same_marks a b text marks same (at_end is none) = at_end (same ∙ is) none
same_marks a b text marks same (unnamed is marker more) = unnamed (same ∙ is) marker more
same_marks a b text marks same (named is marker rest more all) = named (same ∙ is) marker rest more all
same_marks a b text marks same (malformed is u n all) = malformed (same ∙ is) u n all
same_marks a b text marks same (hidden is front rest cut free more) = hidden (same ∙ is) front rest cut free more
same_marks a b text marks same (hidden_to_end is free none) = hidden_to_end (same ∙ is) free none
same_marks a b text marks same (refused is all) = refused (same ∙ is) all
same_marks a b text marks same (plain is byte rest cut more) = plain (same ∙ is) byte rest cut more

-- a line that begins with neither `#` nor `_` is neither a marker nor skipped
pub unmarked : (starts_line : Bool) (text : List ℕ) → starts_with nat_eq text (codes "#") ≡ false → starts_with nat_eq text (codes "_") ≡ false → what starts_line text ≡ what false text
unfolding what
unmarked false text no-hash no-underscore = refl
unmarked true text no-hash no-underscore =
    let no-marker : is_marker text ≡ false = false_from_ne_true _ (λ e. let hash = marker_starts text e in let apart = rw hash.1 at no-hash in cc) in
    let no-hidden : is_hidden text ≡ false = false_from_ne_true _ (λ e. let word = hidden_starts text e in let apart = rw word.1 at no-underscore in cc) in
    rw (no-marker, no-hidden) refl

starts_line_after : (text : List ℕ) (size : ℕ) → size ≢ 0 → starts_line_at text size ≡ (get_or text (size - 1) 0 == 10)
starts_line_after text zero some = absurd (some refl)
starts_line_after text (suc size) some = let before : suc size - 1 ≡ size = omega arith in rw before refl

-- the bytes that were passed, as the program cuts them off
pub passed_bytes : (text : List ℕ) (size : ℕ) → size ≤ length text → size ≢ 0 → ArePlain text size
    → Yields (record { starts_line = false; text = text }) [] (record { starts_line = get_or text (size - 1) 0 == 10; text = take (length text - size) (drop size text) })
passed_bytes text size within some are_plain =
    rw (slice_from text size, ← starts_line_after text size some) (plain_bytes text size within are_plain)

-- an item after them, as the program cuts it off
pub passed_item : (old : Unread) (starts_line starts_after : Bool) (text : List ℕ) (given : List Mark) (size : ℕ) → Yields old [] (record { starts_line = starts_line; text = text })
    → Yields (record { starts_line = starts_line; text = text }) given (record { starts_line = starts_after; text = drop size text })
    → Yields old given (record { starts_line = starts_after; text = take (length text - size) (drop size text) })
passed_item old starts_line starts_after text given size before item = rw (slice_from text size) (gives_both old _ _ [] given before item)
