-- What remains of a text, piece by piece.
use Rattle.std.proofs.Common.{◌≡◌, ◌≢◌, ℕ, suc, ◌+◌, ◌<◌, ◌≤◌, List, [], ◌∷◌, ◌++◌, inl, inr, Bool, true, false, ◌||◌, length, drop, map, take, ◌-◌, append_assoc, length-drop, length-take, refl, sym, ap, ◌∙◌, arith, subst}
use Rattle.std.specs.Bool.{⊤}
use Rattle.std.specs.List.{All, Any, slice_range}
use Rattle.std.proofs.Math.Seq.{take-add}
use Rattle.std.proofs.lemmas.List.{append-nil, drop-drop, get_or-map, length-map, take_rest}
use Rattle.std.proofs.lemmas.Bool.{cases_lt}
use Rattle.std.proofs.lemmas.List.Elements.{All-cons, All-head, All-map}
use Rattle.std.proofs.lemmas.List.Folds.{drop_split}
use Rattle.std.proofs.lemmas.List.Kept.{AllPairs-cons}
use Rattle.cck_strip.specs.Cuts.{Covers, Cuts, IsNextPlace, LieWithin, Remains, cuts_below, stripped}
use Rattle.cck_strip.specs.Pieces.{IsNextPiece, IsPassed, stripped_from}
use Rattle.cck_strip.proofs.CutLemmas.{CutsFrom, cuts_below-are_cuts, from_start, unique}
use Rattle.cck_strip.proofs.WithoutLemmas.{stretches, stripped-any, without-stretches}

-- a stretch without sites may be passed over
passed : (site : ℕ → ℕ) (at later : ℕ) (cuts : List ℕ) → at ≤ later → ((k : ℕ) → at ≤ k → k < later → site k ≡ 0)
    → CutsFrom site later cuts → CutsFrom site at cuts
passed site at later cuts le none c = record {
  after = λ k d h. let a = c.after k d h in omega arith;
  sites = c.sites;
  disjoint = c.disjoint;
  covering = λ k h p. elim (cases_lt k later) [
    | inl lt ↦ let z = none k h lt in absurd (omega arith)
    | inr ge ↦ c.covering k ge p
  ];
}

any_later : {X : Type 0} (P : X → Type 0) (x : X) (xs : List X) → Any P xs → Any P (x ∷ xs)
any_later P x xs (k, y, h, e, p) = (suc k, y, omega arith, e, p)

-- the site at this place is the first cut
taken : (site : ℕ → ℕ) (at : ℕ) (cuts : List ℕ) → 0 < site at → CutsFrom site (at + site at) cuts → CutsFrom site at (at ∷ cuts)
taken site at cuts here c = record {
  after = All-cons (λ i. at ≤ i) at cuts (omega arith) (λ k d h. let a = c.after k d h in omega arith);
  sites = All-cons (λ i. 0 < site i) at cuts here c.sites;
  disjoint = AllPairs-cons (λ i j. i + site i ≤ j) at cuts c.after c.disjoint;
  covering = λ k h p. elim (cases_lt k (at + site at)) [
    | inl lt ↦ (0, at, omega arith, refl, (h, lt))
    | inr ge ↦ any_later (Covers site k) at cuts (c.covering k ge p)
  ];
}

-- where no site is left nothing is left to cut
none_left : (site : ℕ → ℕ) (at : ℕ) → ((k : ℕ) → at ≤ k → site k ≡ 0) → CutsFrom site at []
none_left site at none = record {
  after = λ k d h. absurd (omega arith);
  sites = λ k d h. absurd (omega arith);
  disjoint = λ i j d h lt. absurd (omega arith);
  covering = λ k le p. let e = none k le in absurd (omega arith);
}

covered_later : (site : ℕ → ℕ) (place k : ℕ) (cuts : List ℕ) → place ≤ k → Any (Covers (λ i. site (place + i)) (k - place)) cuts
    → Any (Covers site k) (map (λ i. place + i) cuts)
covered_later site place k cuts le (j, i, h, e, covers) =
    let start = covers.0 in
    let end = covers.1 in (
      j,
      place + i,
      omega (arith, length-map cuts (λ i. place + i)),
      get_or-map (λ i. place + i) cuts j i (place + i) h ∙ ap (λ x. place + x) e,
      (omega arith, omega arith),
    )

-- the cuts of the text from a place on are cuts from this place on
cuts_later : (site : ℕ → ℕ) (place : ℕ) (cuts : List ℕ) → Cuts (λ k. site (place + k)) cuts → CutsFrom site place (map (λ i. place + i) cuts)
cuts_later site place cuts c = record {
  after = All-map (λ i. place ≤ i) (λ i. place + i) cuts (λ k d h. omega arith);
  sites = All-map (λ i. 0 < site i) (λ i. place + i) cuts c.sites;
  disjoint = λ i j d lt h.
      let size = length-map cuts (λ i. place + i) in
      let first = get_or-map (λ i. place + i) cuts i d d (omega arith) in
      let second = get_or-map (λ i. place + i) cuts j d d (omega arith) in
      let apart = c.disjoint i j d lt (omega arith) in
      rw (first, second) (omega arith);
  covering = λ k le p. covered_later site place k cuts le (c.covering (k - place) (subst (λ x. 0 < site x) (omega arith) p));
}

stretches-later : (site : ℕ → ℕ) (place n : ℕ) (cuts text : List ℕ)
    → stretches (λ k. site (place + k)) n cuts (drop place text) ≡ stretches site (place + n) (map (λ i. place + i) cuts) text
stretches-later site place n [] text = drop-drop n place text ∙ ap (λ k. drop k text) (omega arith)
stretches-later site place n (i ∷ cuts) text =
    let at : drop n (drop place text) ≡ drop (place + n) text = drop-drop n place text ∙ ap (λ k. drop k text) (omega arith) in
    let first : slice_range (drop place text) n i ≡ slice_range text (place + n) (place + i) =
    ap (take (i - n)) at ∙ ap (λ k. take k (drop (place + n) text)) (omega arith) in
    let others = stretches-later site place (i + site (place + i)) cuts text in
    let rest : stretches (λ k. site (place + k)) (i + site (place + i)) cuts (drop place text)
    ≡ stretches site (place + i + site (place + i)) (map (λ i. place + i) cuts) text =
    others ∙ ap (λ k. stretches site k (map (λ i. place + i) cuts) text) (omega arith) in
    λ j. first j ++ rest j

-- the cuts from a place on
cuts_from : (ℕ → ℕ) → List ℕ → ℕ → List ℕ
cuts_from site text place = map (λ i. place + i) (cuts_below (λ k. site (place + k)) (length (drop place text)))

within_later : (site : ℕ → ℕ) (text : List ℕ) (place : ℕ) → LieWithin site (length text) → LieWithin (λ k. site (place + k)) (length (drop place text))
within_later site text place within k p = let e = within (place + k) p in omega (arith, length-drop place text)

cuts_from-are_cuts : (site : ℕ → ℕ) (text : List ℕ) (place : ℕ) → LieWithin site (length text) → CutsFrom site place (cuts_from site text place)
unfolding cuts_from
cuts_from-are_cuts site text place within =
    cuts_later site place _ (cuts_below-are_cuts (λ k. site (place + k)) (length (drop place text)) (within_later site text place within))

-- what remains from a place on are the stretches between the cuts from there on
stripped_from-stretches : (site : ℕ → ℕ) (text : List ℕ) (place : ℕ) (cuts : List ℕ) → LieWithin site (length text) → CutsFrom site place cuts
    → stripped_from site text place ≡ stretches site place cuts text
unfolding stripped
stripped_from-stretches site text place cuts within c =
    let later = within_later site text place within in
    let all = cuts_below (λ k. site (place + k)) (length (drop place text)) in
    let are = cuts_below-are_cuts (λ k. site (place + k)) (length (drop place text)) later in
    without-stretches (λ k. site (place + k)) all (drop place text) later are
    ∙ (stretches-later site place 0 all text
    ∙ (ap (λ k. stretches site k (map (λ i. place + i) all) text) (omega arith)
    ∙ ap (λ x. stretches site place x text) (unique site place (map (λ i. place + i) all) cuts (cuts_later site place all are) c)))

-- from the start on all remains that is not cut
pub stripped_from-start : (site : ℕ → ℕ) (text : List ℕ) → stripped_from site text 0 ≡ stripped site text
stripped_from-start site text =
    let same : (k : ℕ) → 0 + k ≡ k = λ k. omega arith in
    λ i. stripped (λ k. site (same k i)) text

-- from the end on nothing remains
pub stripped_from-end : (site : ℕ → ℕ) (text : List ℕ) → LieWithin site (length text) → stripped_from site text (length text) ≡ []
stripped_from-end site text within =
    stripped_from-stretches site text (length text) [] within (none_left site (length text) none) ∙ drop_all text
  where
    none : (k : ℕ) → length text ≤ k → site k ≡ 0
    none k le = let some : 0 < site k → ⊥ = λ p. let e = within k p in omega arith in omega arith

    drop_all : (text : List ℕ) → drop (length text) text ≡ []
    drop_all [] = refl
    drop_all (b ∷ text) = drop_all text

slice_range-join : (text : List ℕ) (from middle to : ℕ) → from ≤ middle → middle ≤ to → slice_range text from middle ++ slice_range text middle to ≡ slice_range text from to
slice_range-join text from middle to low high =
    let size : to - from ≡ middle - from + (to - middle) = omega arith in
    let place : from + (middle - from) ≡ middle = omega arith in
    (λ i. take (middle - from) (drop from text) ++ take (to - middle) (drop (sym place i) text))
    ∙ (ap (λ l. take (middle - from) (drop from text) ++ take (to - middle) l) (sym (drop-drop (middle - from) from text))
    ∙ (sym (take-add (middle - from) (to - middle) (drop from text)) ∙ ap (λ n. take n (drop from text)) (sym size)))

-- a stretch before all cuts may be taken apart
stretches-part : (site : ℕ → ℕ) (text : List ℕ) (copied middle : ℕ) (cuts : List ℕ) → copied ≤ middle → All (λ i. middle ≤ i) cuts
    → slice_range text copied middle ++ stretches site middle cuts text ≡ stretches site copied cuts text
stretches-part site text copied middle [] le h = sym (drop_split text copied middle le)
stretches-part site text copied middle (i ∷ cuts) le h =
    sym (append_assoc (slice_range text copied middle) (slice_range text middle i) (stretches site (i + site i) cuts text))
    ∙ ap (λ l. l ++ stretches site (i + site i) cuts text) (slice_range-join text copied middle i le (All-head (λ i. middle ≤ i) i cuts h))

length-slice_range : (text : List ℕ) (from to : ℕ) → from ≤ to → to ≤ length text → from + length (slice_range text from to) ≡ to
length-slice_range text from to low high = omega (arith, length-take (to - from) (drop from text), length-drop from text)

-- no site starts before the next place
pub IsPassed-place : (site : ℕ → ℕ) (n copied from place : ℕ) → IsPassed site n copied from → IsNextPlace site n from place → IsPassed site n copied place
IsPassed-place site n copied from place p next =
    let from_on = p.from_on in
    let next_on = next.from_on in
    let within = next.within in record {
      from_on = omega arith;
      within = omega arith;
      none = λ k le lt. elim (cases_lt k from) [
        | inl before ↦ p.none k le before
        | inr ge ↦ next.none_before k ge lt
      ];
    }

-- nor at it, if there is none
pub IsPassed-more : (site : ℕ → ℕ) (n copied place : ℕ) → IsPassed site n copied place → place < n → site place ≡ 0 → IsPassed site n copied (place + 1)
IsPassed-more site n copied place p fits here =
    let from_on = p.from_on in record {
      from_on = omega arith;
      within = omega arith;
      none = λ k le lt. elim (cases_lt k place) [
        | inl before ↦ p.none k le before
        | inr ge ↦ let same : k ≡ place = omega arith in ap site same ∙ here
      ];
    }

-- a place from which on nothing is passed yet
pub IsPassed-none : (site : ℕ → ℕ) (n place : ℕ) → place ≤ n → IsPassed site n place place
IsPassed-none site n place fits = record { from_on = omega arith; within = fits; none = λ k le lt. absurd (omega arith) }

-- from a place after `copied` on
pub IsPassed-later : (site : ℕ → ℕ) (n copied middle from : ℕ) → IsPassed site n copied from → copied ≤ middle → middle ≤ from → IsPassed site n middle from
IsPassed-later site n copied middle from p low high = record { from_on = high; within = p.within; none = λ k le lt. p.none k (omega arith) lt }

-- the piece before a site
pub IsNextPiece-site : (site : ℕ → ℕ) (text : List ℕ) (is_first : Bool) (copied place : ℕ) → LieWithin site (length text)
    → IsPassed site (length text) copied place → 0 < site place → IsNextPiece site text (slice_range text copied place) is_first copied (place + site place)
IsNextPiece-site site text is_first copied place within p here =
    let from_on = p.from_on in
    let end = length-slice_range text copied place p.from_on p.within in
    let later = cuts_from site text (place + site place) in
    let are = cuts_from-are_cuts site text (place + site place) within in
    record {
      is =
          ap (λ l. slice_range text copied place ++ l) (stripped_from-stretches site text (place + site place) later within are)
          ∙ sym (stripped_from-stretches site text copied (place ∷ later) within (passed site copied place (place ∷ later) from_on p.none (taken site place later here are)));
      next_is = ap (λ x. x + site x) (sym end);
      further = omega arith;
      first = λ e. subst (λ x. 0 < site x) (sym end) here;
    }

-- a piece before a place without a site
pub IsNextPiece-part : (site : ℕ → ℕ) (text : List ℕ) (is_first : Bool) (copied place : ℕ) → LieWithin site (length text)
    → IsPassed site (length text) copied place → site place ≡ 0 → copied < place → is_first ≡ false
    → IsNextPiece site text (slice_range text copied place) is_first copied place
IsNextPiece-part site text is_first copied place within p none some later =
    let from_on = p.from_on in
    let end = length-slice_range text copied place p.from_on p.within in
    let cuts = cuts_from site text place in
    let are = cuts_from-are_cuts site text place within in
    record {
      is =
          ap (λ l. slice_range text copied place ++ l) (stripped_from-stretches site text place cuts within are)
          ∙ (stretches-part site text copied place cuts from_on are.after
          ∙ sym (stripped_from-stretches site text copied cuts within (passed site copied place cuts from_on p.none are)));
      next_is = let here = ap site end in omega arith;
      further = some;
      first = λ e. absurd (cc (e, later));
    }

-- the last piece
pub IsNextPiece-last : (site : ℕ → ℕ) (text : List ℕ) (is_first : Bool) (copied from : ℕ) → LieWithin site (length text)
    → IsPassed site (length text) copied from → ((k : ℕ) → from ≤ k → site k ≡ 0) → copied ≢ length text → is_first ≡ false
    → IsNextPiece site text (drop copied text) is_first copied (length text)
IsNextPiece-last site text is_first copied from within p none some later =
    let from_on = p.from_on in
    let fits = p.within in
    let all : IsPassed site (length text) copied (length text) = record {
      from_on = omega arith;
      within = omega arith;
      none = λ k le lt. elim (cases_lt k from) [
        | inl before ↦ p.none k le before
        | inr ge ↦ none k ge
      ];
    } in
    subst (λ piece. IsNextPiece site text piece is_first copied (length text)) (take_rest text copied)
    (IsNextPiece-part site text is_first copied (length text) within all (none (length text) (omega arith)) (omega arith) later)

-- without a site from `copied` on
pub none_from : (site : ℕ → ℕ) (n copied from : ℕ) → IsPassed site n copied from → ((k : ℕ) → from ≤ k → site k ≡ 0) → (k : ℕ) → copied ≤ k → site k ≡ 0
none_from site n copied from p none k le = elim (cases_lt k from) [
  | inl before ↦ p.none k le before
  | inr ge ↦ none k ge
]

-- the cuts of a text with a site are some
some_cuts : (site : ℕ → ℕ) (cuts : List ℕ) (k : ℕ) → Cuts site cuts → 0 < site k → cuts ≢ []
some_cuts site cuts k c here none = let q = subst (λ x. Any (Covers site k) x) none (c.covering k here) in absurd (omega arith)

-- where there is a site, a copy of what remains
pub Remains-some : (site : ℕ → ℕ) (text kept : List ℕ) (k : ℕ) → LieWithin site (length text) → 0 < site k → kept ≡ stripped site text → Remains site text kept ⊤
unfolding stripped
Remains-some site text kept k within here e =
    let all = cuts_below site (length text) in
    let c = cuts_below-are_cuts site (length text) within in
    record {
      cuts = all;
      are_cuts = c;
      value = e;
      borrowed = (λ no. absurd (no tt), λ none. absurd (some_cuts site all k c here none));
    }

-- where there is no site, all is kept
pub Remains-none : (site : ℕ → ℕ) (text : List ℕ) → LieWithin site (length text) → ((k : ℕ) → site k ≡ 0) → Remains site text text ⊥
Remains-none site text within none =
    let all = cuts_below site (length text) in
    let c = cuts_below-are_cuts site (length text) within in
    let empty : [] ≡ all = unique site 0 [] all (none_left site 0 (λ k le. none k)) (from_start site all c) in
    record {
      cuts = all;
      are_cuts = c;
      value = ap (λ x. stretches site 0 x text) empty ∙ sym (without-stretches site all text within c);
      borrowed = (λ no. sym empty, λ e no. no);
    }

-- what remains without the cuts is the stripped text
pub Remains-stripped : (site : ℕ → ℕ) (text kept : List ℕ) (IsCopy : Type 0) → LieWithin site (length text) → Remains site text kept IsCopy → kept ≡ stripped site text
Remains-stripped site text kept IsCopy within r = r.value ∙ sym (stripped-any site text r.cuts within r.are_cuts)

-- sites that lie in a text lie in an equal one
pub within_same : (site : ℕ → ℕ) (own text : List ℕ) → own ≡ text → ((k : ℕ) → 0 < site k → k + site k ≤ length own) → LieWithin site (length text)
within_same site own text e h k p = subst (λ x. k + site k ≤ length x) e (h k p)

-- a place of a text is one of an equal text
pub IsNextPlace-same : (site : ℕ → ℕ) (own text : List ℕ) (from place : ℕ) → own ≡ text → IsNextPlace site (length own) from place → IsNextPlace site (length text) from place
IsNextPlace-same site own text from place e h = subst (λ x. IsNextPlace site (length x) from place) e h

-- whether something was cut before, where the last piece is none
pub cut_before : (is_cut was_cut b : Bool) → is_cut ≡ (was_cut || false) → is_cut ≡ b → was_cut ≡ b
cut_before is_cut true b e f = sym e ∙ f
cut_before is_cut false b e f = sym e ∙ f

-- what is kept is all that remains, where the text ends
pub whole_at_end : (site : ℕ → ℕ) (text kept : List ℕ) (copied : ℕ) → LieWithin site (length text) → copied ≡ length text
    → kept ++ stripped_from site text copied ≡ stripped_from site text 0 → kept ≡ stripped site text
whole_at_end site text kept copied within end whole =
    let rest : stripped_from site text copied ≡ [] = ap (stripped_from site text) end ∙ stripped_from-end site text within in
    sym (append-nil kept) ∙ (sym (ap (λ l. kept ++ l) rest) ∙ (whole ∙ stripped_from-start site text))
