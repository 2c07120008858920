-- Tests for headers, as they are found place by place and line by line.
use Rattle.std.proofs.Common.{◌≡◌, ℕ, zero, suc, ◌+◌, ◌-◌, ◌<◌, ◌≤◌, ◌⊎◌, inl, inr, Bool, true, false, ◌==◌, None, List, [], ◌∷◌, ◌++◌, ◌&&◌, codes, nat_eq, take, drop, Some, None, length, get_or, refl, sym, ap, ◌∙◌, arith, subst, append_assoc}
use Rattle.std.specs.Prelude.{Contains, ◌↔◌}
use Rattle.std.specs.List.{ends_with, join_with_byte, starts_with}
use Rattle.std.proofs.lemmas.Bool.{cases_lt, or_cases, or_left, or_right}
use Rattle.std.proofs.lemmas.List.{append-nil, get_or_default, take-append-drop}
use Rattle.std.proofs.lemmas.List.Splits.{join_with_byte-slice_split}
use Rattle.std.proofs.lemmas.List.Elements.{Contains-append_cases, Contains-append_left, Contains-append_right}
use Rattle.std.proofs.lemmas.Slice.Eq.{bytes_eq-Decides}
use Rattle.cck_digest.specs.TimeMacros.{Has, has}
use Rattle.cck_digest.proofs.HasLemmas.{has_iff}
use Rattle.cck_cache_text.specs.SearchList.{text_lines}
use Rattle.cck_cache_text.specs.Condition.{after_piece, depth_after, depth_in}
use Rattle.cck_cache_text.specs.HeaderTests.{AreTests, Gains, IsBlindLine, IsTestOfLine, begins_word, is_test, may_begin_open, tested}
use Rattle.cck_cache_text.specs.Identifier.{is_word_byte, word_of}
use Rattle.cck_cache_text.specs.TestName.{TestFields, is_test_name, is_test_word, may_have_test}
use Rattle.cck_cache_text.specs.Splices.{run_length}
use Rattle.cck_cache_rules.proofs.ListLemmas.{ends_decided}

-- a test at one of the first places of a line
abbrev pub IsTestBelow : Bool → List ℕ → ℕ → TestFields → Type 0
IsTestBelow inside line n test = (place : ℕ) × (place < n) × (is_test inside line place ≡ true) × (tested inside line place ≡ Some test)

-- each test at one of the first places of a line can be judged
abbrev pub NoneBlindBelow : Bool → List ℕ → ℕ → Type 0
NoneBlindBelow inside line n = (place : ℕ) → place < n → is_test inside line place ≡ true → tested inside line place ≡ None → ⊥

-- the same of the first lines
abbrev pub IsTestAbove : List (List ℕ) → ℕ → TestFields → Type 0
IsTestAbove lines n test = (k : ℕ) × (k < n) × IsTestOfLine lines k test

abbrev pub NoneBlindAbove : List (List ℕ) → ℕ → Type 0
NoneBlindAbove lines n = (k : ℕ) → k < n → IsBlindLine lines k → ⊥

pub gains_none : (P : TestFields → Type 0) (old : List TestFields) → ((test : TestFields) → P test → ⊥) → Gains P old old
gains_none P old none test = (λ h. inl h, λ h. elim h [ inl a ↦ a | inr b ↦ absurd (none test b) ])

pub gains_as : (P Q : TestFields → Type 0) (old new : List TestFields) → ((test : TestFields) → P test → Q test) → ((test : TestFields) → Q test → P test) → Gains P old new → Gains Q old new
gains_as P Q old new f g gains test = (
  λ h. elim ((gains test).0 h) [ inl a ↦ inl a | inr b ↦ inr (f test b) ],
  λ h. elim h [ inl a ↦ (gains test).1 (inl a) | inr b ↦ (gains test).1 (inr (g test b)) ],
)

pub gains_both : (P Q : TestFields → Type 0) (old middle new : List TestFields) → Gains P old middle → Gains Q middle new → Gains (λ test. P test ⊎ Q test) old new
gains_both P Q old middle new first second test = (
  λ h. elim ((second test).0 h) [
    | inl a ↦ elim ((first test).0 a) [ inl c ↦ inl c | inr d ↦ inr (inl d) ]
    | inr b ↦ inr (inr b)
  ],
  λ h. elim h [
    | inl a ↦ (second test).1 (inl ((first test).1 (inl a)))
    | inr b ↦ elim b [ inl c ↦ (second test).1 (inl ((first test).1 (inr c))) | inr d ↦ (second test).1 (inr d) ]
  ],
)

alone : (one test : TestFields) → Contains (one ∷ []) test → test ≡ one
alone one test (k, lt, is) =
    let first : k ≡ 0 = omega (arith, lt) in
    sym (subst (λ (i : ℕ). get_or (one ∷ []) i test ≡ test) first is)

pub gains_one : (old new : List TestFields) (one : TestFields) → new ≡ old ++ one ∷ [] → Gains (λ test. test ≡ one) old new
gains_one old new one e test = (
  λ h. elim (Contains-append_cases old (one ∷ []) test (subst (λ (xs : List TestFields). Contains xs test) e h)) [
    | inl a ↦ inl a
    | inr b ↦ inr (alone one test b)
  ],
  λ h. elim h [
    | inl a ↦ subst (λ (xs : List TestFields). Contains xs test) (sym e) (Contains-append_left old (one ∷ []) test a)
    | inr b ↦ subst (λ (xs : List TestFields). Contains xs test) (sym e) (Contains-append_right old (one ∷ []) test (0, omega arith, sym b))
  ],
)

-- ---- places

-- a place at which there is no test
pub none_here : (inside : Bool) (line : List ℕ) (n : ℕ) (old new : List TestFields) → is_test inside line n ≡ false → Gains (IsTestBelow inside line n) old new → Gains (IsTestBelow inside line (n + 1)) old new
none_here inside line n old new none gains = gains_as (IsTestBelow inside line n) (IsTestBelow inside line (n + 1)) old new
    (λ test below. (below.0, omega (arith, below.1), below.2, below.3))
    (λ test more. elim (cases_lt more.0 n) [
      | inl lt ↦ (more.0, lt, more.2, more.3)
      | inr ge ↦ (let same : more.0 ≡ n = omega (arith, more.1) in let is : is_test inside line n ≡ true = ap (is_test inside line) (sym same) ∙ more.2 in absurd (let h : false ≡ true = sym none ∙ is in cc))
    ]) gains

pub none_blind_here : (inside : Bool) (line : List ℕ) (n : ℕ) → is_test inside line n ≡ false → NoneBlindBelow inside line n → NoneBlindBelow inside line (n + 1)
none_blind_here inside line n none known place lt is blind =
    elim (cases_lt place n) [
      | inl below ↦ known place below is blind
      | inr ge ↦ (let same : place ≡ n = omega arith in let now : is_test inside line n ≡ true = ap (is_test inside line) (sym same) ∙ is in absurd (let h : false ≡ true = sym none ∙ now in cc))
    ]

-- a place at which there is one
pub one_here : (inside : Bool) (line : List ℕ) (n : ℕ) (old middle new : List TestFields) (one : TestFields) → is_test inside line n ≡ true → tested inside line n ≡ Some one → new ≡ middle ++ one ∷ [] → Gains (IsTestBelow inside line n) old middle → Gains (IsTestBelow inside line (n + 1)) old new
one_here inside line n old middle new one is here e gains = gains_as (λ test. IsTestBelow inside line n test ⊎ (test ≡ one)) (IsTestBelow inside line (n + 1)) old new
    (λ test h. elim h [
      | inl below ↦ (below.0, omega (arith, below.1), below.2, below.3)
      | inr same ↦ (n, omega arith, is, here ∙ ap Some (sym same))
    ])
    (λ test more. elim (cases_lt more.0 n) [
      | inl lt ↦ inl (more.0, lt, more.2, more.3)
      | inr ge ↦ (let same : more.0 ≡ n = omega (arith, more.1) in let found : Some test ≡ Some one = sym more.3 ∙ (ap (tested inside line) same ∙ here) in inr (cc))
    ])
    (gains_both (IsTestBelow inside line n) (λ test. test ≡ one) old middle new gains (gains_one middle new one e))

pub one_blind_here : (inside : Bool) (line : List ℕ) (n : ℕ) (one : TestFields) → tested inside line n ≡ Some one → NoneBlindBelow inside line n → NoneBlindBelow inside line (n + 1)
one_blind_here inside line n one here known place lt is blind =
    elim (cases_lt place n) [
      | inl below ↦ known place below is blind
      | inr ge ↦ (let same : place ≡ n = omega arith in let found : Some one ≡ None = sym here ∙ (ap (tested inside line) (sym same) ∙ blind) in cc)
    ]

-- ---- lines

pub line_here : (lines : List (List ℕ)) (n : ℕ) (old middle new : List TestFields) → Gains (IsTestOfLine lines n) middle new → Gains (IsTestAbove lines n) old middle → Gains (IsTestAbove lines (n + 1)) old new
line_here lines n old middle new second first = gains_as (λ test. IsTestAbove lines n test ⊎ IsTestOfLine lines n test) (IsTestAbove lines (n + 1)) old new
    (λ test h. elim h [
      | inl above ↦ (above.0, omega (arith, above.1), above.2)
      | inr here ↦ (n, omega arith, here)
    ])
    (λ test more. elim (cases_lt more.0 n) [
      | inl lt ↦ inl (more.0, lt, more.2)
      | inr ge ↦ (let same : more.0 ≡ n = omega (arith, more.1) in inr (subst (λ (k : ℕ). IsTestOfLine lines k test) same more.2))
    ])
    (gains_both (IsTestAbove lines n) (IsTestOfLine lines n) old middle new first second)

pub line_blind_here : (lines : List (List ℕ)) (n : ℕ) → (IsBlindLine lines n → ⊥) → NoneBlindAbove lines n → NoneBlindAbove lines (n + 1)
line_blind_here lines n none known k lt blind =
    elim (cases_lt k n) [
      | inl below ↦ known k below blind
      | inr ge ↦ (let same : k ≡ n = omega arith in none (subst (IsBlindLine lines) same blind))
    ]

-- each line was looked at
pub all_lines : (text : List ℕ) (lines : List (List ℕ)) (n : ℕ) (new : List TestFields) → lines ≡ text_lines text → n ≡ length lines → NoneBlindAbove lines n → Gains (IsTestAbove lines n) [] new → AreTests text (Some new)
all_lines text lines n new is end known gains = subst (λ (all : List (List ℕ)). ((k : ℕ) → k < length all → IsBlindLine all k → ⊥) × ((test : TestFields) → Contains new test ↔ ((k : ℕ) × (k < length all) × IsTestOfLine all k test))) is (
  λ k lt blind. known k (omega (arith, lt, end)) blind,
  λ test. (
    λ h. elim ((gains test).0 h) [
      | inl none ↦ absurd (omega (arith, none.1))
      | inr above ↦ (above.0, omega (arith, end, above.1), above.2)
    ],
    λ h. (gains test).1 (inr (h.0, omega (arith, h.1, end), h.2)),
  ),
)

-- ---- the pieces of a condition

-- a piece opens one parenthesis at most
pub depth_bound : (byte depth next : ℕ) → depth_after byte depth ≡ Some next → next ≤ depth + 1
depth_bound byte depth next is = go (byte == 40) refl
  where
    open_or_close : (b : Bool) → (byte == 41) ≡ b → (byte == 40) ≡ false → next ≤ depth + 1
    open_or_close true closes other = closed (depth == 0) refl
      where
        closed : (b : Bool) → (depth == 0) ≡ b → next ≤ depth + 1
        closed true none = (let h : None ≡ Some next = sym (rw other (rw closes (rw none refl))) ∙ is in cc)
        closed false some = (let h : Some (depth - 1) ≡ Some next = sym (rw other (rw closes (rw some refl))) ∙ is in let same : depth - 1 ≡ next = cc in omega (arith, same))
    open_or_close false stays other = (let h : Some depth ≡ Some next = sym (rw other (rw stays refl)) ∙ is in let same : depth ≡ next = cc in omega (arith, same))

    go : (b : Bool) → (byte == 40) ≡ b → next ≤ depth + 1
    go true opens = (let h : Some (depth + 1) ≡ Some next = sym (rw opens refl) ∙ is in let same : depth + 1 ≡ next = cc in omega (arith, same))
    go false other = open_or_close (byte == 41) refl other

pub depth_ended : (n depth : ℕ) (text : List ℕ) → (length text == 0) ≡ true → depth_in n depth text ≡ Some depth
depth_ended zero depth text none = rw none refl
depth_ended (suc n) depth text none = rw none refl

pub depth_refused : (n depth : ℕ) (text : List ℕ) → (length text == 0) ≡ false → depth_after (get_or text 0 0) depth ≡ None → depth_in n depth text ≡ None
depth_refused zero depth text some refused = rw some refl
depth_refused (suc n) depth text some refused = rw some (rw refused refl)

pub depth_unknown : (n depth next : ℕ) (text : List ℕ) → (length text == 0) ≡ false → depth_after (get_or text 0 0) depth ≡ Some next → after_piece text ≡ None → depth_in n depth text ≡ None
depth_unknown zero depth next text some is unknown = rw some refl
depth_unknown (suc n) depth next text some is unknown = rw some (rw is (rw unknown refl))

pub depth_more : (n depth next : ℕ) (text rest : List ℕ) → (length text == 0) ≡ false → depth_after (get_or text 0 0) depth ≡ Some next → after_piece text ≡ Some rest → depth_in (suc n) depth text ≡ depth_in n next rest
depth_more n depth next text rest some is first = rw some (rw is (rw first refl))

-- ---- a text without `__has`

and_first : (a b : Bool) → (a && b) ≡ true → a ≡ true
and_first true b e = refl
and_first false b e = e

-- a part of a joined list is a part of it
joined_part : (c : ℕ) (parts : List (List ℕ)) (part : List ℕ) → Contains parts part → (front : List ℕ) × (back : List ℕ) × (join_with_byte c parts ≡ front ++ (part ++ back))
joined_part c [] part at = absurd (omega (arith, at.1))
joined_part c (x ∷ []) part (k, lt, is) =
    let first : k ≡ 0 = omega (arith, lt) in
    let same : x ≡ part = subst (λ (i : ℕ). get_or (x ∷ []) i part ≡ part) first is in
    ([], [], same ∙ sym (append-nil part))
joined_part c (x ∷ y ∷ more) part (zero, lt, is) = ([], c ∷ join_with_byte c (y ∷ more), ap (λ p. p ++ (c ∷ join_with_byte c (y ∷ more))) is)
joined_part c (x ∷ y ∷ more) part (suc k, lt, is) =
    let rest = joined_part c (y ∷ more) part (k, omega (arith, lt), is) in
    (x ++ (c ∷ rest.0), rest.1, ap (λ j. x ++ (c ∷ j)) rest.2 ∙ sym (append_assoc x (c ∷ rest.0) (part ++ rest.1)))

-- a word in a part of a text is in the text
word_of_part : (front part back a b word : List ℕ) → part ≡ a ++ (word ++ b) → front ++ (part ++ back) ≡ (front ++ a) ++ (word ++ (b ++ back))
word_of_part front part back a b word is =
    ap (λ p. front ++ (p ++ back)) is
    ∙ (ap (λ p. front ++ p) (append_assoc a (word ++ b) back ∙ ap (λ p. a ++ p) (append_assoc word b back)) ∙ sym (append_assoc front a (word ++ (b ++ back))))

-- a word of a line is in the text
line_has : (text line word : List ℕ) → Contains (text_lines text) line → Has line word → has text word ≡ true
line_has text line word at (a, b, is) =
    let part = joined_part 10 (text_lines text) line at in
    (has_iff text word).1 (part.0 ++ a, b ++ part.1, sym (join_with_byte-slice_split 10 text) ∙ (part.2 ∙ word_of_part part.0 line part.1 a b word is))

-- the beginning of what follows a place is in the line
begins_in_line : (line : List ℕ) (place : ℕ) → starts_with nat_eq (drop place line) (codes "__ha") ≡ true → Has line (codes "__ha")
begins_in_line line place first =
    let word = codes "__ha" in
    let front : take 4 (drop place line) ≡ word = sym ((bytes_eq-Decides word (take 4 (drop place line))).0 first) in (
      take place line,
      drop 4 (drop place line),
      sym (take-append-drop place line) ∙ ap (λ rest. take place line ++ rest) (sym (take-append-drop 4 (drop place line)) ∙ ap (λ w. w ++ drop 4 (drop place line)) front),
    )

-- the end of an identifier is in the line, and what it begins with
ends_in_line : (line : List ℕ) (place : ℕ) (word more : List ℕ) → ends_with nat_eq (word_of (drop place line)) (word ++ more) ≡ true → Has line word
ends_in_line line place word more is =
    let after = drop place line in
    let n = run_length is_word_byte after in
    let ended = (ends_decided (word_of after) (word ++ more) true (sym is)).0 refl in (
      take place line ++ ended.0,
      more ++ drop n after,
      sym (take-append-drop place line)
          ∙ (ap (λ rest. take place line ++ rest) (sym (take-append-drop n after) ∙ (ap (λ w. w ++ drop n after) ended.1 ∙ (append_assoc ended.0 (word ++ more) (drop n after) ∙ ap (λ rest. ended.0 ++ rest) (append_assoc word more (drop n after)))))
          ∙ sym (append_assoc (take place line) ended.0 (word ++ (more ++ drop n after)))),
    )

-- a text that has each word of a line that has a test may have one
no_test_in : (text line : List ℕ) (inside : Bool) (place : ℕ) → may_have_test text ≡ false → ((word : List ℕ) → Has line word → has text word ≡ true) → is_test inside line place ≡ true → ⊥
no_test_in text line inside place none shows is =
    let after = drop place line in
    let word = word_of after in
    let begins = has text (codes "__ha") in
    let small = has text (codes "as_include") in
    let large = has text (codes "HAS_INCLUDE") in
    let embeds = has text (codes "as_embed") in
    let may : may_have_test text ≡ true = elim (or_cases _ (is_test_name word) (and_first (is_test_word after) _ (and_first (begins_word line place) _ is))) [
      | inl a ↦ or_left begins _ (shows (codes "__ha") (begins_in_line line place (and_first (starts_with nat_eq after (codes "__ha")) _ a)))
      | inr b ↦ elim (or_cases (ends_with nat_eq word (codes "as_include")) _ b) [
        | inl c ↦ or_right begins _ (or_left small _ (shows (codes "as_include") (ends_in_line line place (codes "as_include") [] c)))
        | inr d ↦ elim (or_cases (ends_with nat_eq word (codes "HAS_INCLUDE")) _ d) [
          | inl e ↦ or_right begins _ (or_right small _ (or_left large embeds (shows (codes "HAS_INCLUDE") (ends_in_line line place (codes "HAS_INCLUDE") [] e))))
          | inr f ↦ elim (or_cases (ends_with nat_eq word (codes "as_include_next")) _ f) [
            | inl g ↦ or_right begins _ (or_left small _ (shows (codes "as_include") (ends_in_line line place (codes "as_include") (codes "_next") g)))
            | inr h ↦ or_right begins _ (or_right small _ (or_right large embeds (shows (codes "as_embed") (ends_in_line line place (codes "as_embed") [] h))))
          ]
        ]
      ]
    ] in
    let both : false ≡ true = sym none ∙ may in
    cc

pub no_test : (text : List ℕ) (n place : ℕ) → may_have_test text ≡ false → n < length (text_lines text) → is_test (may_begin_open (text_lines text) n) (get_or (text_lines text) n []) place ≡ true → ⊥
no_test text n place none lt =
    let lines = text_lines text in
    let line = get_or lines n [] in
    no_test_in text line (may_begin_open lines n) place none (λ word. line_has text line word (n, lt, get_or_default lines n line [] lt))

-- the same of a line by itself
pub no_test_of_line : (line : List ℕ) (inside : Bool) (place : ℕ) → may_have_test line ≡ false → is_test inside line place ≡ true → ⊥
no_test_of_line line inside place none = no_test_in line line inside place none (λ word. (has_iff line word).1)
