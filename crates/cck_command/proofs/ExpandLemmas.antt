-- Expanding piece by piece, and lines one by one.
use Rattle.std.proofs.Common.{◌≡◌, ℕ, zero, suc, ◌+◌, ◌-◌, ◌<◌, ◌≤◌, [], ◌∷◌, ◌++◌, length, get_or, refl, ap, sym, ◌∙◌, drop, take, Option, Some, None, Bool, true, false, nat_lt, arith, cond, length-drop, ltb-true, ltb-false}
use Rattle.std.specs.List.{position, position_or_len, starts_with}
use Rattle.std.specs.Prelude.{codes, nat_eq}
use Rattle.std.proofs.lemmas.Bool.{false_from_ne_true}
use Rattle.std.proofs.lemmas.Bool.Decides.{Decides-eqb, nat_tests}
use Rattle.std.proofs.lemmas.List.{append-nil, get_or-drop, length-append, take-append-le, take_all}
use Rattle.std.proofs.lemmas.Slice.Eq.{starts_is}
use Rattle.memchr.proofs.lemmas.MatchLemmas.{OccursAt-from_part}
use Rattle.memchr.specs.Find.{OccursAt}
use Rattle.cck_path.specs.Bytes.{Bytes}
use Rattle.cck_command.specs.MiniPrinted.{Macros, macro_at, piece_or, expanded, expanded_after, lines_in, onto_line, is_lf}

pub tail_range : (text : Bytes) (k : ℕ) → drop k text ≡ take (length text - k) (drop k text)
tail_range text k = let h : length (drop k text) ≤ length text - k = simp length-drop (omega arith) in sym (take_all (length text - k) (drop k text) h)

-- bytes inside a macro are dropped
skipped : (m : Macros) (k : ℕ) (text : Bytes) → expanded_after m k text ≡ expanded_after m 0 (drop k text)
skipped m zero text = refl
skipped m (suc k) [] = refl
skipped m (suc k) (b ∷ bs) = skipped m k bs

skipped_one : (m : Macros) (n : ℕ) (b : ℕ) (bs : Bytes) → 0 < n → expanded_after m (n - 1) bs ≡ expanded_after m 0 (drop n (b ∷ bs))
skipped_one m zero b bs h = absurd (omega arith)
skipped_one m (suc k) b bs h = let e : suc k - 1 ≡ k = omega arith in rw e (skipped m k bs)

pub piece_found : (m : Macros) (text value : Bytes) (n : ℕ) → macro_at m text ≡ Some (value, n) → 0 < n → 0 < length text → expanded m text ≡ value ++ expanded m (take (length text - n) (drop n text))
unfolding expanded
piece_found m [] value n e p h = absurd (omega arith)
piece_found m (b ∷ bs) value n e p h = ap (λ found. piece_or found (b ∷ expanded_after m 0 bs) (λ k. expanded_after m k bs)) e ∙ ap (λ t. value ++ t) (skipped_one m n b bs p ∙ ap (λ t. expanded_after m 0 t) (tail_range (b ∷ bs) n))

-- bytes at which no macro begins are kept
plain_bytes : (m : Macros) (size : ℕ) (text : Bytes) → size ≤ length text → ((place : ℕ) → place < size → macro_at m (drop place text) ≡ None)
    → expanded m text ≡ take size text ++ expanded m (drop size text)
unfolding expanded
plain_bytes m zero text within none = refl
plain_bytes m (suc size) [] within none = absurd (omega arith)
plain_bytes m (suc size) (b ∷ bs) within none =
    ap (λ found. piece_or found (b ∷ expanded_after m 0 bs) (λ k. expanded_after m k bs)) (none 0 (omega arith))
    ∙ ap (λ t. b ∷ t) (plain_bytes m size bs (omega arith) (λ place l. none (suc place) (omega arith)))

-- no macro begins where no two underscores are
no_macro : (m : Macros) (text : Bytes) (place : ℕ) → (OccursAt text (codes "__") place → ⊥) → macro_at m (drop place text) ≡ None
unfolding macro_at
no_macro m text place free = rw (miss (codes "__DATE__") refl (omega arith), miss (codes "__TIME__") refl (omega arith), miss (codes "__TIMESTAMP__") refl (omega arith)) refl
  where
    miss : (word : Bytes) → take 2 word ≡ codes "__" → 2 ≤ length word → starts_with nat_eq (drop place text) word ≡ false
    miss word begins long = false_from_ne_true _ (λ e.
        let is = (starts_is Decides-eqb (drop place text) word (starts_with nat_eq (drop place text) word) refl).0 e in
        free (OccursAt-from_part text (codes "__") place (omega (arith, ap length is, length-append word (drop (length word) (drop place text)), length-drop place text))
        (ap (take 2) is ∙ take-append-le 2 word (drop (length word) (drop place text)) long ∙ begins)))

-- a word after the first byte is in the text without that byte
pub occurs_after : (text word : Bytes) (place : ℕ) → 0 < place → OccursAt text word place → OccursAt (take (length text - 1) (drop 1 text)) word (place - 1)
occurs_after text word place some at =
    rw (← tail_range text 1) (record {
      fits = omega (arith, at.fits, length-drop 1 text, some);
      reads = λ j l. get_or-drop 1 text (place - 1 + j) 0 ∙ ap (λ (k : ℕ). get_or text k 0) (omega (arith, some)) ∙ at.reads j l;
    })

pub piece_plain : (m : Macros) (text : Bytes) (size : ℕ) → macro_at m text ≡ None → size ≤ length text → ((place : ℕ) → 0 < place → place < size → OccursAt text (codes "__") place → ⊥)
    → expanded m text ≡ take size text ++ expanded m (take (length text - size) (drop size text))
piece_plain m text size first within nowhere =
    plain_bytes m size text within each ∙ ap (λ t. take size text ++ expanded m t) (tail_range text size)
  where
    each : (place : ℕ) → place < size → macro_at m (drop place text) ≡ None
    each zero l = first
    each (suc place) l = no_macro m text (suc place) (nowhere (suc place) (omega arith) l)

pub expand_end : (m : Macros) (left out whole : Bytes) → length left ≡ 0 → out ++ expanded m left ≡ whole → out ≡ whole
unfolding expanded
expand_end m [] out whole z h = sym (append-nil out) ∙ h
expand_end m (b ∷ bs) out whole z h = absurd (omega arith)

-- lines, one by one
line_none_step : (x : ℕ) (xs : Bytes) (b : Bool) → is_lf x ≡ b → length (x ∷ xs) ≤ position_or_len is_lf (x ∷ xs) → ((length xs ≤ position_or_len is_lf xs) → 0 < length xs → lines_in xs ≡ (xs, []) ∷ []) → lines_in (x ∷ xs) ≡ (x ∷ xs, []) ∷ []
line_none_step x xs true e h next = let h2 = rw e at h in absurd (omega arith)
line_none_step x [] false e h next = rw e refl
line_none_step x (y ∷ ys) false e h next = let h2 = rw e at h in rw e (ap (onto_line x) (next (omega arith) (omega arith)))

pub line_none : (s : Bytes) → length s ≤ position_or_len is_lf s → 0 < length s → lines_in s ≡ (s, []) ∷ []
line_none [] h p = absurd (omega arith)
line_none (x ∷ xs) h p = line_none_step x xs (is_lf x) refl h (line_none xs)

none_if : (s : Bytes) (b : Bool) → nat_lt (position_or_len is_lf s) (length s) ≡ b → ◌≡◌ {A = Option ℕ} None (cond b (Some (position_or_len is_lf s)) None) → 0 < length s → lines_in s ≡ (s, []) ∷ []
none_if s true e h p = cc
none_if s false e h p = line_none s (ltb-false _ _ e) p

pub line_none_at : (s : Bytes) → ◌≡◌ {A = Option ℕ} None (position is_lf s) → 0 < length s → lines_in s ≡ (s, []) ∷ []
line_none_at s h p = none_if s (nat_lt (position_or_len is_lf s) (length s)) refl h p

is_ten : (x : ℕ) → is_lf x ≡ true → x ≡ 10
is_ten x e = grind (arith, nat_tests)

line_some_step : (x : ℕ) (xs : Bytes) (b : Bool) (q : ℕ) → is_lf x ≡ b → q ≡ position_or_len is_lf xs → ((q < length xs) → lines_in xs ≡ (take q xs, take 1 (drop q xs)) ∷ lines_in (drop (suc q) xs))
    → (p : ℕ) → p ≡ position_or_len is_lf (x ∷ xs) → p < length (x ∷ xs) → lines_in (x ∷ xs) ≡ (take p (x ∷ xs), take 1 (drop p (x ∷ xs))) ∷ lines_in (drop (suc p) (x ∷ xs))
line_some_step x xs true q e qe next p h lt = let z : p ≡ 0 = rw e at h in let t = is_ten x e in rw z (rw e (ap (λ y. ([], y ∷ []) ∷ lines_in xs) (sym t)))
line_some_step x xs false q e qe next p h lt = let h2 = rw e at h in let z : p ≡ suc q = omega arith in let r : q < length xs = omega arith in rw z (rw e (ap (onto_line x) (next r)))

pub line_some : (s : Bytes) (p : ℕ) → p ≡ position_or_len is_lf s → p < length s → lines_in s ≡ (take p s, take 1 (drop p s)) ∷ lines_in (drop (suc p) s)
line_some [] p h lt = absurd (omega arith)
line_some (x ∷ xs) p h lt = line_some_step x xs (is_lf x) (position_or_len is_lf xs) refl refl (line_some xs (position_or_len is_lf xs) refl) p h lt

some_if : (s : Bytes) (p : ℕ) (b : Bool) → nat_lt (position_or_len is_lf s) (length s) ≡ b → Some p ≡ cond b (Some (position_or_len is_lf s)) None → lines_in s ≡ (take p s, take 1 (drop p s)) ∷ lines_in (drop (suc p) s)
some_if s p true e h = let q : p ≡ position_or_len is_lf s = cc in let u = ltb-true _ _ e in line_some s p q (omega arith)
some_if s p false e h = cc

pub line_some_at : (s : Bytes) (p : ℕ) → Some p ≡ position is_lf s → lines_in s ≡ (take p s, take (p + 1 - p) (drop p s)) ∷ lines_in (take (length s - (p + 1)) (drop (p + 1) s))
line_some_at s p h = let a : 1 ≡ p + 1 - p = omega arith in let b : suc p ≡ p + 1 = omega arith in some_if s p (nat_lt (position_or_len is_lf s) (length s)) refl h ∙ ap (λ n. (take p s, take n (drop p s)) ∷ lines_in (drop (suc p) s)) a ∙ ap (λ n. (take p s, take (p + 1 - p) (drop p s)) ∷ lines_in (drop n s)) b ∙ ap (λ t. (take p s, take (p + 1 - p) (drop p s)) ∷ lines_in t) (tail_range s (p + 1))
