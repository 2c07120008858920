-- Parts of a text and words of a line, one after another.
use Rattle.std.proofs.Common.{◌≡◌, ℕ, ◌+◌, ◌<◌, ◌≤◌, ◌==◌, List, [], ◌∷◌, ◌++◌, length, refl, ap, sym, ◌∙◌, append_assoc, Option, Some, None, Bool, true, false, nat_lt, arith, length-drop, cond, ltb-true, ltb-false}
use Rattle.std.specs.Global.{Vec}
use Rattle.std.specs.List.{slice_split, position_or_len, onto_first}
use Rattle.std.proofs.lemmas.List.Splits.{slice_split_first}
use Rattle.std.proofs.lemmas.List.{map-append}
use Rattle.cck_path.specs.Bytes.{Bytes, lists_of}
use Rattle.cck_command.specs.ScriptWords.{cut, parts_at, word, with_rest, next_word, with_word, all_words}

-- the parts that are left after a separator, if there is one
abbrev pub parts_left : ℕ → Option Bytes → List Bytes
parts_left c None = []
parts_left c (Some s) = slice_split (λ b. b == c) s

-- how much is left: one more than the bytes after a separator
abbrev pub left_size : Option Bytes → ℕ
left_size None = 0
left_size (Some s) = length s + 1

module _ (c : ℕ) where
  abbrev is_end : ℕ → Bool
  is_end b = b == c

  none_step : (x : ℕ) (xs : List ℕ) (b : Bool) → is_end x ≡ b → (length xs ≤ position_or_len is_end xs → slice_split is_end xs ≡ xs ∷ []) → length (x ∷ xs) ≤ position_or_len is_end (x ∷ xs) → slice_split is_end (x ∷ xs) ≡ (x ∷ xs) ∷ []
  none_step x xs true e next h = let h2 = rw e at h in absurd (omega arith)
  none_step x xs false e next h = let h2 = rw e at h in rw e (ap (onto_first x) (next (omega arith)))

  none_split : (s : List ℕ) → length s ≤ position_or_len is_end s → slice_split is_end s ≡ s ∷ []
  none_split [] h = refl
  none_split (x ∷ xs) h = none_step x xs (is_end x) refl (none_split xs) h

  split_if : (s : List ℕ) (b : Bool) → nat_lt (position_or_len is_end s) (length s) ≡ b → slice_split is_end s ≡ (parts_at (cond b (Some (position_or_len is_end s)) None) s).0 ∷ parts_left c ((parts_at (cond b (Some (position_or_len is_end s)) None) s).1)
  split_if s true e = slice_split_first is_end s 0 (ltb-true _ _ e)
  split_if s false e = none_split s (ltb-false _ _ e)

  -- a text is its first part, and the parts after the first separator
  pub split_cut : (s : List ℕ) → slice_split is_end s ≡ (cut c s).0 ∷ parts_left c ((cut c s).1)
  unfolding cut
  split_cut s = split_if s (nat_lt (position_or_len is_end s) (length s)) refl

  cut_falls : (s : List ℕ) (b : Bool) → nat_lt (position_or_len is_end s) (length s) ≡ b → left_size ((parts_at (cond b (Some (position_or_len is_end s)) None) s).1) < left_size (Some s)
  cut_falls s true e = let h = ltb-true _ _ e in simp length-drop (omega arith)
  cut_falls s false e = omega arith

  -- less is left after a part than before it
  pub rest_falls : (s : List ℕ) → left_size ((cut c s).1) < left_size (Some s)
  unfolding cut
  rest_falls s = cut_falls s (nat_lt (position_or_len is_end s) (length s)) refl

-- words before the words of what is left
abbrev pub put_before : List Bytes → Option (List Bytes) → Option (List Bytes)
put_before front None = None
put_before front (Some ws) = Some (front ++ ws)

-- the words of what is left after a space, if there is one
abbrev pub words_left : Option Bytes → Option (List Bytes)
words_left rest = all_words (parts_left 32 rest)

abbrev first : Option (Bytes × Option Bytes) → Bytes
first None = []
first (Some p) = p.0

abbrev second : Option (Bytes × Option Bytes) → Option Bytes
second None = None
second (Some p) = p.1

words_next : (s : Bytes) → words_left (Some s) ≡ with_word (word ((cut 32 s).0)) (words_left ((cut 32 s).1))
words_next s = ap all_words (split_cut 32 s)

before_one : (w : Bytes) (rest : Option (List Bytes)) → with_word (Some w) rest ≡ put_before (w ∷ []) rest
before_one w None = refl
before_one w (Some ws) = refl

one_more : (x y : Option Bytes) (w : Bytes) (r : Option Bytes) → with_rest x y ≡ Some (w, r) → with_word x (words_left y) ≡ put_before (w ∷ []) (words_left r)
one_more None y w r e = cc
one_more (Some v) y w r e = before_one v (words_left y) ∙ ap (λ a. put_before (a ∷ []) (words_left y)) (ap first e) ∙ ap (λ a. put_before (w ∷ []) (words_left a)) (ap second e)

no_more : (x y : Option Bytes) (rest : Option (List Bytes)) → with_rest x y ≡ None → with_word x rest ≡ None
no_more None y rest e = refl
no_more (Some v) y rest e = cc

rest_of : (x y : Option Bytes) (w : Bytes) (r : Option Bytes) → with_rest x y ≡ Some (w, r) → y ≡ r
rest_of None y w r e = cc
rest_of (Some v) y w r e = ap second e

put_before-append : (a b : List Bytes) (t : Option (List Bytes)) → put_before (a ++ b) t ≡ put_before a (put_before b t)
put_before-append a b None = refl
put_before-append a b (Some t) = ap Some (append_assoc a b t)

-- where the next word is wrong, there are no words
pub words_none : (front : List Bytes) (whole : Option (List Bytes)) (s : Bytes) → whole ≡ put_before front (words_left (Some s)) → next_word (Some s) ≡ None → whole ≡ None
unfolding next_word
words_none front whole s h e = h ∙ ap (put_before front) (words_next s ∙ no_more (word ((cut 32 s).0)) ((cut 32 s).1) _ e)

-- less is left after a word than before it
pub words_fall : (s w : Bytes) (r : Option Bytes) → next_word (Some s) ≡ Some (w, r) → left_size r < left_size (Some s)
unfolding next_word
words_fall s w r e = let p = rest_of (word ((cut 32 s).0)) ((cut 32 s).1) w r e in rw (← p) (rest_falls 32 s)

words_more : (front : List Bytes) (whole : Option (List Bytes)) (s w : Bytes) (r : Option Bytes) → whole ≡ put_before front (words_left (Some s)) → next_word (Some s) ≡ Some (w, r) → whole ≡ put_before (front ++ w ∷ []) (words_left r)
unfolding next_word
words_more front whole s w r h e =
    h ∙ ap (put_before front) (words_next s ∙ one_more (word ((cut 32 s).0)) ((cut 32 s).1) w r e) ∙ sym (put_before-append front (w ∷ []) (words_left r))

-- one word more, and the words of what is left
pub words_pushed : (items after : List (Vec ℕ)) (more : Vec ℕ) (whole : Option (List Bytes)) (s : Bytes) (r : Option Bytes) → after ≡ items ++ more ∷ []
    → whole ≡ put_before (lists_of items) (words_left (Some s)) → next_word (Some s) ≡ Some (more.items, r) → whole ≡ put_before (lists_of after) (words_left r)
words_pushed items after more whole s r a h e =
    words_more (lists_of items) whole s more.items r h e ∙ ap (λ f. put_before f (words_left r)) (sym (map-append (λ (v : Vec ℕ). v.items) items (more ∷ [])) ∙ ap lists_of (sym a))

-- less is left after a part that was cut off than before it
pub cut_less : (c : ℕ) (s front : Bytes) (rest : Option Bytes) → (front, rest) ≡ cut c s → left_size rest < left_size (Some s)
cut_less c s front rest e = rw (ap (λ (p : Bytes × Option Bytes). left_size p.1) e) (rest_falls c s)
