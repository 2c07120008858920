-- Texts are told by their front coding, and one more text adds its part.
use Rattle.std.proofs.Common.{◌≡◌, ℕ, suc, Bool, true, false, List, [], ◌∷◌, ◌++◌, cond, drop, length, take, nat_eq, nat_lt, refl, sym, ap, ◌∙◌, arith, append_assoc}
use Rattle.std.specs.List.{common_prefix_len, flat_map}
use Rattle.std.proofs.lemmas.Bool.{ltb-true}
use Rattle.std.proofs.lemmas.List.{flat_map_more, take-append-drop}
use Rattle.cck_digest.specs.Frames.{length_bytes}
use Rattle.cck_digest.proofs.FrameLemmas.{length_reads_back}
use Rattle.cck_digest.proofs.ReadsBack.{ReadsBack, bytes_read_back}
use Rattle.cck_path.proofs.CommonPrefixLemmas.{same_prefix}
use Rattle.cck_cache_rules.specs.FrontCoding.{front_bytes, front_coded, front_part, short_frame, short_length}

-- the last of these texts, or this one before them
abbrev pub last_of : List ℕ → List (List ℕ) → List ℕ
last_of before [] = before
last_of before (text ∷ texts) = last_of text texts

-- one more text
pub front_coded_more : (before : List ℕ) (texts : List (List ℕ)) (text : List ℕ)
    → front_coded before (texts ++ text ∷ []) ≡ front_coded before texts ++ front_part (last_of before texts) text ∷ []
front_coded_more before [] text = refl
front_coded_more before (one ∷ texts) text = ap (λ parts. front_part before one ∷ parts) (front_coded_more one texts text)

pub last_more : (before : List ℕ) (texts : List (List ℕ)) (text : List ℕ) → last_of before (texts ++ text ∷ []) ≡ text
last_more before [] text = refl
last_more before (one ∷ texts) text = last_more one texts text

-- a text is the beginning that it shares, and what follows
restored : (before text : List ℕ) → text ≡ take (front_part before text).0 before ++ (front_part before text).1
restored before text =
    let n = common_prefix_len nat_eq before text in
    sym (take-append-drop n text) ∙ ap (λ front. front ++ drop n text) (sym (same_prefix before text n (omega arith)))

pub front_coded_tells : (before : List ℕ) (xs ys : List (List ℕ)) → front_coded before xs ≡ front_coded before ys → xs ≡ ys
front_coded_tells before [] [] e = refl
front_coded_tells before [] (y ∷ ys) e = cc
front_coded_tells before (x ∷ xs) [] e = cc
front_coded_tells before (x ∷ xs) (y ∷ ys) e =
    let first : front_part before x ≡ front_part before y = cc in
    let later : front_coded x xs ≡ front_coded y ys = cc in
    let same : x ≡ y = restored before x ∙ ap (λ part. take part.0 before ++ part.1) first ∙ sym (restored before y) in
    let rest = front_coded_tells y xs ys (ap (λ text. front_coded text xs) (sym same) ∙ later) in
    λ i. same i ∷ rest i

-- a length and bytes after theirs can be read back
pub short_length_reads_back : (n m : ℕ) → ReadsBack short_length n m
short_length_reads_back n m s t e = by (nat_lt n 255) (nat_lt m 255) refl refl e
  where
    by : (a b : Bool) → nat_lt n 255 ≡ a → nat_lt m 255 ≡ b
        → cond a (n ∷ []) (255 ∷ length_bytes n) ++ s ≡ cond b (m ∷ []) (255 ∷ length_bytes m) ++ t → (n ≡ m) × (s ≡ t)
    by true true small also same = (cc, cc)
    by true false small large same = let first : n ≡ 255 = cc in absurd (omega (arith, ltb-true n 255 small))
    by false true large small same = let first : ◌≡◌ {A = ℕ} 255 m = cc in absurd (omega (arith, ltb-true m 255 small))
    by false false large also same = let rest : length_bytes n ++ s ≡ length_bytes m ++ t = cc in length_reads_back n m s t rest

short_frame_reads_back : (x y : List ℕ) → ReadsBack short_frame x y
short_frame_reads_back x y s t e =
    let split = sym (append_assoc (short_length (length x)) x s) ∙ (e ∙ append_assoc (short_length (length y)) y t) in
    let (lengths, after) = short_length_reads_back (length x) (length y) (x ++ s) (y ++ t) split in
    bytes_read_back x y s t lengths after

pub front_bytes_read_back : (p q : ℕ × List ℕ) → ReadsBack front_bytes p q
front_bytes_read_back p q s t e =
    let split = sym (append_assoc (short_length p.0) (short_frame p.1) s) ∙ (e ∙ append_assoc (short_length q.0) (short_frame q.1) t) in
    let (numbers, after) = short_length_reads_back p.0 q.0 (short_frame p.1 ++ s) (short_frame q.1 ++ t) split in
    let (rests, last) = short_frame_reads_back p.1 q.1 s t after in
    (λ i. (numbers i, rests i), last)

-- the bytes of one more text
pub front_bytes_more : (fed : List ℕ) (texts : List (List ℕ)) (before text : List ℕ) (n : ℕ) → before ≡ last_of [] texts → n ≡ common_prefix_len nat_eq before text
    → (((fed ++ flat_map front_bytes (front_coded [] texts)) ++ short_length n) ++ short_frame (drop n text)) ≡ fed ++ flat_map front_bytes (front_coded [] (texts ++ text ∷ []))
front_bytes_more fed texts before text n last is =
    let part : front_bytes (n, drop n text) ≡ front_bytes (front_part (last_of [] texts) text) = ap (λ m. front_bytes (m, drop m text)) (is ∙ ap (λ b. common_prefix_len nat_eq b text) last) in
    append_assoc (fed ++ flat_map front_bytes (front_coded [] texts)) (short_length n) (short_frame (drop n text))
    ∙ ap (λ bytes. (fed ++ flat_map front_bytes (front_coded [] texts)) ++ bytes) part
    ∙ flat_map_more front_bytes fed (front_coded [] texts) (front_part (last_of [] texts) text)
    ∙ ap (λ parts. fed ++ flat_map front_bytes parts) (sym (front_coded_more [] texts text))

-- there are as many parts as texts
pub front_coded_length : (before : List ℕ) (texts : List (List ℕ)) → length (front_coded before texts) ≡ length texts
front_coded_length before [] = refl
front_coded_length before (text ∷ texts) = ap suc (front_coded_length text texts)
