-- A word of at most 13 bytes in a stream of two pieces is in the first piece, in the second, or across the cut between them.
use Rattle.std.proofs.Common.{◌≡◌, ℕ, ◌+◌, ◌-◌, ◌≤◌, List, [], ◌∷◌, ◌++◌, ◌⊎◌, inl, inr, length, take, drop, append_assoc, refl, sym, ap, ◌∙◌, arith, subst, length-append}
use Rattle.std.proofs.lemmas.List.{append-nil, take_all, length-drop, drop-drop, drop-append-le, take-append-drop}
use Rattle.std.proofs.Math.Seq.{take-append-add, drop-append-add}
use Rattle.cck_digest.specs.TimeMacros.{Has, last_bytes}

-- two ways to cut a list: the first part of one cut is a beginning of the first part of the other
append_split : (s p a x : List ℕ) → s ++ p ≡ a ++ x
    → ((c : List ℕ) × (s ≡ a ++ c) × (x ≡ c ++ p)) ⊎ ((c : List ℕ) × (a ≡ s ++ c) × (p ≡ c ++ x))
append_split [] p a x e = inr (a, refl, e)
append_split (y ∷ s) p [] x e = inl (y ∷ s, refl, sym e)
append_split (y ∷ s) p (z ∷ a) x e =
    let head : y ≡ z = cc in
    let tail : s ++ p ≡ a ++ x = cc in
    elim (append_split s p a x tail) [
      | inl q ↦ let eq = q.1 in inl (q.0, cc, q.2)
      | inr q ↦ let eq = q.1 in inr (q.0, cc, q.2)
    ]

-- a word in the first or in the second part is in the whole
Has-left : (s p w : List ℕ) → Has s w → Has (s ++ p) w
Has-left s p w (a, b, e) = (a, b ++ p, ap (λ x. x ++ p) e ∙ simp append_assoc)

Has-right : (s p w : List ℕ) → Has p w → Has (s ++ p) w
Has-right s p w (a, b, e) = (s ++ a, b, ap (λ x. s ++ x) e ∙ simp append_assoc)

-- an end of at most 12 bytes is an end of the last 12 bytes
last_bytes-end : (a c : List ℕ) → length c ≤ 12 → (d : List ℕ) × (last_bytes (a ++ c) ≡ d ++ c)
last_bytes-end a c h = (drop (length (a ++ c) - 12) a, drop-append-le _ a c (omega (arith, length-append a c)))

-- a beginning of at most 12 bytes is a beginning of the first 12 bytes
first-beginning : (d b : List ℕ) → length d ≤ 12 → (f : List ℕ) × (take 12 (d ++ b) ≡ d ++ f)
first-beginning d b h =
    let whole : length d + (12 - length d) ≡ 12 = omega arith in
    (take (12 - length d) b, rw whole at (take-append-add d b (12 - length d)))

joined : (t u w e c d f : List ℕ) → t ≡ e ++ c → u ≡ d ++ f → w ≡ c ++ d → t ++ u ≡ e ++ (w ++ f)
joined t u w e c d f first second word = rw (first, second, word) (simp append_assoc)

-- a word that begins in the first piece and ends in the second
crossing : (s p w a b c d : List ℕ) → length w ≤ 13 → s ≡ a ++ c → w ≡ c ++ d → p ≡ d ++ b
    → Has s w ⊎ (Has p w ⊎ Has (last_bytes s ++ take 12 p) w)
crossing s p w a b [] d h first word second =
    inr (inl ([], b, second ∙ ap (λ x. x ++ b) (sym word)))
crossing s p w a b (x ∷ c) [] h first word second =
    inl (a, [], first ∙ ap (λ y. a ++ y) (sym (append-nil (x ∷ c)) ∙ (sym word ∙ sym (append-nil w))))
crossing s p w a b (x ∷ c) (y ∷ d) h first word second =
    let long = ap length word in
    let both = length-append (x ∷ c) (y ∷ d) in
    let ends = last_bytes-end a (x ∷ c) (omega arith) in
    let begins = first-beginning (y ∷ d) b (omega arith) in
    inr (inr (
      ends.0,
      begins.0,
      joined _ _ w ends.0 (x ∷ c) (y ∷ d) begins.0
          (ap last_bytes first ∙ ends.1) (ap (λ z. take 12 z) second ∙ begins.1) word,
    ))

-- where a word of the whole can be
pub across : (s p w : List ℕ) → length w ≤ 13 → Has (s ++ p) w → Has s w ⊎ (Has p w ⊎ Has (last_bytes s ++ take 12 p) w)
across s p w h (a, b, e) = elim (append_split s p a (w ++ b) e) [
  | inr q ↦ inr (inl (q.0, b, q.2))
  | inl q ↦ elim (append_split w b q.0 p q.2) [
    | inl r ↦ crossing s p w a b q.0 r.0 h q.1 r.1 r.2
    | inr r ↦ inl (a, r.0, q.1 ∙ ap (λ x. a ++ x) r.1)
  ]
]

-- a word in the bytes around the cut is in the whole
across-back : (s p w : List ℕ) → Has (last_bytes s ++ take 12 p) w → Has (s ++ p) w
across-back s p w h =
    let n : ℕ = length s - 12 in
    let wide = Has-right (take n s) _ w (Has-left (last_bytes s ++ take 12 p) (drop 12 p) w h) in
    let same : take n s ++ ((last_bytes s ++ take 12 p) ++ drop 12 p) ≡ s ++ p =
    rw (append_assoc, take-append-drop 12 p, ← append_assoc, take-append-drop n s) refl in
    subst (λ x. Has x w) same wide

-- a word is in the whole exactly if it is in one of the three
pub Has-append : (s p w : List ℕ) → length w ≤ 13
    → (Has (s ++ p) w → Has s w ⊎ (Has (last_bytes s ++ take 12 p) w ⊎ Has p w))
    × (Has s w ⊎ (Has (last_bytes s ++ take 12 p) w ⊎ Has p w) → Has (s ++ p) w)
Has-append s p w h = (
  λ q. elim (across s p w h q) [ inl l ↦ inl l | inr r ↦ elim r [ inl x ↦ inr (inr x) | inr x ↦ inr (inl x) ] ],
  λ q. elim q [ inl l ↦ Has-left s p w l | inr r ↦ elim r [ inl x ↦ across-back s p w x | inr x ↦ Has-right s p w x ] ],
)

-- the last bytes after a long piece, and after a short one
pub last_bytes-long : (s p : List ℕ) → 12 ≤ length p → last_bytes (s ++ p) ≡ drop (length p - 12) p
last_bytes-long s p h =
    let n : length (s ++ p) - 12 ≡ length s + (length p - 12) = omega (arith, length-append s p) in
    rw n (drop-append-add s p (length p - 12))

pub last_bytes-short : (s p : List ℕ) → length p ≤ 12 → last_bytes (last_bytes s ++ take 12 p) ≡ last_bytes (s ++ p)
last_bytes-short s p h =
    let n : ℕ = length s - 12 in
    let joins : last_bytes s ++ take 12 p ≡ drop n (s ++ p) =
    ap (λ x. last_bytes s ++ x) (take_all 12 p h) ∙ sym (drop-append-le n s p (omega arith)) in
    let size = length-append s p in
    let dropped = length-drop n (s ++ p) in
    let place : n + (length (drop n (s ++ p)) - 12) ≡ length (s ++ p) - 12 = omega arith in
    ap last_bytes joins ∙ (drop-drop (length (drop n (s ++ p)) - 12) n (s ++ p) ∙ ap (λ x. drop x (s ++ p)) place)
