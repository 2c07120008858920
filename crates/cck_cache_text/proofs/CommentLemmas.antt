-- Where a comment may be open, by the signs of comments before.
use Rattle.std.proofs.Common.{◌≡◌, ℕ, zero, suc, ◌<◌, inl, inr, Bool, true, false, ◌==◌, ◌&&◌, List, [], ◌∷◌, ◌++◌, codes, nat_eq, get_or, refl, sym, ap, ◌∙◌, arith, subst}
use Rattle.std.specs.List.{starts_with}
use Rattle.std.proofs.lemmas.Bool.{and_parts, and_right, cases_lt, eqb-true, false≢true, false_from_ne_true, or_right}
use Rattle.std.proofs.lemmas.Bool.Decides.{Decides-eqb}
use Rattle.std.proofs.lemmas.Slice.Eq.{starts_is}
use Rattle.cck_digest.specs.TimeMacros.{Has, has}
use Rattle.cck_digest.proofs.HasLemmas.{has_iff}
use Rattle.cck_cache_text.specs.HeaderTests.{OpenCommentIsSeen, may_be_open, may_begin_open}

-- a text has no end of a comment
abbrev NoEnd : List ℕ → Type 0
NoEnd text = has text (codes "*/") ≡ false

no_end : (text : List ℕ) → (Has text (codes "*/") → ⊥) → NoEnd text
no_end text none = false_from_ne_true (has text (codes "*/")) (λ is. none ((has_iff text (codes "*/")).0 is))

-- nor has what follows its first byte
no_end_after : (byte : ℕ) (text : List ℕ) → NoEnd (byte ∷ text) → NoEnd text
no_end_after byte text none =
    false_from_ne_true (has text (codes "*/")) (λ is. false≢true (sym none ∙ or_right (starts_with nat_eq (byte ∷ text) (codes "*/")) (has text (codes "*/")) is))

-- nor does a slash follow a star
no_slash : (text : List ℕ) → NoEnd (42 ∷ text) → starts_with nat_eq text (codes "/") ≡ false
no_slash text none = false_from_ne_true (starts_with nat_eq text (codes "/")) (λ is.
    let found = (starts_is Decides-eqb text (codes "/") (starts_with nat_eq text (codes "/")) refl).0 is in
    false≢true (sym none ∙ (has_iff (42 ∷ text) (codes "*/")).1 ([], _, ap (λ t. 42 ∷ t) found)))

-- a comment that is open is so after one more byte, if that is not the end
stays_after : (last byte : ℕ) (text : List ℕ) → (last ≡ 42 → starts_with nat_eq (byte ∷ text) (codes "/") ≡ false) → may_be_open true 0 text ≡ true → may_be_open true byte text ≡ true
    → may_be_open true last (byte ∷ text) ≡ true
stays_after last byte text apart first next = opened (last == 47 && byte == 42) refl
  where
    slash : (last == 42 && byte == 47) ≡ true → starts_with nat_eq (byte ∷ text) (codes "/") ≡ true
    slash closes = (starts_is Decides-eqb (byte ∷ text) (codes "/") (starts_with nat_eq (byte ∷ text) (codes "/")) refl).1 text (ap (λ b. b ∷ text) (eqb-true byte 47 (and_parts (last == 42) (byte == 47) closes).1))

    closed : (b : Bool) → (last == 42 && byte == 47) ≡ b → (last == 47 && byte == 42) ≡ false → may_be_open true last (byte ∷ text) ≡ true
    closed true closes other = absurd (false≢true (sym (apart (eqb-true last 42 (and_parts (last == 42) (byte == 47) closes).0)) ∙ slash closes))
    closed false is other = rw other (rw is next)

    opened : (b : Bool) → (last == 47 && byte == 42) ≡ b → may_be_open true last (byte ∷ text) ≡ true
    opened true opens = rw opens first
    opened false other = closed (last == 42 && byte == 47) refl other

no_star : (text : List ℕ) → ◌≡◌ {A = ℕ} 0 42 → starts_with nat_eq text (codes "/") ≡ false
no_star text same = absurd (omega (arith, same))

-- it stays open where none ends
stays : (last : ℕ) (text : List ℕ) → NoEnd text → (last ≡ 42 → starts_with nat_eq text (codes "/") ≡ false) → may_be_open true last text ≡ true
stays last [] none apart = refl
stays last (byte ∷ text) none apart =
    let rest = no_end_after byte text none in
    stays_after last byte text apart (stays 0 text rest (no_star text)) (stays byte text rest (λ same. no_slash text (subst (λ (b : ℕ). NoEnd (b ∷ text)) same none)))

-- one is open after a byte, if it is in each of these ways
opens_after : (inside : Bool) (last byte : ℕ) (text : List ℕ) → may_be_open true 0 text ≡ true → may_be_open false byte text ≡ true → may_be_open inside byte text ≡ true
    → may_be_open inside last (byte ∷ text) ≡ true
opens_after inside last byte text opened closed other = first (last == 47 && byte == 42) refl
  where
    second : (b : Bool) → (last == 42 && byte == 47) ≡ b → (last == 47 && byte == 42) ≡ false → may_be_open inside last (byte ∷ text) ≡ true
    second true closes apart = rw apart (rw closes closed)
    second false is apart = rw apart (rw is other)

    first : (b : Bool) → (last == 47 && byte == 42) ≡ b → may_be_open inside last (byte ∷ text) ≡ true
    first true is = rw is opened
    first false apart = second (last == 42 && byte == 47) refl apart

-- its sign opens one
sign_opens : (inside : Bool) (last : ℕ) (rest : List ℕ) → NoEnd rest → may_be_open inside last (47 ∷ 42 ∷ rest) ≡ true
sign_opens inside last rest none = second (last == 42 && 47 == 47) refl
  where
    star : (before : Bool) → may_be_open before 47 (42 ∷ rest) ≡ true
    star before = stays 0 rest none (no_star rest)

    second : (b : Bool) → (last == 42 && 47 == 47) ≡ b → may_be_open inside last (47 ∷ 42 ∷ rest) ≡ true
    second true closes = rw (and_right (last == 47) (47 == 42) refl) (rw closes (star false))
    second false is = rw (and_right (last == 47) (47 == 42) refl) (rw is (star inside))

-- whatever is before the sign
opens : (inside : Bool) (last : ℕ) (front rest : List ℕ) → NoEnd rest → may_be_open inside last (front ++ (codes "/*" ++ rest)) ≡ true
opens inside last [] rest none = sign_opens inside last rest none
opens inside last (byte ∷ front) rest none =
    opens_after inside last byte (front ++ (codes "/*" ++ rest)) (opens true 0 front rest none) (opens false byte front rest none) (opens inside byte front rest none)

-- it is open on the lines that follow, where none ends
goes_on : (lines : List (List ℕ)) (m n : ℕ) → may_begin_open lines (suc m) ≡ true → m < n → ((k : ℕ) → m < k → k < n → NoEnd (get_or lines k [])) → may_begin_open lines n ≡ true
goes_on lines m zero here lt none = absurd (omega (arith, lt))
goes_on lines m (suc n) here lt none = elim (cases_lt m n) [
  | inl below ↦
      let before = goes_on lines m n here below (λ k gt within. none k gt (omega (arith, within))) in
      ap (λ b. may_be_open b 0 (get_or lines n [])) before ∙ stays 0 (get_or lines n []) (none n below (omega arith)) (no_star (get_or lines n []))
  | inr ge ↦ (let same : m ≡ n = omega (arith, lt) in subst (λ (i : ℕ). may_begin_open lines (suc i) ≡ true) same here)
]

pub comment_is_seen : OpenCommentIsSeen
comment_is_seen lines m n front rest lt is ended none =
    let here : may_begin_open lines (suc m) ≡ true = ap (may_be_open (may_begin_open lines m) 0) is ∙ opens (may_begin_open lines m) 0 front rest (no_end rest ended) in
    goes_on lines m n here lt (λ k gt within. no_end (get_or lines k []) (none k gt within))
