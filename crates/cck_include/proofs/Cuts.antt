-- where a text is cut by the first byte of a kind
use Rattle.std.proofs.Common.{◌≡◌, ◌≢◌, ℕ, ◌+◌, ◌-◌, ◌<◌, ◌≤◌, Bool, true, false, ◌==◌, ◌||◌, List, ◌∷◌, ◌++◌, length, take, drop, get_or, refl, sym, ◌∙◌, ap, subst, arith, Some, None}
use Rattle.std.specs.Prelude.{All}
use Rattle.std.proofs.lemmas.Bool.{eqb-true, eq-eqb, ne_eqb, or_left, or_right}
use Rattle.std.proofs.lemmas.List.{get_or-take, get_or_default, length-take, take-append-drop, drop_more, take_all, length-drop}
use Rattle.memchr.specs.Find.{IsFirstByte, is_byte, is_byte2}

-- the bytes from a place on, as a slice of them reads
pub slice_from : (text : List ℕ) (place : ℕ) → take (length text - place) (drop place text) ≡ drop place text
slice_from text place = take_all (length text - place) (drop place text) (omega (arith, length-drop place text))

pub cut_at : (text : List ℕ) (place d : ℕ) → place < length text → text ≡ take place text ++ get_or text place d ∷ drop (place + 1) text
cut_at text place d l = sym (take-append-drop place text) ∙ ap (λ rest. take place text ++ rest) (drop_more text place d l)

-- the bytes before a place
all_before : (P : ℕ → Type 0) (text : List ℕ) (place : ℕ) → place ≤ length text → ((k : ℕ) → k < place → P (get_or text k 0)) → All P (take place text)
all_before P text place le h = λ k d l.
    let below : k < place = omega (arith, l, length-take place text) in
    subst P (sym (get_or-take place text k d below ∙ get_or_default text k d 0 (omega arith))) (h k below)

all_of : (P : ℕ → Type 0) (text : List ℕ) → ((k : ℕ) → k < length text → P (get_or text k 0)) → All P text
all_of P text h = λ k d l. subst P (sym (get_or_default text k d 0 l)) (h k l)

apart : (a b : ℕ) → ((a == b) ≡ true → ⊥) → a ≢ b
apart a b h e = h (eq-eqb a b e)

-- the first place of a byte
pub byte_at : (byte : ℕ) (text : List ℕ) (place : ℕ) → IsFirstByte (is_byte byte) text (Some place)
    → (text ≡ take place text ++ byte ∷ drop (place + 1) text) × All (λ v. v ≢ byte) (take place text) × (place < length text)
byte_at byte text place h = (
  subst (λ v. text ≡ take place text ++ v ∷ drop (place + 1) text) (eqb-true (get_or text place 0) byte h.1) (cut_at text place 0 h.0.high),
  all_before (λ v. v ≢ byte) text place (omega (arith, h.0.high)) (λ k l. apart (get_or text k 0) byte (h.0.before k (omega arith) l)),
  h.0.high,
)

pub byte_nowhere : (byte : ℕ) (text : List ℕ) → IsFirstByte (is_byte byte) text None → All (λ v. v ≢ byte) text
byte_nowhere byte text h = all_of (λ v. v ≢ byte) text (λ k l. apart (get_or text k 0) byte (h k (omega arith) l))

or_else : (a b : Bool) → (a || b) ≡ true → b ≡ false → a ≡ true
or_else true b h e = refl
or_else false b h e = absurd cc

neither : (a b v : ℕ) → ((v == a || v == b) ≡ true → ⊥) → (v ≢ a) × (v ≢ b)
neither a b v h = (λ e. h (or_left (v == a) (v == b) (eq-eqb v a e)), λ e. h (or_right (v == a) (v == b) (eq-eqb v b e)))

-- the first place of either of two bytes
pub pair_free : (a b : ℕ) (text : List ℕ) (place : ℕ) → IsFirstByte (is_byte2 a b) text (Some place) → All (λ v. (v ≢ a) × (v ≢ b)) (take place text)
pair_free a b text place h = all_before (λ v. (v ≢ a) × (v ≢ b)) text place (omega (arith, h.0.high)) (λ k l. neither a b (get_or text k 0) (h.0.before k (omega arith) l))

pub pair_at : (a b : ℕ) (text : List ℕ) (place d v : ℕ) → IsFirstByte (is_byte2 a b) text (Some place) → get_or text place d ≡ v → text ≡ take place text ++ v ∷ drop (place + 1) text
pair_at a b text place d v h e = subst (λ w. text ≡ take place text ++ w ∷ drop (place + 1) text) e (cut_at text place d h.0.high)

-- it is the first of the two if it isn't the second
pub pair_first : (a b : ℕ) (text : List ℕ) (place d : ℕ) → IsFirstByte (is_byte2 a b) text (Some place) → get_or text place d ≢ b → get_or text place d ≡ a
pair_first a b text place d h ne =
    let same = get_or_default text place d 0 h.0.high in
    same ∙ eqb-true (get_or text place 0) a (or_else (get_or text place 0 == a) (get_or text place 0 == b) h.1 (ne_eqb (get_or text place 0) b (λ e. ne (same ∙ e))))

pub pair_nowhere : (a b : ℕ) (text : List ℕ) → IsFirstByte (is_byte2 a b) text None → All (λ v. (v ≢ a) × (v ≢ b)) text
pair_nowhere a b text h = all_of (λ v. (v ≢ a) × (v ≢ b)) text (λ k l. neither a b (get_or text k 0) (h k (omega arith) l))
