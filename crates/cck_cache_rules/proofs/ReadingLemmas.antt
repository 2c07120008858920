-- Frames are read in one way.
use Rattle.std.specs.Str.{bytes_eq}
use Rattle.std.proofs.lemmas.Slice.Eq.{bytes_eq-Decides}
use Rattle.std.proofs.Common.{◌≡◌, ◌≢◌, Bool, true, false, not, ◌==◌, ℕ, ◌+◌, ◌<◌, List, [], ◌∷◌, ◌++◌, length, get_or, take, Option, Some, None, inl, inr, refl, sym, ap, ◌∙◌, arith, append_assoc}
use Rattle.std.proofs.lemmas.Bool.{cases_lt}
use Rattle.std.proofs.lemmas.List.{append-nil, get_or-append-add, get_or-take, get_or_past, length-append, length-take, nil_from_length}
use Rattle.std.proofs.lemmas.Bool.Decides.{Decides-eqb}
use Rattle.std.specs.List.{flat_map}
use Rattle.cck_digest.specs.Frames.{frame, length_bytes}
use Rattle.cck_digest.proofs.FrameLemmas.{frame_reads_back, length_reads_back}
use Rattle.cck_cache_rules.specs.Frames.{frame_before}
use Rattle.cck_cache_rules.specs.Reading.{IsAny, ReadsBack, ReadsBackOf}

-- the bytes of a length
pub length-length_bytes : (n : ℕ) → length (length_bytes n) ≡ 8
unfolding length_bytes
length-length_bytes n = refl

pub length-frame : (bytes : List ℕ) → length (frame bytes) ≡ length bytes + 8
length-frame bytes = omega (arith, length-append (length_bytes (length bytes)) bytes, length-length_bytes (length bytes))

pair_same : (p q : List ℕ × List ℕ) → p.0 ≡ q.0 → p.1 ≡ q.1 → p ≡ q
pair_same p q first second = λ i. (first i, second i)

-- a frame at the beginning
pub frame_found : (bytes x rest : List ℕ) → bytes ≡ frame x ++ rest → ReadsBack frame_before bytes (Some (x, rest))
frame_found bytes x rest is = (
  sym is,
  λ other same.
      let both = frame_reads_back other.0 x other.1 rest (same ∙ is) in
      pair_same other (x, rest) both.0 both.1,
)

-- a frame after a length that is longer than what follows
pub no_frame : (bytes rest : List ℕ) (n : ℕ) → bytes ≡ length_bytes n ++ rest → length rest < n → ReadsBack frame_before bytes None
no_frame bytes rest n is short other same =
    let split = sym (append_assoc (length_bytes (length other.0)) other.0 other.1) ∙ (same ∙ is) in
    let both = length_reads_back (length other.0) n (other.0 ++ other.1) rest split in
    absurd (omega (arith, both.0, ap length both.1, length-append other.0 other.1))

-- fewer bytes than a length has
pub too_few : (bytes : List ℕ) → length bytes < 8 → ReadsBack frame_before bytes None
too_few bytes short other same =
    absurd (omega (arith, ap length same, length-append (frame other.0) other.1, length-frame other.0))

no_bytes : (x : List ℕ) (s : List ℕ) → frame x ++ s ≡ [] → ⊥
no_bytes x s e = omega (arith, ap length e, length-append (frame x) s, length-frame x)

-- a list of nothing
pub empty : {X : Type 0} (xs : List X) → (length xs == 0) ≡ true → xs ≡ []
empty xs e = nil_from_length xs ((Decides-eqb (length xs) 0).0 e)

-- a list of something
pub not_empty : {X : Type 0} (xs : List X) → (length xs == 0) ≡ false → xs ≡ [] → ⊥
not_empty [] e none = cc
not_empty (x ∷ xs) e none = cc

-- frames that begin with these frames
pub record Begins (parts done : List (List ℕ)) (rest : List ℕ) : Type 0 where
  pub left : List (List ℕ)
  pub are : parts ≡ done ++ left
  pub is : flat_map frame left ≡ rest

pub begins : (parts done : List (List ℕ)) (rest : List ℕ) → flat_map frame parts ≡ flat_map frame done ++ rest → Begins parts done rest
begins parts [] rest e = record { left = parts; are = refl; is = e }
begins [] (d ∷ done) rest e = absurd (no_bytes d (flat_map frame done ++ rest) (sym (append_assoc (frame d) (flat_map frame done) rest) ∙ sym e))
begins (p ∷ parts) (d ∷ done) rest e =
    let both = frame_reads_back p d (flat_map frame parts) (flat_map frame done ++ rest) (e ∙ append_assoc (frame d) (flat_map frame done) rest) in
    let more = begins parts done rest both.1 in
    let first = both.0 in
    let others = more.are in
    record { left = more.left; are = cc; is = more.is }

-- all frames
pub frames_found : (bytes : List ℕ) (done : List (List ℕ)) → bytes ≡ flat_map frame done → ReadsBack (flat_map frame) bytes (Some done)
frames_found bytes done is = (sym is, λ other same. only other (begins other done [] (same ∙ is ∙ sym (append-nil (flat_map frame done)))))
  where
    only : (other : List (List ℕ)) → Begins other done [] → other ≡ done
    only other b = go b.left b.are b.is
      where
        go : (left : List (List ℕ)) → other ≡ done ++ left → flat_map frame left ≡ [] → other ≡ done
        go [] are none = are ∙ append-nil done
        go (x ∷ left) are none = absurd (no_bytes x (flat_map frame left) none)

-- frames, and then no frame
pub no_frames : (bytes rest : List ℕ) (done : List (List ℕ)) → bytes ≡ flat_map frame done ++ rest → (rest ≡ [] → ⊥) → ReadsBack frame_before rest None → ReadsBack (flat_map frame) bytes None
no_frames bytes rest done is some none other same = go b.left b.is
  where
    b : Begins other done rest
    b = begins other done rest (same ∙ is)

    go : (left : List (List ℕ)) → flat_map frame left ≡ rest → ⊥
    go [] e = some (sym e)
    go (x ∷ left) e = none (x, flat_map frame left) e

-- the first of some bytes are bytes
pub front_fits : (n : ℕ) (bytes : List ℕ) → ((i : ℕ) → get_or bytes i 0 < 256) → (i : ℕ) → get_or (take n bytes) i 0 < 256
front_fits n bytes fits i =
    elim (cases_lt i n) [
      | inl lt ↦ rw (get_or-take n bytes i 0 lt) (fits i)
      | inr le ↦ rw (get_or_past (take n bytes) i 0 (omega (arith, length-take n bytes))) (omega arith)
    ]

-- what follows others are bytes
pub rest_fits : (bytes front rest : List ℕ) → bytes ≡ front ++ rest → ((i : ℕ) → get_or bytes i 0 < 256) → (i : ℕ) → get_or rest i 0 < 256
rest_fits bytes front rest is fits i =
    let here : get_or bytes (length front + i) 0 ≡ get_or rest i 0 = ap (λ (b : List ℕ). get_or b (length front + i) 0) is ∙ get_or-append-add front rest i 0 in
    omega (arith, here, fits (length front + i))

-- fewer bytes than a number has
pub no_number : (n : ℕ) (rest bytes : List ℕ) → length bytes < 8 → length_bytes n ++ rest ≡ bytes → ⊥
no_number n rest bytes short same = absurd (omega (arith, ap length same, length-append (length_bytes n) rest, length-length_bytes n))

-- what is read in two steps
pub read_twice : {X Y Z : Type 0} (Is : X → Type 0) (outer : Y → Z) (inner : X → Y) (written : Z) (middle : Y) (found : Option X) → ReadsBack outer written (Some middle) → ReadsBackOf Is inner middle found → ReadsBackOf Is (λ x. outer (inner x)) written found
read_twice Is outer inner written middle None first second = λ x right same. second x right (first.1 (inner x) same)
read_twice Is outer inner written middle (Some found) first second =
    (second.0, ap outer second.1 ∙ first.0, λ x right same. second.2 x right (first.1 (inner x) same))

-- what is read with no property
pub of_any : {X Y : Type 0} (write : X → Y) (written : Y) (found : Option X) → ReadsBack write written found → ReadsBackOf IsAny write written found
of_any write written None none = λ x right same. none x same
of_any write written (Some found) (is, one) = (tt, is, λ x right same. one x same)

pub from_any : {X Y : Type 0} (write : X → Y) (written : Y) (found : Option X) → ReadsBackOf IsAny write written found → ReadsBack write written found
from_any write written None none = λ x same. none x tt same
from_any write written (Some found) (_, is, one) = (is, λ x same. one x tt same)

-- ---- bytes that are compared

not_true : (b : Bool) → true ≡ not b → b ≡ true → ⊥
not_true true e same = cc
not_true false e same = cc

not_false : (b : Bool) → false ≡ not b → b ≡ true
not_false true e = refl
not_false false e = cc

pub differ : (xs ys : List ℕ) → true ≡ not (bytes_eq xs ys) → xs ≢ ys
differ xs ys e same = not_true (bytes_eq xs ys) e ((bytes_eq-Decides xs ys).1 same)

pub equal : (xs ys : List ℕ) → false ≡ not (bytes_eq xs ys) → xs ≡ ys
equal xs ys e = (bytes_eq-Decides xs ys).0 (not_false (bytes_eq xs ys) e)
