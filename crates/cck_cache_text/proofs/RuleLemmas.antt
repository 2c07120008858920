-- The names of a rule are read in one way.
use Rattle.std.proofs.Common.{◌≡◌, ℕ, true, ◌&&◌, ◌==◌, List, [], ◌∷◌, ◌++◌, Some, refl, sym, ap, inl, inr, ◌∙◌, append_assoc}
use Rattle.std.specs.List.{flat_map, list_all}
use Rattle.std.proofs.lemmas.Bool.{or_cases, and_parts}
use Rattle.std.proofs.lemmas.Bool.Decides.{Decides-eqb}
use Rattle.std.proofs.lemmas.List.{append-nil}
use Rattle.cck_cache_text.specs.Rule.{IsRule, after_target, ends_rule, is_pair, is_piece, is_quoted, is_single, names_of, piece_text}
use Rattle.cck_cache_text.specs.declared.rule.Piece.{Piece}
use Rattle.cck_cache_text.specs.declared.rule.Piece.TheVariants.{One, Two}

-- a byte that quotes another one does not stand by itself
single_pair : (byte second : ℕ) → is_single byte ≡ true → is_pair byte second ≡ true → ⊥
single_pair byte second one two =
    elim (or_cases (byte == 92 && is_quoted second) (byte == 36 && second == 36) two) [
      | inl a ↦ (let same = (Decides-eqb byte 92).0 (and_parts (byte == 92) (is_quoted second) a).0 in let none = rw same at one in cc)
      | inr a ↦ (let same = (Decides-eqb byte 36).0 (and_parts (byte == 36) (second == 36) a).0 in let none = rw same at one in cc)
    ]

-- two lists that are equal begin with the same piece
pub first_same : (a b : Piece) (s t : List ℕ) → is_piece a ≡ true → is_piece b ≡ true → piece_text a ++ s ≡ piece_text b ++ t → (a ≡ b) × (s ≡ t)
first_same (One x) (One y) s t first second e = (cc, cc)
first_same (One x) (Two y z) s t first second e = (let same : x ≡ y = cc in absurd (single_pair y z (rw same at first) second))
first_same (Two x w) (One y) s t first second e = (let same : x ≡ y = cc in absurd (single_pair y w second (rw same at first)))
first_same (Two x w) (Two y z) s t first second e = (cc, cc)

-- the line feed at the end of a rule is no piece
pub no_piece_ends : (piece : Piece) (s : List ℕ) → is_piece piece ≡ true → ends_rule (piece_text piece ++ s) ≡ true → ⊥
no_piece_ends (One byte) s is ends = let same = (Decides-eqb byte 10).0 (and_parts (byte == 10) _ ends).0 in let none = rw same at is in cc
no_piece_ends (Two byte second) s is ends = let same = (Decides-eqb byte 10).0 (and_parts (byte == 10) _ ends).0 in let none = rw same at is in cc

-- pieces that begin with these pieces
record Begins (pieces done : List Piece) (end rest : List ℕ) : Type 0 where
  left : List Piece
  are : pieces ≡ done ++ left
  are_pieces : list_all is_piece left ≡ true
  is : flat_map piece_text left ++ end ≡ rest

begins : (pieces done : List Piece) (end rest : List ℕ) → list_all is_piece pieces ≡ true → list_all is_piece done ≡ true → ends_rule end ≡ true → flat_map piece_text pieces ++ end ≡ flat_map piece_text done ++ rest
    → Begins pieces done end rest
begins pieces [] end rest all others ends e = record { left = pieces; are = refl; are_pieces = all; is = e }
begins [] (d ∷ done) end rest all others ends e =
    absurd (no_piece_ends d (flat_map piece_text done ++ rest) (and_parts (is_piece d) (list_all is_piece done) others).0 (ap ends_rule (sym (e ∙ append_assoc (piece_text d) (flat_map piece_text done) rest)) ∙ ends))
begins (p ∷ pieces) (d ∷ done) end rest all others ends e =
    let some = and_parts (is_piece p) (list_all is_piece pieces) all in
    let known = and_parts (is_piece d) (list_all is_piece done) others in
    let both =
    first_same p d (flat_map piece_text pieces ++ end) (flat_map piece_text done ++ rest) some.0 known.0
    (sym (append_assoc (piece_text p) (flat_map piece_text pieces) end) ∙ (e ∙ append_assoc (piece_text d) (flat_map piece_text done) rest))
    in
    let more = begins pieces done end rest some.1 known.1 ends both.1 in
    let first = both.0 in
    let later = more.are in
    record { left = more.left; are = cc; are_pieces = more.are_pieces; is = more.is }

-- no piece begins these bytes
abbrev pub NoPiece : List ℕ → Type 0
NoPiece bytes = (piece : Piece) (rest : List ℕ) → is_piece piece ≡ true → bytes ≡ piece_text piece ++ rest → ⊥

-- the pieces that were read are those of each rule of the text
pub only_pieces : (text rest : List ℕ) (done : List Piece) (names : List (List ℕ)) → list_all is_piece done ≡ true → after_target text ≡ Some (flat_map piece_text done ++ rest) → NoPiece rest → IsRule text names
    → (names ≡ names_of done) × (ends_rule rest ≡ true)
only_pieces text rest done names all is none rule = go b.left b.are b.are_pieces b.is
  where
    same : flat_map piece_text rule.pieces ++ rule.rest ≡ flat_map piece_text done ++ rest
    same = let e = sym rule.is ∙ is in cc

    b : Begins rule.pieces done rule.rest rest
    b = begins rule.pieces done rule.rest rest rule.are_pieces all rule.ends same

    go : (left : List Piece) → rule.pieces ≡ done ++ left → list_all is_piece left ≡ true → flat_map piece_text left ++ rule.rest ≡ rest → (names ≡ names_of done) × (ends_rule rest ≡ true)
    go [] are pieces e = (rule.are_names ∙ ap names_of (are ∙ append-nil done), ap ends_rule (sym e) ∙ rule.ends)
    go (p ∷ left) are pieces e =
        absurd (none p (flat_map piece_text left ++ rule.rest) (and_parts (is_piece p) (list_all is_piece left) pieces).0 (sym e ∙ append_assoc (piece_text p) (flat_map piece_text left) rule.rest))
