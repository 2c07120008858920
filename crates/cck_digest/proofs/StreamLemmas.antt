-- What a sink has taken of a reader.
use Rattle.std.proofs.Common.{◌≡◌, ℕ, ◌<◌, ◌≤◌, arith, List, [], ◌∷◌, ◌++◌, length, length-take-le, Option, Some, None, IfSome, Result, Ok, Err, IfOk, take, refl, sym, ap, ◌∙◌, subst, append_assoc, All, Vec, Global}
use Rattle.std.specs.Prelude.{OnErr, if◌then◌else◌, is_ok}
use Rattle.std.specs.List.{FoldsTo}
use Rattle.std.specs.Io.KnownBytes.{Consumes, IsAtEnd, Keeps}
use Rattle.std.proofs.lemmas.Fn.{FoldsTo-push}
use Rattle.std.proofs.lemmas.List.{append-nil, flat_map_more}
use Rattle.std.proofs.lemmas.List.Elements.{All-nil, All-push}
use Rattle.cck_digest.specs.Stream.{HasTaken, IsPiece, TakesBeginning, buffer_size, concatenation}

-- what is consumed of a reader in two steps
consumes_more : (old new newer : Option (List ℕ)) (front piece : List ℕ) → Consumes old new front → Consumes new newer piece → Consumes old newer (front ++ piece)
consumes_more None new newer front piece first second = tt
consumes_more (Some stream) None newer front piece first second = absurd first
consumes_more (Some stream) (Some left) None front piece first second = absurd second
consumes_more (Some stream) (Some left) (Some rest) front piece first second = first ∙ ap (λ x. front ++ x) second ∙ sym (append_assoc front piece rest)

concatenation-push : (pieces : List (List ℕ)) (piece : List ℕ) → concatenation pieces ++ piece ≡ concatenation (pieces ++ piece ∷ [])
concatenation-push pieces piece = flat_map_more (λ p. p) [] pieces piece

concatenation-append : (xs ys : List (List ℕ)) → concatenation (xs ++ ys) ≡ concatenation xs ++ concatenation ys
concatenation-append [] ys = refl
concatenation-append (x ∷ xs) ys = ap (λ bytes. x ++ bytes) (concatenation-append xs ys) ∙ sym (append_assoc x (concatenation xs) (concatenation ys))

-- at first no piece was taken
pub HasTaken-nothing : {S : Type 0} (takes : S → List ℕ → S → Type 0) (sink : S) (known : Option (List ℕ)) → HasTaken takes sink sink known known
HasTaken-nothing takes sink None = ([], refl, All-nil IsPiece, tt)
HasTaken-nothing takes sink (Some stream) = ([], refl, All-nil IsPiece, refl)

-- after another piece
pub HasTaken-push : {S : Type 0} (takes : S → List ℕ → S → Type 0) (first now later : S) (old new newer : Option (List ℕ)) (piece : List ℕ)
    → HasTaken takes first now old new → takes now piece later → IsPiece piece → Consumes new newer piece → HasTaken takes first later old newer
HasTaken-push takes first now later old new newer piece (pieces, folds, small, consumed) taking fits more = (
  pieces ++ piece ∷ [],
  FoldsTo-push takes first pieces now piece later folds taking,
  All-push IsPiece pieces piece small fits,
  subst (Consumes old newer) (concatenation-push pieces piece) (consumes_more old new newer (concatenation pieces) piece consumed more),
)

-- what one read gives is a piece
pub read_is_piece : (count : ℕ) (buffer : List ℕ) → 0 < count → count ≤ length buffer → length buffer ≡ buffer_size → IsPiece (take count buffer)
read_is_piece count buffer some within room =
    let long = length-take-le count buffer within in
    (omega (arith, long), omega (arith, long))

-- a failed read consumes nothing
consumes_kept : (old new newer : Option (List ℕ)) (bytes : List ℕ) → Consumes old new bytes → Keeps new newer → Consumes old newer bytes
consumes_kept None new newer bytes consumed kept = tt
consumes_kept (Some stream) None newer bytes consumed kept = absurd consumed
consumes_kept (Some stream) (Some left) None bytes consumed kept = absurd kept
consumes_kept (Some stream) (Some left) (Some rest) bytes consumed kept = consumed ∙ ap (λ x. bytes ++ x) (sym kept)

pub HasTaken-kept : {S : Type 0} (takes : S → List ℕ → S → Type 0) (first now : S) (old new newer : Option (List ℕ))
    → HasTaken takes first now old new → Keeps new newer → HasTaken takes first now old newer
HasTaken-kept takes first now old new newer (pieces, folds, small, consumed) kept = (pieces, folds, small, consumes_kept old new newer (concatenation pieces) consumed kept)

-- at the end of the reader the pieces are its whole stream
whole_stream : (old new : Option (List ℕ)) (bytes : List ℕ) → Consumes old new bytes → IsAtEnd new → IfSome old (λ stream. stream ≡ bytes)
whole_stream None new bytes consumed ended = tt
whole_stream (Some stream) None bytes consumed ended = absurd consumed
whole_stream (Some stream) (Some left) bytes consumed ended = consumed ∙ (ap (λ x. bytes ++ x) ended ∙ append-nil bytes)

pub HasTaken-end : {S : Type 0} (takes : S → List ℕ → S → Type 0) (first now : S) (old new newer : Option (List ℕ)) (count : ℕ) (buffer : List ℕ)
    → HasTaken takes first now old new → count ≡ 0 → Consumes new newer (take count buffer) → IsAtEnd newer
    → (pieces : List (List ℕ)) × FoldsTo takes first pieces now × All IsPiece pieces × IfSome old (λ stream. stream ≡ concatenation pieces)
HasTaken-end takes first now old new newer count buffer (pieces, folds, small, consumed) none more ended =
    let nothing : Consumes new newer [] = subst (λ n. Consumes new newer (take n buffer)) none more in
    let lost = subst (Consumes old newer) (append-nil (concatenation pieces)) (consumes_more old new newer (concatenation pieces) [] consumed nothing) in
    (pieces, folds, small, whole_stream old newer (concatenation pieces) lost ended)

-- the pieces of two steps
folds_on : {S : Type 0} (takes : S → List ℕ → S → Type 0) (first mid last : S) (xs ys : List (List ℕ)) → FoldsTo takes first xs mid → FoldsTo takes mid ys last → FoldsTo takes first (xs ++ ys) last
folds_on takes first mid last [] ys before after = subst (λ s. FoldsTo takes s ys last) (sym before) after
folds_on takes first mid last (x ∷ xs) ys (next, step, before) after = (next, step, folds_on takes next mid last xs ys before after)

-- a beginning of what comes after other pieces
pub begun_after : {S : Type 0} (takes : S → List ℕ → S → Type 0) (first mid last : S) (pieces : List (List ℕ)) (front back : List ℕ)
    → FoldsTo takes first pieces mid → front ≡ concatenation pieces → TakesBeginning takes mid back last → TakesBeginning takes first (front ++ back) last
begun_after takes first mid last pieces front back before whole (more, rest, after, begun) = (
  pieces ++ more,
  rest,
  folds_on takes first mid last pieces more before after,
  ap (λ x. x ++ back) whole
      ∙ ap (λ x. concatenation pieces ++ x) begun
      ∙ sym (append_assoc (concatenation pieces) (concatenation more) rest)
      ∙ ap (λ x. x ++ rest) (sym (concatenation-append pieces more)),
)

-- a beginning of bytes is one of longer bytes
pub begun_longer : {S : Type 0} (takes : S → List ℕ → S → Type 0) (first last : S) (bytes more : List ℕ) → TakesBeginning takes first bytes last → TakesBeginning takes first (bytes ++ more) last
begun_longer takes first last bytes more (pieces, rest, folds, begun) =
    (pieces, rest ++ more, folds, ap (λ x. x ++ more) begun ∙ append_assoc (concatenation pieces) rest more)

-- the empty list is a beginning
pub begun_with_nothing : {S : Type 0} (takes : S → List ℕ → S → Type 0) (sink : S) (bytes : List ℕ) → TakesBeginning takes sink bytes sink
begun_with_nothing takes sink bytes = ([], bytes, refl, refl)

-- what was taken of a reader is a beginning of its stream,
pub begun_so_far : {S : Type 0} (takes : S → List ℕ → S → Type 0) (first now : S) (old new : Option (List ℕ))
    → HasTaken takes first now old new → IfSome old (λ stream. TakesBeginning takes first stream now)
begun_so_far takes first now None new taken = tt
begun_so_far takes first now (Some stream) None (pieces, folds, small, consumed) = absurd consumed
begun_so_far takes first now (Some stream) (Some left) (pieces, folds, small, consumed) = (pieces, left, folds, consumed)

-- and still is with a beginning of another piece
pub begun_with_piece : {S : Type 0} (takes : S → List ℕ → S → Type 0) (first now later : S) (old new newer : Option (List ℕ)) (piece : List ℕ)
    → HasTaken takes first now old new → Consumes new newer piece → TakesBeginning takes now piece later → IfSome old (λ stream. TakesBeginning takes first stream later)
begun_with_piece takes first now later None new newer piece taken more begun = tt
begun_with_piece takes first now later (Some stream) None newer piece (pieces, folds, small, consumed) more begun = absurd consumed
begun_with_piece takes first now later (Some stream) (Some left) None piece (pieces, folds, small, consumed) more begun = absurd more
begun_with_piece takes first now later (Some stream) (Some left) (Some rest) piece (pieces, folds, small, consumed) more begun =
    subst (λ bytes. TakesBeginning takes first bytes later) (sym (consumed ∙ ap (λ x. concatenation pieces ++ x) more))
    (begun_after takes first now later pieces (concatenation pieces) (piece ++ rest) folds refl (begun_longer takes now later piece rest begun))

-- what holds in any case holds after an error
pub after_error : {T E : Type 0} (r : Result T E) (P : Type 0) → P → OnErr r P
after_error (Ok x) P p = tt
after_error (Err e) P p = p

-- a vector takes nothing where memory is lacking
pub vector_failed : {T E : Type 0} (r : Result T E) (before after : Vec ℕ Global) (piece : List ℕ) → after.items ≡ (if is_ok r then before.items ++ piece else before.items)
    → OnErr r (TakesBeginning (λ old bytes new. new.items ≡ old.items ++ bytes) before piece after)
vector_failed (Ok x) before after piece is = tt
vector_failed (Err e) before after piece is = ([] ∷ [], piece, (after, is ∙ sym (append-nil before.items), refl), refl)

-- what each piece preserves of a sink and its stream holds of the whole stream
pub holds_after : {S : Type 0} (takes : S → List ℕ → S → Type 0) (holds : S → List ℕ → Type 0)
    → ((before : S) (piece : List ℕ) (after : S) → takes before piece after → (fed : List ℕ) → holds before fed → holds after (fed ++ piece))
    → (pieces : List (List ℕ)) (first last : S) → FoldsTo takes first pieces last → (fed : List ℕ) → holds first fed → holds last (fed ++ concatenation pieces)
holds_after takes holds keeps [] first last folds fed h =
    subst (λ x. holds x (fed ++ [])) folds (subst (holds first) (sym (append-nil fed)) h)
holds_after takes holds keeps (piece ∷ pieces) first last (mid, step, folds) fed h =
    subst (holds last) (append_assoc fed piece (concatenation pieces))
    (holds_after takes holds keeps pieces mid last folds (fed ++ piece) (keeps first piece mid step fed h))

-- the same from an empty stream to the reader's stream
pub holds_of_stream : {S : Type 0} (takes : S → List ℕ → S → Type 0) (holds : S → List ℕ → Type 0)
    → ((before : S) (piece : List ℕ) (after : S) → takes before piece after → (fed : List ℕ) → holds before fed → holds after (fed ++ piece))
    → (first last : S) (known : Option (List ℕ))
    → (pieces : List (List ℕ)) × FoldsTo takes first pieces last × All IsPiece pieces × IfSome known (λ stream. stream ≡ concatenation pieces)
    → holds first [] → IfSome known (λ stream. holds last stream)
holds_of_stream takes holds keeps first last None read h = tt
holds_of_stream takes holds keeps first last (Some stream) (pieces, folds, small, whole) h =
    subst (holds last) (sym whole) (holds_after takes holds keeps pieces first last folds [] h)

-- what a part of the sink has taken
pub part_taken : {S T : Type 0} (takes : S → List ℕ → S → Type 0) (part_takes : T → List ℕ → T → Type 0) (part : S → T)
    → ((before : S) (piece : List ℕ) (after : S) → takes before piece after → part_takes (part before) piece (part after))
    → (pieces : List (List ℕ)) (first last : S) → FoldsTo takes first pieces last → FoldsTo part_takes (part first) pieces (part last)
part_taken takes part_takes part taken [] first last folds = ap part folds
part_taken takes part_takes part taken (piece ∷ pieces) first last (mid, step, folds) =
    (part mid, taken first piece mid step, part_taken takes part_takes part taken pieces mid last folds)

-- what a result says of every list with a property, it says of the reader's stream
pub stream_is_known : {T E : Type 0} (r : Result T E) (known : Option (List ℕ)) (holds : List ℕ → Type 0) (claim : T → List ℕ → Type 0)
    → IfOk r (λ x. (fed : List ℕ) → holds fed → claim x fed) → IfSome known holds → IfOk r (λ x. IfSome known (claim x))
stream_is_known (Ok x) None holds claim says h = tt
stream_is_known (Ok x) (Some stream) holds claim says h = says stream h
stream_is_known (Err e) known holds claim says h = tt
