-- Reads of a file's contents, piece by piece.
use Rattle.std.proofs.Common.{◌≡◌, ℕ, ◌+◌, ◌<◌, ◌≤◌, arith, ◌∙◌, ap, sym, List, [], ◌∷◌, length, take, drop, ◌++◌, Result, Ok, Err, IsOkAnd, refl, subst, append_assoc, Vec, Global}
use Rattle.std.proofs.lemmas.Fn.{FoldsTo-push}
use Rattle.std.proofs.lemmas.List.{length-take-le, take-append-drop, take-take, take_all, drop-take, flat_map_more}
use Rattle.std.proofs.lemmas.List.Elements.{All-nil, All-push}
use Rattle.std.specs.Result.{result_unwrap_or}
use Rattle.cck_digest.specs.Stream.{IsPiece, TakesBeginning, concatenation}
use Rattle.cck_digest.specs.declared.error.FileError.{FileError}
use Rattle.cck_digest.proofs.StreamLemmas.{begun_after, begun_longer, holds_after}
use Rattle.cck_files.specs.Calls.{IsRead}
use Rattle.cck_files.specs.Contents.{TakesAll}

-- the sink took the contents up to an offset
pub record IsFed {S : Type 0} (takes : S → List ℕ → S → Type 0) (first now : S) (offset : ℕ) (contents : List ℕ) : Type 0 where
  pub within : offset ≤ length contents
  pub taken : TakesAll takes first (take offset contents) now

take_in_two : (xs : List ℕ) (a b : ℕ) → take (a + b) xs ≡ take a xs ++ take b (drop a xs)
take_in_two xs a b =
    sym (take-append-drop a (take (a + b) xs))
    ∙ ap (λ p. p ++ drop a (take (a + b) xs)) (take-take a (a + b) xs (omega arith))
    ∙ ap (λ p. take a xs ++ p) (drop-take a b xs)

-- what was read into a buffer is not longer than the buffer
beginning_is_piece : (count : ℕ) (buffer : List ℕ) → 0 < count → count ≤ length buffer → IsPiece buffer → IsPiece (take count buffer)
beginning_is_piece count buffer some within room =
    let long = length-take-le count buffer within in
    (omega (arith, long), omega (arith, long, room.1))

-- at first nothing was taken
pub IsFed-nothing : {S : Type 0} (takes : S → List ℕ → S → Type 0) (sink : S) (contents : List ℕ) → IsFed takes sink sink 0 contents
IsFed-nothing takes sink contents = record { within = omega arith; taken = ([], refl, All-nil IsPiece, refl) }

-- the bytes of one read are a part of the contents
read_part : (offset n : ℕ) (buffer : List ℕ) (found : Result (List ℕ) FileError) → IsOkAnd found (λ contents. IsRead contents offset n buffer) → IsRead (result_unwrap_or found []) offset n buffer
read_part offset n buffer (Ok contents) read = read
read_part offset n buffer (Err e) read = absurd read

module _ {S : Type 0} (takes : S → List ℕ → S → Type 0) where
  pub fed_more : (first now next : S) (offset n : ℕ) (buffer : List ℕ) (found : Result (List ℕ) FileError)
      → IsFed takes first now offset (result_unwrap_or found []) → IsOkAnd found (λ contents. IsRead contents offset n buffer) → 0 < n → IsPiece buffer
      → takes now (take n buffer) next → IsFed takes first next (offset + n) (result_unwrap_or found [])
  fed_more first now next offset n buffer found fed is_read some room taking =
      let contents = result_unwrap_or found [] in
      let read = read_part offset n buffer found is_read in
      let (pieces, folds, small, whole) = fed.taken in
      record {
        within = omega (arith, fed.within, read.inside);
        taken = (
          pieces ++ take n buffer ∷ [],
          FoldsTo-push takes first pieces now (take n buffer) next folds taking,
          All-push IsPiece pieces (take n buffer) small (beginning_is_piece n buffer some read.within room),
          take_in_two contents offset n
              ∙ ap (λ b. b ++ take n (drop offset contents)) whole
              ∙ ap (λ b. concatenation pieces ++ b) (sym read.bytes)
              ∙ flat_map_more (λ p. p) [] pieces (take n buffer),
        );
      }

  -- at the end the sink has taken all contents
  pub fed_all : (first now : S) (offset n : ℕ) (buffer : List ℕ) (found : Result (List ℕ) FileError)
      → IsFed takes first now offset (result_unwrap_or found []) → IsOkAnd found (λ contents. IsRead contents offset n buffer) → n ≡ 0 → 0 < length buffer
      → IsOkAnd found (λ contents. TakesAll takes first contents now)
  fed_all first now offset n buffer (Ok contents) fed read none room =
      subst (λ bytes. TakesAll takes first bytes now) (take_all offset contents (read.at_end none room)) fed.taken
  fed_all first now offset n buffer (Err e) fed read none room = absurd read

  -- before the end it has taken a beginning,
  pub fed_begun : (first now : S) (offset : ℕ) (contents : List ℕ) → IsFed takes first now offset contents → TakesBeginning takes first contents now
  fed_begun first now offset contents fed =
      let (pieces, folds, small, whole) = fed.taken in
      (pieces, drop offset contents, folds, sym (take-append-drop offset contents) ∙ ap (λ b. b ++ drop offset contents) whole)

  -- and still has with a beginning of another piece
  pub fed_begun_more : (first now next : S) (offset n : ℕ) (buffer : List ℕ) (found : Result (List ℕ) FileError)
      → IsFed takes first now offset (result_unwrap_or found []) → IsOkAnd found (λ contents. IsRead contents offset n buffer)
      → TakesBeginning takes now (take n buffer) next → TakesBeginning takes first (result_unwrap_or found []) next
  fed_begun_more first now next offset n buffer found fed is_read begun =
      let contents = result_unwrap_or found [] in
      let read = read_part offset n buffer found is_read in
      let (pieces, folds, small, whole) = fed.taken in
      let piece : TakesBeginning takes now (take n (drop offset contents)) next = subst (λ b. TakesBeginning takes now b next) read.bytes begun in
      let rest : TakesBeginning takes now (drop offset contents) next =
      subst (λ b. TakesBeginning takes now b next) (take-append-drop n (drop offset contents)) (begun_longer takes now next (take n (drop offset contents)) (drop n (drop offset contents)) piece) in
      subst (λ b. TakesBeginning takes first b next) (take-append-drop offset contents)
      (begun_after takes first now next pieces (take offset contents) (drop offset contents) folds whole rest)

  -- what each piece preserves holds of the whole contents
  pub holds_of_contents : (holds : S → List ℕ → Type 0)
      → ((before : S) (piece : List ℕ) (after : S) → takes before piece after → (fed : List ℕ) → holds before fed → holds after (fed ++ piece))
      → (first now : S) (contents : List ℕ) → TakesAll takes first contents now → (fed : List ℕ) → holds first fed → holds now (fed ++ contents)
  holds_of_contents holds keeps first now contents (pieces, folds, small, whole) fed h =
      subst (λ c. holds now (fed ++ c)) (sym whole) (holds_after takes holds keeps pieces first now folds fed h)

  -- the contents after what was fed before them
  pub contents_after : (holds : S → List ℕ → Type 0)
      → ((before : S) (piece : List ℕ) (after : S) → takes before piece after → (fed : List ℕ) → holds before fed → holds after (fed ++ piece))
      → (start first now : S) (front : List ℕ) (found : Result (List ℕ) FileError) → ((fed : List ℕ) → holds start fed → holds first (fed ++ front))
      → IsOkAnd found (λ contents. TakesAll takes first contents now) → IsOkAnd found (λ contents. (fed : List ℕ) → holds start fed → holds now (fed ++ (front ++ contents)))
  contents_after holds keeps start first now front (Ok contents) before all = λ fed h.
      subst (holds now) (append_assoc fed front contents) (holds_of_contents holds keeps first now contents all (fed ++ front) (before fed h))
  contents_after holds keeps start first now front (Err e) before all = absurd all

-- the items of an empty vector that took the contents are the contents
pub contents_read : (found : Result (List ℕ) FileError) (empty full : Vec ℕ Global) → empty.items ≡ []
    → IsOkAnd found (λ contents. TakesAll (λ before piece after. after.items ≡ before.items ++ piece) empty contents full) → found ≡ Ok full.items
contents_read (Ok contents) empty full none all =
    ap Ok (sym (holds_of_contents _ (λ vec fed. vec.items ≡ fed) (λ before piece after step fed h. step ∙ ap (λ x. x ++ piece) h) empty full contents all [] none))
contents_read (Err e) empty full none all = absurd all
