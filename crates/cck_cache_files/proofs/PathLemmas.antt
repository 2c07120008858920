-- The paths of a store.
use Rattle.std.proofs.Common.{◌^◌, zero, suc, false, ◌≡◌, ◌≢◌, ◌≤◌, ◌<◌, ◌+◌, ℕ, List, ◌++◌, length, take, slice_index, true, ◌&&◌, ◌||◌, nat_eq, nat_lt, nat_le, Option, None, Some, unwrap_or, codes, IsUtf8, refl, sym, ap, ◌∙◌, ⊎_elim, subst, arith, append_assoc, length-append}
use mathlib.Core.Bool.{false≢true}
use Rattle.std.proofs.lemmas.Bool.{cases_Bool, cond-true, cond-false}
use Rattle.std.proofs.lemmas.Bool.Decides.{nat_tests}
use Rattle.std.proofs.lemmas.List.{append_cancel_left, get_or_past, length-take-le}
use Rattle.std.proofs.lemmas.Str.{IsCharBoundary-from_take, IsCharBoundary-start}
use Rattle.std.specs.Str.{IsCharBoundary}
use Rattle.std.specs.Str.Pattern.{GetsRange}
use denote.Ref.{Bor}
use Rattle.std.specs.Fmt.{decimal}
use Rattle.std.proofs.lemmas.Fmt.{decimal_injective}
use Rattle.cck_digest.proofs.ReadsBack.{bytes_read_back}
use Rattle.cck_cache_files.specs.EntryNames.{entry_name}
use Rattle.cck_cache_files.specs.Paths.{digest_path, first_digits, is_char_boundary, key_directory, key_path, kind_name}
use Rattle.cck_cache_files.specs.declared.store_directory.Kind.{Kind}
use Rattle.cck_cache_files.specs.declared.store_directory.Kind.TheVariants.{Entry, Object}

-- the test says that no character is cut
boundary_test : (n b : ℕ) → 2 ≤ n → (2 < n → 128 ≤ b → 192 ≤ b) → (n ≤ 2 → b ≡ 0) → (nat_le 2 n && (nat_lt b 128 || nat_le 192 b)) ≡ true
boundary_test n b l lead past = grind (arith, nat_tests)

-- what the test says
tested_length : (n b : ℕ) → (nat_le 2 n && (nat_lt b 128 || nat_le 192 b)) ≡ true → 2 ≤ n
tested_length n b e = grind (arith, nat_tests)

tested_lead : (n b : ℕ) → (nat_le 2 n && (nat_lt b 128 || nat_le 192 b)) ≡ true → 128 ≤ b → 192 ≤ b
tested_lead n b e l = grind (arith, nat_tests)

boundary_is_tested : (key : List ℕ) → IsCharBoundary key 2 → is_char_boundary key 2 ≡ true
boundary_is_tested key h = boundary_test (length key) (slice_index key 2) h.0 h.1 (λ l. get_or_past key 2 0 l)

tested_is_boundary : (key : List ℕ) → is_char_boundary key 2 ≡ true → IsCharBoundary key 2
tested_is_boundary key e = (tested_length (length key) (slice_index key 2) e, λ _ l. tested_lead (length key) (slice_index key 2) e l)

-- the first two bytes, where they can be had, and else two zeros
pub digits_are_first : (key : List ℕ) (r : Option (Bor (List ℕ))) (zeros t : Bor (List ℕ)) → IsUtf8 key → GetsRange key 0 2 r → t ≡ unwrap_or r zeros
    → zeros.now ≡ codes "00" → IsUtf8 t.now → t.now ≡ first_digits key
digits_are_first key None zeros t utf8 cases is none text =
    ap (λ s. s.now) is ∙ none
    ∙ sym (cond-false (is_char_boundary key 2) (take 2 key) (codes "00")
    (⊎_elim (λ y. absurd (cases (omega arith) (IsCharBoundary-start key utf8) (tested_is_boundary key y))) (λ n. n) (cases_Bool (is_char_boundary key 2))))
digits_are_first key (Some x) zeros t utf8 cases is none text =
    let same : t.now ≡ take 2 key = ap (λ s. s.now) is ∙ cases.0 in
    let P : List ℕ → Type 0 = λ s. IsUtf8 s in
    same ∙ sym (cond-true (is_char_boundary key 2) (take 2 key) (codes "00")
    (boundary_is_tested key (IsCharBoundary-from_take key 2 utf8 cases.2 (subst P same text))))

length_digits : (key : List ℕ) → length (first_digits key) ≡ 2
length_digits key =
    ⊎_elim
    (λ y. ap length (cond-true (is_char_boundary key 2) (take 2 key) (codes "00") y) ∙ length-take-le 2 key (tested_length (length key) (slice_index key 2) y))
    (λ n. ap length (cond-false (is_char_boundary key 2) (take 2 key) (codes "00") n))
    (cases_Bool (is_char_boundary key 2))

length_kind : (kind : Kind) → length (kind_name kind) ≡ 7
length_kind Entry = refl
length_kind Object = refl

same_kind : (a b : Kind) → kind_name a ≡ kind_name b → a ≡ b
same_kind Entry Entry e = refl
same_kind Entry Object e = absurd (false≢true (sym (ap (λ name. nat_eq (slice_index name 0) 101) e)))
same_kind Object Entry e = absurd (false≢true (ap (λ name. nat_eq (slice_index name 0) 101) e))
same_kind Object Object e = refl

-- the length of a path, without the key
length_directory : (directory : List ℕ) (kind : Kind) (key : List ℕ) → length (key_directory directory kind key ++ codes "/") ≡ length directory + 12
length_directory directory kind key =
    let digits = length_digits key in
    let name = length_kind kind in
    simp length-append (omega arith)

-- a path up to the name of the kind
length_name : (directory : List ℕ) (kind : Kind) → length ((directory ++ codes "/") ++ kind_name kind) ≡ length directory + 8
length_name directory kind = let name = length_kind kind in simp length-append (omega arith)

pub key_of_path : (directory : List ℕ) (a b : Kind) (k l : List ℕ) → key_path directory a k ≡ key_path directory b l → (a ≡ b) × (k ≡ l)
key_of_path directory a b k l e =
    let front = bytes_read_back (key_directory directory a k ++ codes "/") (key_directory directory b l ++ codes "/") k l (length_directory directory a k ∙ sym (length_directory directory b l)) e in
    let split = λ (kind : Kind) (key : List ℕ). append_assoc ((directory ++ codes "/") ++ kind_name kind) (codes "/") (first_digits key) in
    let named = bytes_read_back ((directory ++ codes "/") ++ kind_name a) ((directory ++ codes "/") ++ kind_name b) ((codes "/" ++ first_digits k) ++ codes "/") ((codes "/" ++ first_digits l) ++ codes "/")
    (length_name directory a ∙ sym (length_name directory b))
    (sym (append_assoc ((directory ++ codes "/") ++ kind_name a) (codes "/" ++ first_digits k) (codes "/")) ∙ ap (λ s. s ++ codes "/") (sym (split a k))
    ∙ front.0 ∙ ap (λ s. s ++ codes "/") (split b l) ∙ append_assoc ((directory ++ codes "/") ++ kind_name b) (codes "/" ++ first_digits l) (codes "/")) in
    (same_kind a b (append_cancel_left (directory ++ codes "/") (kind_name a) (kind_name b) named.0), front.1)

-- what follows the directory of a store
abbrev below_directory : Kind → List ℕ → List ℕ
below_directory kind key = codes "/" ++ (kind_name kind ++ (codes "/" ++ (first_digits key ++ (codes "/" ++ key))))

key_path_is : (directory : List ℕ) (kind : Kind) (key : List ℕ) → key_path directory kind key ≡ directory ++ below_directory kind key
key_path_is directory kind key = simp append_assoc

other_name : (kind : Kind) (name key : List ℕ) → codes "/digests/" ++ name ≢ below_directory kind key
other_name Entry name key e = false≢true (sym (ap (λ path. nat_eq (slice_index path 1) 100) e))
other_name Object name key e = false≢true (sym (ap (λ path. nat_eq (slice_index path 1) 100) e))

pub digest_of_path : (directory m n : List ℕ) → (digest_path directory m ≡ digest_path directory n → m ≡ n) × ((kind : Kind) → digest_path directory m ≢ key_path directory kind n)
digest_of_path directory m n = (
  λ e. append_cancel_left (directory ++ codes "/digests/") m n e,
  λ kind e. other_name kind m n (append_cancel_left directory (codes "/digests/" ++ m) (below_directory kind n)
      (sym (append_assoc directory (codes "/digests/") m) ∙ e ∙ key_path_is directory kind n)),
)

-- the name of a file at a later place is longer than the key
not_first : (n : ℕ) → nat_eq (suc n) 0 ≡ false
not_first n = grind (arith, nat_tests)

later_name : (key : List ℕ) (n : ℕ) → entry_name key (suc n) ≡ (key ++ codes ".") ++ decimal (suc n)
later_name key n = cond-false (nat_eq (suc n) 0) key ((key ++ codes ".") ++ decimal (suc n)) (not_first n)

longer_name : (key : List ℕ) (n : ℕ) → length key < length (entry_name key (suc n))
longer_name key n = rw (later_name key n) (simp length-append (omega arith))

not_longer : (m n : ℕ) → m ≡ n → m < n → ⊥
not_longer m n e l = omega (arith, e, l)

pub place_of_name : (k l : List ℕ) (m n : ℕ) → length k ≡ length l → m < 2 ^ 64 → n < 2 ^ 64 → entry_name k m ≡ entry_name l n → (k ≡ l) × (m ≡ n)
place_of_name k l zero zero same small less e = (e, refl)
place_of_name k l zero (suc n) same small less e = absurd (not_longer (length l) _ (sym same ∙ ap length e) (longer_name l n))
place_of_name k l (suc m) zero same small less e = absurd (not_longer (length k) _ (same ∙ ap length (sym e)) (longer_name k m))
place_of_name k l (suc m) (suc n) same small less e =
    let joined : length (k ++ codes ".") ≡ length (l ++ codes ".") = simp length-append (omega (arith, same)) in
    let both = bytes_read_back (k ++ codes ".") (l ++ codes ".") (decimal (suc m)) (decimal (suc n)) joined (sym (later_name k m) ∙ e ∙ later_name l n) in
    ((bytes_read_back k l (codes ".") (codes ".") same both.0).0, decimal_injective (suc m) (suc n) small less both.1)
