-- Tests of paths are read in one way.
use Rattle.std.proofs.Common.{◌≡◌, ◌≢◌, ℕ, List, ◌∷◌, ◌++◌, Option, Some, None, Bor, get_or, length, ◌<◌, sym, ap, ◌∙◌, arith, codes}
use Rattle.std.specs.Option.{MatchOption, option_map}
use Rattle.std.proofs.lemmas.List.{append_cancel_left}
use Rattle.cck_digest.specs.Frames.{length_bytes}
use Rattle.cck_digest.proofs.FrameLemmas.{frame_reads_back, length_reads_back}
use Rattle.cck_cache_rules.specs.Frames.{frame_before}
use Rattle.cck_cache_rules.specs.PathTest.{Test, Absent, File, Directory, Searched, Plain, Real, real_bytes, searched_bytes, test_bytes}
use Rattle.cck_cache_rules.specs.Reading.{IsAny, ReadsBack}
use Rattle.cck_cache_rules.proofs.ReadingLemmas.{from_any, no_number, of_any, read_twice}

searched_same : (path other : List ℕ) (place known : ℕ) → searched_bytes (place, path) ≡ searched_bytes (known, other) → Searched path place ≡ Searched other known
searched_same path other place known e =
    let rest : length_bytes place ++ path ≡ length_bytes known ++ other = append_cancel_left (codes "searched ") (length_bytes place ++ path) (length_bytes known ++ other) e in
    let both = length_reads_back place known path other rest in
    λ i. Searched (both.1 i) (both.0 i)

real_same : (path other real known : List ℕ) → real_bytes (real, path) ≡ real_bytes (known, other) → Real path real ≡ Real other known
real_same path other real known e =
    let rest : frame_before (real, path) ≡ frame_before (known, other) = append_cancel_left (codes "real ") (frame_before (real, path)) (frame_before (known, other)) e in
    let both = frame_reads_back real known path other rest in
    λ i. Real (both.1 i) (both.0 i)

pub apart : (a b : ℕ) → a ≢ b → (x y : List ℕ) → a ∷ x ≡ b ∷ y → {X : Type 0} → X
apart a b other x y e = absurd (other (ap (λ (l : List ℕ). get_or l 0 0) e))

-- no two tests have the same bytes
pub tests_differ : (a b : Test) → test_bytes a ≡ test_bytes b → a ≡ b
tests_differ (Absent a) (Absent b) e = ap Absent (append_cancel_left (codes "absent ") a b e)
tests_differ (Absent a) (File b) e = apart 97 102 (omega arith) _ _ e
tests_differ (Absent a) (Directory b) e = apart 97 100 (omega arith) _ _ e
tests_differ (Absent a) (Searched b n) e = apart 97 115 (omega arith) _ _ e
tests_differ (Absent a) (Plain b) e = apart 97 112 (omega arith) _ _ e
tests_differ (Absent a) (Real b n) e = apart 97 114 (omega arith) _ _ e
tests_differ (File a) (Absent b) e = apart 102 97 (omega arith) _ _ e
tests_differ (File a) (File b) e = ap File (append_cancel_left (codes "file ") a b e)
tests_differ (File a) (Directory b) e = apart 102 100 (omega arith) _ _ e
tests_differ (File a) (Searched b n) e = apart 102 115 (omega arith) _ _ e
tests_differ (File a) (Plain b) e = apart 102 112 (omega arith) _ _ e
tests_differ (File a) (Real b n) e = apart 102 114 (omega arith) _ _ e
tests_differ (Directory a) (Absent b) e = apart 100 97 (omega arith) _ _ e
tests_differ (Directory a) (File b) e = apart 100 102 (omega arith) _ _ e
tests_differ (Directory a) (Directory b) e = ap Directory (append_cancel_left (codes "directory ") a b e)
tests_differ (Directory a) (Searched b n) e = apart 100 115 (omega arith) _ _ e
tests_differ (Directory a) (Plain b) e = apart 100 112 (omega arith) _ _ e
tests_differ (Directory a) (Real b n) e = apart 100 114 (omega arith) _ _ e
tests_differ (Searched a m) (Absent b) e = apart 115 97 (omega arith) _ _ e
tests_differ (Searched a m) (File b) e = apart 115 102 (omega arith) _ _ e
tests_differ (Searched a m) (Directory b) e = apart 115 100 (omega arith) _ _ e
tests_differ (Searched a m) (Searched b n) e = searched_same a b m n e
tests_differ (Searched a m) (Plain b) e = apart 115 112 (omega arith) _ _ e
tests_differ (Searched a m) (Real b n) e = apart 115 114 (omega arith) _ _ e
tests_differ (Plain a) (Absent b) e = apart 112 97 (omega arith) _ _ e
tests_differ (Plain a) (File b) e = apart 112 102 (omega arith) _ _ e
tests_differ (Plain a) (Directory b) e = apart 112 100 (omega arith) _ _ e
tests_differ (Plain a) (Searched b n) e = apart 112 115 (omega arith) _ _ e
tests_differ (Plain a) (Plain b) e = ap Plain (append_cancel_left (codes "plain ") a b e)
tests_differ (Plain a) (Real b n) e = apart 112 114 (omega arith) _ _ e
tests_differ (Real a m) (Absent b) e = apart 114 97 (omega arith) _ _ e
tests_differ (Real a m) (File b) e = apart 114 102 (omega arith) _ _ e
tests_differ (Real a m) (Directory b) e = apart 114 100 (omega arith) _ _ e
tests_differ (Real a m) (Searched b n) e = apart 114 115 (omega arith) _ _ e
tests_differ (Real a m) (Plain b) e = apart 114 112 (omega arith) _ _ e
tests_differ (Real a m) (Real b n) e = real_same a b m n e

-- a test that was read
pub test_read : (bytes : List ℕ) (test : Test) → test_bytes test ≡ bytes → ReadsBack test_bytes bytes (Some test)
test_read bytes test is = (is, λ other same. tests_differ other test (same ∙ sym is))

-- bytes that begin with no word of a test
pub no_test : (bytes : List ℕ) → ReadsBack (λ rest. codes "absent " ++ rest) bytes None → ReadsBack (λ rest. codes "file " ++ rest) bytes None
    → ReadsBack (λ rest. codes "directory " ++ rest) bytes None → ReadsBack searched_bytes bytes None → ReadsBack (λ rest. codes "plain " ++ rest) bytes None
    → ReadsBack real_bytes bytes None → ReadsBack test_bytes bytes None
no_test bytes a f d s p r (Absent path) same = a path same
no_test bytes a f d s p r (File path) same = f path same
no_test bytes a f d s p r (Directory path) same = d path same
no_test bytes a f d s p r (Searched path place) same = s (place, path) same
no_test bytes a f d s p r (Plain path) same = p path same
no_test bytes a f d s p r (Real path real) same = r (real, path) same

-- what follows a word
pub stripped : (word bytes : List ℕ) (r : Option (Bor (List ℕ))) → MatchOption r ((rest : List ℕ) → bytes ≢ word ++ rest) (λ rest. bytes ≡ word ++ rest.now)
    → ReadsBack (λ rest. word ++ rest) bytes (option_map (λ rest. rest.now) r)
stripped word bytes None none = λ rest same. none rest (sym same)
stripped word bytes (Some found) is = (sym is, λ rest same. append_cancel_left word rest found.now (same ∙ is))

-- fewer bytes after the word than a place has
pub too_short : (bytes rest : List ℕ) → codes "searched " ++ rest ≡ bytes → length rest < 8 → ReadsBack searched_bytes bytes None
too_short bytes rest is short other same =
    let left : length_bytes other.0 ++ other.1 ≡ rest = append_cancel_left (codes "searched ") (length_bytes other.0 ++ other.1) rest (same ∙ sym is) in
    no_number other.0 other.1 rest short left

-- a directory that is searched, after its word
pub searched_read : (bytes rest path : List ℕ) (place : ℕ) → codes "searched " ++ rest ≡ bytes → rest ≡ length_bytes place ++ path → ReadsBack searched_bytes bytes (Some (place, path))
searched_read bytes rest path place is parts = (
  ap (λ r. codes "searched " ++ r) (sym parts) ∙ is,
  λ other same.
      let left : length_bytes other.0 ++ other.1 ≡ length_bytes place ++ path =
      append_cancel_left (codes "searched ") (length_bytes other.0 ++ other.1) rest (same ∙ sym is) ∙ parts
      in
      let both = length_reads_back other.0 place other.1 path left in
      λ i. (both.0 i, both.1 i),
)

-- where a path leads, after its word
pub real_read : (bytes rest : List ℕ) (found : Option (List ℕ × List ℕ)) → codes "real " ++ rest ≡ bytes → ReadsBack frame_before rest found → ReadsBack real_bytes bytes found
real_read bytes rest found is read =
    let after : ReadsBack (λ r. codes "real " ++ r) bytes (Some rest) = (is, λ other same. append_cancel_left (codes "real ") other rest (same ∙ sym is)) in
    from_any real_bytes bytes found (read_twice IsAny (λ r. codes "real " ++ r) frame_before bytes rest found after (of_any frame_before rest found read))
