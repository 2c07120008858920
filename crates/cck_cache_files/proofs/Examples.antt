-- The definitions at literal values.
use Rattle.std.proofs.Common.{◌≡◌, [], ◌∷◌, Contains, ap, arith, codes, false, inl, inr, refl, subst, sym, true}
use Rattle.std.proofs.lemmas.List.Elements.{Contains-push_cases}
use Rattle.cck_cache_files.specs.Absence.{IsLinked}
use Rattle.cck_cache_files.specs.Compiler.{IsDigestFile, is_hex_digest}
use Rattle.cck_cache_files.specs.RealPaths.{AreLinksOf}
use Rattle.cck_cache_rules.specs.PathTest.{Absent, Real, test_path}
use Rattle.cck_cache_text.specs.Names.{directory_of}

kept : IsDigestFile (codes "ab") (codes "e3b0c44298fc1c149afbf4c8996fb92427ae41e4649b934ca495991b7852b855")
    (codes "e3b0c44298fc1c149afbf4c8996fb92427ae41e4649b934ca495991b7852b855 ab")
kept = (refl, refl)

too_short : is_hex_digest (codes "e3b0") ≡ false
too_short = refl

-- the links on the way to a directory that is searched, and to one that was left out, are tested by a compiler that renames no header
searched : IsLinked false (record { directories = codes "/i" ∷ []; quoted = 0; missing = []; duplicates = codes "/j" ∷ [] }) [] [] (codes "/i")
searched = inr (inl (0, omega arith, refl))

left_out : IsLinked false (record { directories = codes "/i" ∷ []; quoted = 0; missing = []; duplicates = codes "/j" ∷ [] }) [] [] (codes "/j")
left_out = inr (inr (0, omega arith, refl))

-- where the directory leads in which nothing is at a path is tested by a compiler that renames no header
tested : AreLinksOf false (Absent (codes "/i/h") ∷ []) (Real (codes "/i/") (codes "/j") ∷ [])
tested = record {
  each = λ path at. elim (Contains-push_cases [] (Absent (codes "/i/h")) (Absent path) at) [
    | inl none ↦ absurd (omega (arith, none.1))
    | inr same ↦ (codes "/j", subst (λ p. Contains (Real (codes "/i/") (codes "/j") ∷ []) (Real (directory_of p) (codes "/j"))) (ap test_path same) (0, omega arith, refl))
  ];
  only = λ test at. elim (Contains-push_cases [] (Real (codes "/i/") (codes "/j")) test at) [
    | inl none ↦ absurd (omega (arith, none.1))
    | inr same ↦ (codes "/i/h", codes "/j", (0, omega arith, refl), sym same)
  ];
}

untested : AreLinksOf true (Absent (codes "/i/h") ∷ []) []
untested = refl
