-- The directories that names leave.
use Rattle.std.proofs.Common.{Ok, Err, Result, ◌≡◌, ◌≢◌, ◌∙◌, ◌↔◌, ℕ, ◌<◌, inl, inr, Bool, true, false, List, [], IsTrue, get_or, length, map, take, drop, codes, refl, sym, ap, subst, arith}
use Rattle.std.specs.BTreeSet.{BTreeSet}
use Rattle.std.specs.Global.{Vec}
use Rattle.std.specs.List.{list_any}
use Rattle.std.proofs.lemmas.Option.{get_or_from_slice_get, slice_get_read, slice_get_within}
use Rattle.std.proofs.lemmas.Grind.{get_or_default_zero}
use Rattle.std.specs.Bool.{MatchBool}
use Rattle.std.specs.Result.{IfOk}
use Rattle.cck_digest.specs.declared.error.UtilError.{UtilError}
use Rattle.cck_digest.specs.TimeMacros.{Has}
use Rattle.std.specs.Str.{bytes_eq}
use Rattle.cck_include.specs.Marks.{Mark, Marks}
use Rattle.cck_path.specs.Text.{join_path}
use Rattle.cck_cache_text.specs.Left.{IsLeft, IsLeftAt, IsLeftOn}
use Rattle.cck_cache_text.specs.Names.{AreNames, is_named}
use Rattle.cck_cache_text.specs.Sets.{Adds, IsSetOf, has_key}
use Rattle.cck_cache_text.specs.declared.names.Named.{Named}
use Rattle.cck_cache_text.proofs.SetLemmas.{Below, adds_as, has_key_at, key_at}

-- a directory that a path leaves at this place
abbrev pub LeftAt : List ℕ → ℕ → List ℕ → Type 0
LeftAt path place front = IsLeftAt path place × (front ≡ take place path)

-- a directory that the name at this place leaves
abbrev pub LeftBy : List ℕ → List (Vec ℕ) → ℕ → List ℕ → Type 0
LeftBy directory keys place front = IsLeftOn (join_path directory (get_or (map (λ k. k.items) keys) place [])) front

pub left_here : (path : List ℕ) (place : ℕ) (old new : BTreeSet (Vec ℕ)) (front : List ℕ) → IsLeftAt path place → front ≡ take place path → Adds (λ q. q ≡ front) old new → Adds (LeftAt path place) old new
left_here path place old new front left is =
    adds_as (λ q. q ≡ front) (LeftAt path place) old new (λ q same. (left, same ∙ is)) (λ q at. at.1 ∙ sym is)

pub whole_way : (path : List ℕ) (count : ℕ) (old new : BTreeSet (Vec ℕ)) → length path ≡ count → Adds (Below (LeftAt path) count) old new → Adds (IsLeftOn path) old new
whole_way path count old new is =
    adds_as (Below (LeftAt path) count) (IsLeftOn path) old new (λ q at. (at.0, at.2.0, at.2.1)) (λ q at. (at.0, omega (arith, is, slice_get_within path at.0 47 at.1.slash), (at.1, at.2)))

pub no_key : (set : BTreeSet (Vec ℕ)) (q : List ℕ) → set.keys ≡ [] → IsTrue (has_key set q) → ⊥
no_key set q none has = let e : false ≡ true = ap (list_any (λ k. bytes_eq q k.items)) (sym none) ∙ has in cc

pub all_left : (directory : List ℕ) (names old new : BTreeSet (Vec ℕ)) (count : ℕ) → old.keys ≡ [] → length names.keys ≡ count
    → Adds (Below (LeftBy directory names.keys) count) old new → IsSetOf (λ front. (name : List ℕ) × IsTrue (has_key names name) × IsLeftOn (join_path directory name) front) new
all_left directory names old new count none is adds q = (
  λ has. elim ((adds q).0 has) [
    | inl at ↦ (get_or (map (λ k. k.items) names.keys) at.0 [], has_key_at names.keys at.0 (omega (arith, at.1, is)), at.2)
    | inr before ↦ absurd (no_key old q none before)
  ],
  λ left.
      let at = key_at names.keys left.0 left.1 in
      (adds q).1 (inl (at.0, omega (arith, at.1, is), subst (λ (n : List ℕ). IsLeftOn (join_path directory n) q) (sym at.2) left.2)),
)

pub left_of : (directory : List ℕ) (marks : List Mark) (names left : BTreeSet (Vec ℕ)) → ((name : List ℕ) → has_key names name ≡ is_named marks name)
    → IsSetOf (λ front. (name : List ℕ) × IsTrue (has_key names name) × IsLeftOn (join_path directory name) front) left → IsSetOf (IsLeft directory marks) left
left_of directory marks names left named is q =
    let both = is q in (
      λ has. let at = both.0 has in (at.0, sym (named at.0) ∙ at.1, at.2),
      λ at. both.1 (at.0, named at.0 ∙ at.1, at.2),
    )

-- a search decides whether a `..` comes after a slash
pub is_left : (path rest : List ℕ) (place : ℕ) (found : Bool) → 0 < place → place < length path → get_or path place 0 ≡ 47 → rest ≡ drop place path → IsTrue found ↔ Has rest (codes "/../")
    → MatchBool found (IsLeftAt path place) (¬ (IsLeftAt path place))
is_left path rest place true inside within slash is finds = record {
  inside = inside;
  slash = slice_get_read path (length path) place 47 refl within (sym (get_or_default_zero path place 47 within ∙ slash));
  parent = subst (λ (r : List ℕ). Has r (codes "/../")) is (finds.0 refl);
}
is_left path rest place false inside within slash is finds =
    λ left. let two : false ≡ true = finds.1 (subst (λ (r : List ℕ). Has r (codes "/../")) (sym is) left.parent) in cc

pub no_slash : (path : List ℕ) (place : ℕ) → get_or path place 0 ≢ 47 → IsLeftAt path place → ⊥
no_slash path place other left = other (get_or_from_slice_get path place 47 0 left.slash)

pub found_left : (directory text : List ℕ) (named : Named) (found : Result (BTreeSet (Vec ℕ)) UtilError) → ((marks : List Mark) → Marks true text marks → AreNames marks named)
    → IfOk found (IsSetOf (λ front. (name : List ℕ) × IsTrue (has_key named.names name) × IsLeftOn (join_path directory name) front))
    → IfOk found (λ left. (marks : List Mark) → Marks true text marks → IsSetOf (IsLeft directory marks) left)
found_left directory text named (Ok left) are is = λ marks read. left_of directory marks named.names left (are marks read).names is
found_left directory text named (Err error) are is = tt
