-- The tests of the directories that a preprocessor searches.
use Rattle.std.proofs.Common.{◌≡◌, ◌≢◌, ◌∙◌, ℕ, ◌<◌, ◌+◌, true, false, List, [], ◌∷◌, ◌++◌, Option, Some, None, get_or, length, take, drop, sym, ap, ap₂, subst, add-one, drop-cons}
use Rattle.std.specs.Global.{Vec}
use Rattle.std.specs.Option.{unwrap_or}
use Rattle.std.specs.Prelude.{IsUtf8}
use Rattle.std.proofs.lemmas.List.{length-map, map-append, take-append-drop, take_more}
use Rattle.cck_cache_rules.specs.PathTest.{Test, Searched, test_of, tests_of}
use Rattle.cck_cache_text.specs.SearchList.{SearchFields}
use Rattle.cck_cache_rules.specs.declared.path_test.PathTest.{PathTest}
use Rattle.cck_cache_rules.specs.declared.path_test.PathTest.TheVariants as program
use Rattle.cck_cache_files.specs.Searched.{AddsDirectory, IsPlaceOf}
use Rattle.cck_cache_files.specs.declared.identity.Identity.{Identity}
use Rattle.cck_path.specs.Bytes.{Bytes, lists_of}
use Rattle.cck_path.specs.Text.{join_path}
use Rattle.cck_cache_files.specs.SearchedPaths.{AddsRight, AddsWrong, IsRight, IsWrong, is_expected, one_added}

-- the names up to one of them
names_taken : (names : List (Vec ℕ)) (i : ℕ) (name : Vec ℕ) → i < length names → name ≡ get_or names i name → lists_of (take (i + 1) names) ≡ lists_of (take i names) ++ name.items ∷ []
names_taken names i name within is =
    ap lists_of (take_more names i name within)
    ∙ (map-append (λ (v : Vec ℕ). v.items) (take i names) (get_or names i name ∷ []) ∙ ap (λ (v : Vec ℕ). lists_of (take i names) ++ v.items ∷ []) (sym is))

names_parted : (names : List (Vec ℕ)) (i : ℕ) (name : Vec ℕ) → i < length names → name ≡ get_or names i name → lists_of names ≡ lists_of (take i names) ++ name.items ∷ lists_of (drop (i + 1) names)
names_parted names i name within is =
    let left : drop i names ≡ name ∷ drop (i + 1) names = drop-cons names i name within ∙ ap₂ (λ (v : Vec ℕ) (n : ℕ). v ∷ drop n names) (sym is) (sym (add-one i)) in
    ap lists_of (sym (take-append-drop i names))
    ∙ (map-append (λ (v : Vec ℕ). v.items) (take i names) (drop i names) ∙ ap (λ (vs : List (Vec ℕ)). lists_of (take i names) ++ lists_of vs) left)

-- a place that is not the right one, where one place was found
pub one_unexpected : (search : SearchFields) (place first : ℕ) (found : Option ℕ) → found ≡ Some first → is_expected search place first ≡ false → (other : ℕ) → found ≡ Some other → is_expected search place other ≡ false
one_unexpected search place first found is unexpected other same =
    let one : first ≡ other = ap (λ (o : Option ℕ). unwrap_or o first) (sym is ∙ same) in
    subst (λ (n : ℕ). is_expected search place n ≡ false) one unexpected

module _ (directory : Bytes) (search : SearchFields) where
  -- what was found at a name for which the list is right
  is_right : (name path : Bytes) (before after : List (Option Identity)) (some all : List Test) (first : ℕ) → path ≡ join_path directory name → AddsDirectory before path after (Some first) → is_expected search (length some) first ≡ true
      → all ≡ some ++ Searched (join_path directory name) first ∷ [] → IsRight directory search name before some after all
  is_right name path before after some all first path_is adds right test = go adds.identity adds.added adds.place_is adds.text
    where
      go : (identity : Option Identity) → after ≡ before ++ identity ∷ [] → IsPlaceOf after identity (Some first) → (identity ≢ None → IsUtf8 path) → IsRight directory search name before some after all
      go None is none _ = absurd cc
      go (Some identity) is same text = record { identity = identity; first = first; found = is; is_first = same; text = subst IsUtf8 path_is (text (λ e. absurd cc)); expected = right; test = test }

  is_wrong : (path : Bytes) (before after : List (Option Identity)) (some : List Test) (first : Option ℕ) → AddsDirectory before path after first
      → ((place : ℕ) → first ≡ Some place → is_expected search (length some) place ≡ false) → IsWrong search before some
  is_wrong path before after some first adds other = record {
    identity = adds.identity;
    first = first;
    place_is = subst (λ (all : List (Option Identity)). IsPlaceOf all adds.identity first) adds.added adds.place_is;
    unexpected = other;
  }

  module _ (found : List (Option Identity)) (tests : List Test) (names : List (Vec ℕ)) (i : ℕ) (name : Vec ℕ) (within : i < length names) (is : name ≡ get_or names i name) where
    -- the list is right for one more name
    pub right_more : (before after : List (Option Identity)) (some all : List PathTest) (path : Vec ℕ) (looked : Bytes) (place first : ℕ) → path.items ≡ join_path directory name.items → looked ≡ path.items → place ≡ length some
        → AddsDirectory before looked after (Some first) → is_expected search place first ≡ true → all ≡ some ++ program.Searched path first ∷ []
        → AddsRight directory search found tests (lists_of (take i names)) before (tests_of some) → AddsRight directory search found tests (lists_of (take (i + 1) names)) after (tests_of all)
    right_more before after some all path looked place first path_is looked_is place_is adds right pushed so_far =
        let size : place ≡ length (tests_of some) = place_is ∙ sym (length-map some test_of) in
        let test : tests_of all ≡ tests_of some ++ Searched (join_path directory name.items) first ∷ [] =
        ap tests_of pushed ∙ (map-append test_of some (program.Searched path first ∷ []) ∙ ap (λ (p : Bytes). tests_of some ++ Searched p first ∷ []) path_is) in
        one_added name.items so_far
        (is_right name.items looked before after (tests_of some) (tests_of all) first (looked_is ∙ path_is) adds (subst (λ (n : ℕ). is_expected search n first ≡ true) size right) test)
        (names_taken names i name within is)

    -- and for the next one it is not
    pub wrong_here : (before after : List (Option Identity)) (some : List PathTest) (looked : Bytes) (place : ℕ) (first : Option ℕ) → place ≡ length some → AddsDirectory before looked after first
        → ((p : ℕ) → first ≡ Some p → is_expected search place p ≡ false) → AddsRight directory search found tests (lists_of (take i names)) before (tests_of some)
        → AddsWrong directory search (lists_of names) found tests
    wrong_here before after some looked place first place_is adds other so_far =
        let size : place ≡ length (tests_of some) = place_is ∙ sym (length-map some test_of) in
        record {
          known = lists_of (take i names);
          name = name.items;
          others = lists_of (drop (i + 1) names);
          between = before;
          some = tests_of some;
          names_are = names_parted names i name within is;
          right = so_far;
          wrong = is_wrong looked before after (tests_of some) first adds (λ p e. subst (λ (n : ℕ). is_expected search n p ≡ false) size (other p e));
        }
