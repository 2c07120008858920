-- Written texts by which no file is looked for, and one by which a file is.
use Rattle.std.proofs.Common.{◌≡◌, ◌∙◌, true, false, List, [], codes, refl, subst, sym}
use Rattle.std.proofs.lemmas.Bool.{false≢true}
use Rattle.std.specs.FinMap.{empty, get-empty}
use Rattle.std.specs.List.{AllByRecursion}
use Rattle.cck_include.proofs.OneList.{one_list}
use Rattle.cck_include.specs.Marks.{Mark, Marks}
use Rattle.cck_path.specs.Bytes.{Bytes}
use Rattle.cck_path.specs.Path.{Path, components, path_cmp}
use Rattle.cck_hasher.proofs.WalkLemmas.{none_asked}
use Rattle.cck_hasher.specs.Decided.{IsAskedFor, AsksForNone, Context, LooksForNone, decided, is_angled, is_known, is_looked_for, is_passed, path_named}
use Rattle.c_cache_keys.proofs.MarkExamples.{inclusion_marks, missing_header_marks, short_text_marks, system_header_marks}

module _ (c : Context) where
  -- a text has one list of marks
  by_marks : (text : Bytes) (marks : List Mark) → Marks true text marks → AllByRecursion (AsksForNone c) marks → LooksForNone c text
  by_marks text marks are none others are_others = subst (AllByRecursion (AsksForNone c)) (one_list true text marks others are are_others) none

  short_text : LooksForNone c (codes "# 1 \"")
  short_text = by_marks _ [] short_text_marks tt

  -- any other inclusion makes the text refused, and is not looked for
  inclusion : LooksForNone c (codes "x .incbin \"f\"")
  inclusion = by_marks _ _ inclusion_marks (tt, tt)

  -- a system header where these are skipped
  system_header : c.setting.config.skip_system_headers ≡ true → LooksForNone c (codes "# 1 \"s.h\" 1 3 4\n")
  unfolding is_looked_for is_passed is_angled
  system_header skips = by_marks _ _ system_header_marks (rw skips refl, tt)

  -- and no path is looked for after it
  nothing_asked : (p : Path) → IsAskedFor c (codes "x .incbin \"f\"") p → ⊥
  nothing_asked = none_asked c _ inclusion

  module _ (skips : c.setting.config.skip_system_headers ≡ false) (cwd : c.cwd ≡ components (codes "/w")) (input : c.input ≡ components (codes "/w/a.c")) where
    -- a header is looked for, missing or not
    header_is_looked_for : is_looked_for c empty (codes "missing.h") false ≡ true
    unfolding is_looked_for is_passed is_angled is_known components
    header_is_looked_for = rw (get-empty {X = Bytes} path_cmp (path_named c (codes "missing.h")), skips, cwd, input) refl

    header : LooksForNone c (codes "# 1 \"missing.h\"") → ⊥
    header none = false≢true (sym (none _ missing_header_marks).0 ∙ header_is_looked_for)

    header_asked : IsAskedFor c (codes "# 1 \"missing.h\"") (path_named c (codes "missing.h"))
    unfolding decided
    header_asked = record {
      before = [];
      name = codes "missing.h";
      is_system = false;
      following = [];
      marks = missing_header_marks;
      held = empty;
      undecided = refl;
      looked_for = (header_is_looked_for, refl);
    }
