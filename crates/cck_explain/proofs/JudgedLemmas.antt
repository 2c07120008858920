-- included files that are judged one after the other
use Rattle.std.proofs.Common.{◌≡◌, ◌==◌, ◌∙◌, ℕ, ◌+◌, ◌<◌, ◌^◌, List, [], ◌∷◌, ◌++◌, Bool, true, false, Option, Some, None, Result, IfSome, is_none, inl, inr, append_assoc, arith, ap, get_or, length, map, refl, reverse, subst, sym, take}
use Rattle.std.specs.Prelude.{codes}
use Rattle.std.specs.List.{AllByRecursion, flat_map, list_all}
use Rattle.std.proofs.lemmas.Bool.Decides.{Decides-eqb}
use Rattle.std.proofs.lemmas.Grind.{flat_map-append}
use Rattle.std.proofs.lemmas.List.{append-nil, map-append, map_push, reverse-append, take_more}
use Rattle.cck_digest.specs.declared.error.FileError.{FileError}
use Rattle.cck_explain_listing.specs.Quoted.{quoted}
use Rattle.cck_entry.specs.Results.{KeyResult}
use Rattle.cck_files.specs.Calls.{Keeps, Rose}
use Rattle.cck_files.specs.FileMap.{FileMap, contents_at}
use Rattle.cck_include.specs.Include.{Include}
use Rattle.cck_entry.specs.Matching.{MayMiss, matches}
use Rattle.cck_include.specs.Setting.{Setting}
use Rattle.cck_path.specs.Bytes.{Bytes}
use Rattle.cck_path.specs.Path.{components}
use Rattle.cck_explain.specs.Difference.{IsDifference}
use Rattle.cck_explain.specs.Judged.{AreJudged, AreJudgedResults, IsCalm, IsJudged, Judged, JudgedResult, result_judged}
use Rattle.cck_explain.specs.Note.{StoreCall, change_word, include_line, key_of, not_asked_line, opening_lines, result_lines}
use Rattle.cck_explain.specs.declared.difference.Difference.{Difference}
use Rattle.cck_explain.specs.declared.difference.Difference.TheVariants.{Missing, Contents, Day, Second, DayOrSecond}

all_pushed : {X : Type 0} (P : X → Type 0) (xs : List X) (x : X) → AllByRecursion P xs → P x → AllByRecursion P (xs ++ x ∷ [])
all_pushed P [] x all one = (one, tt)
all_pushed P (y ∷ xs) x all one = (all.0, all_pushed P xs x all.1 one)

-- ---- files without faults

module _ {F : Type 0} (file_map : F → FileMap) (faults : F → ℕ) (is_quiet : F → Type 0) where
  -- they stay so
  pub calm_after : (a b : F) → Keeps file_map faults is_quiet a b → IsCalm faults is_quiet a → IsCalm faults is_quiet b
  calm_after a b keeps calm = record { quiet = keeps.stays_quiet calm.quiet; room = let same = keeps.stays_calm calm.quiet in rw same calm.room }

  pub no_fault : (a b : F) → Keeps file_map faults is_quiet a b → IsCalm faults is_quiet a → Rose (faults a) (faults b) → ⊥
  no_fault a b keeps calm (inl rose) = absurd (omega (arith, keeps.stays_calm calm.quiet, rose))
  no_fault a b keeps calm (inr top) = absurd (omega (arith, keeps.stays_calm calm.quiet, calm.room, top))

exactly : (F : Type 0) (is_match right : Bool) → (F → ⊥) → MayMiss F is_match right → is_match ≡ right
exactly F true right calm miss = sym miss
exactly F false right calm (inl miss) = sym miss
exactly F false right calm (inr fault) = absurd (calm fault)

without_fault : (hash : Bytes → Bytes) (F : Type 0) (found : Result Bytes FileError) (digest : Bytes) (difference : Difference) → (F → ⊥) → IsDifference hash F found digest difference
    → IsDifference hash ⊥ found digest difference
without_fault hash F found digest Missing calm (inl none) = inl none
without_fault hash F found digest Missing calm (inr fault) = absurd (calm fault)
without_fault hash F found digest Contents calm is = is
without_fault hash F found digest Day calm is = is
without_fault hash F found digest Second calm is = is
without_fault hash F found digest DayOrSecond calm is = is

if_without_fault : (hash : Bytes → Bytes) (F : Type 0) (found : Result Bytes FileError) (digest : Bytes) (seen : Option Difference) → (F → ⊥) → IfSome seen (IsDifference hash F found digest)
    → IfSome seen (IsDifference hash ⊥ found digest)
if_without_fault hash F found digest None calm is = tt
if_without_fault hash F found digest (Some difference) calm is = without_fault hash F found digest difference calm is

-- what was found of an included file, without a fault
pub judged : (s : Setting) (files : FileMap) (F : Type 0) (i : Include) (seen : Option Difference) → (F → ⊥) → MayMiss F (is_none seen) (matches s files i)
    → IfSome seen (IsDifference s.hash F (contents_at files (components i.path)) i.digest) → IsJudged s files (i, seen)
judged s files F i seen calm matching difference = record {
  matching = exactly F (is_none seen) (matches s files i) calm matching;
  difference = if_without_fault s.hash F (contents_at files (components i.path)) i.digest seen calm difference;
}

-- ---- lists of them

module _ (s : Setting) (files : FileMap) where
  pub one_judged : (includes : List Include) (front : List Judged) (i : Include) (seen : Option Difference) → AreJudged s files includes front → IsJudged s files (i, seen)
      → AreJudged s files (includes ++ i ∷ []) (front ++ (i, seen) ∷ [])
  one_judged includes front i seen before is = record {
    are = map-append (λ (j : Judged). j.0) front ((i, seen) ∷ []) ∙ ap (λ l. l ++ i ∷ []) before.are;
    each = all_pushed (IsJudged s files) front (i, seen) before.each is;
  }

  pub one_result_judged : (results : List KeyResult) (front : List JudgedResult) (key : Bytes) (includes : List Include) (found : List Judged) → AreJudgedResults s files results front
      → AreJudged s files includes found → AreJudgedResults s files (results ++ (key, includes) ∷ []) (front ++ (key, found) ∷ [])
  one_result_judged results front key includes found before is = record {
    are = map-append result_judged front ((key, found) ∷ []) ∙ ap (λ l. l ++ (key, map (λ (j : Judged). j.0) found) ∷ []) before.are ∙ ap (λ l. results ++ (key, l) ∷ []) is.are;
    each = all_pushed (λ (r : JudgedResult). AllByRecursion (IsJudged s files) (r.1)) front (key, found) before.each is.each;
  }

not_empty : (xs : Bytes) (x : ℕ) (rest : Bytes) → xs ≡ x ∷ rest → (length xs == 0) ≡ false
not_empty xs x rest is =
    elim (length xs == 0) as (λ t. (length xs == 0) ≡ t → t ≡ false) [
      | true ↦ λ e. let none : length xs ≡ 0 = (Decides-eqb (length xs) 0).0 e in let some : length xs ≡ length (x ∷ rest) = ap length is in absurd (omega (arith, none, some))
      | false ↦ λ e. refl
    ] refl

-- there is no line exactly if no included file has a difference
pub no_lines : (found : List Judged) → (length (flat_map include_line found) == 0) ≡ list_all (λ (j : Judged). is_none (j.1)) found
no_lines [] = refl
no_lines ((i, None) ∷ found) = no_lines found
no_lines ((i, Some difference) ∷ found) = not_empty (flat_map include_line ((i, Some difference) ∷ found)) _ _ refl

-- ---- lines

-- one more of a list that is gone over
pub taken_more : {X Y : Type 0} (f : X → Y) (xs : List X) (i : ℕ) (x : X) → i < length xs → x ≡ get_or xs i x → map f (take (i + 1) xs) ≡ map f (take i xs) ++ f x ∷ []
taken_more f xs i x within at =
    ap (map f) (take_more xs i x within) ∙ map_push f (take i xs) (get_or xs i x) ∙ ap (λ y. map f (take i xs) ++ f y ∷ []) (sym at)

-- the lines of one more are appended
pub lines_on : {X : Type 0} (line : X → Bytes) (front : List X) (x : X) (old now then : Bytes) → now ≡ old ++ flat_map line front → then ≡ now ++ line x
    → then ≡ old ++ flat_map line (front ++ x ∷ [])
lines_on line front x old now then so_far one =
    one ∙ ap (λ l. l ++ line x) so_far ∙ append_assoc old (flat_map line front) (line x)
    ∙ ap (λ l. old ++ l) (ap (λ l. flat_map line front ++ l) (sym (append-nil (line x))) ∙ sym (flat_map-append line front (x ∷ [])))

-- ---- from the greatest key down

pub reverse-cons : {X : Type 0} (x : X) (xs : List X) → reverse (x ∷ xs) ≡ reverse xs ++ x ∷ []
reverse-cons x xs = reverse-append (x ∷ []) xs

-- ---- texts that are appended one after the other

three : (a b c d : Bytes) → a ++ b ++ c ++ d ≡ a ++ (b ++ c ++ d)
three a b c d = ap (λ l. l ++ d) (append_assoc a b c) ∙ append_assoc a (b ++ c) d

four : (a b c d e : Bytes) → a ++ b ++ c ++ d ++ e ≡ a ++ (b ++ c ++ d ++ e)
four a b c d e = ap (λ l. l ++ e) (three a b c d) ∙ append_assoc a (b ++ c ++ d) e

five : (a b c d e f : Bytes) → a ++ b ++ c ++ d ++ e ++ f ≡ a ++ (b ++ c ++ d ++ e ++ f)
five a b c d e f = ap (λ l. l ++ f) (four a b c d e) ∙ append_assoc a (b ++ c ++ d ++ e) f

six : (a b c d e f g : Bytes) → a ++ b ++ c ++ d ++ e ++ f ++ g ≡ a ++ (b ++ c ++ d ++ e ++ f ++ g)
six a b c d e f g = ap (λ l. l ++ g) (five a b c d e f) ∙ append_assoc a (b ++ c ++ d ++ e ++ f) g

pub result_appended : (old a b d e f g key word differences : Bytes) (judged : List Judged) → a ≡ old ++ codes "result " → b ≡ a ++ quoted key → d ≡ b ++ codes " " → e ≡ d ++ word
    → f ≡ e ++ 10 ∷ [] → g ≡ f ++ differences → word ≡ change_word (length differences == 0) → differences ≡ flat_map include_line judged → g ≡ old ++ result_lines (key, judged)
result_appended old a b d e f g key word differences judged a_is b_is d_is e_is f_is g_is word_is differences_are =
    let said : word ≡ change_word (list_all (λ (j : Judged). is_none (j.1)) judged) = word_is ∙ ap (λ l. change_word (length l == 0)) differences_are ∙ ap change_word (no_lines judged) in
    g_is ∙ ap (λ l. l ++ differences) (f_is ∙ ap (λ l. l ++ 10 ∷ []) (e_is ∙ ap (λ l. l ++ word) (d_is ∙ ap (λ l. l ++ codes " ") (b_is ∙ ap (λ l. l ++ quoted key) a_is))))
    ∙ six old (codes "result ") (quoted key) (codes " ") word (10 ∷ []) differences
    ∙ ap (λ l. old ++ (codes "result " ++ quoted key ++ codes " " ++ l ++ 10 ∷ [] ++ differences)) said
    ∙ ap (λ l. old ++ (codes "result " ++ quoted key ++ codes " " ++ change_word (list_all (λ (j : Judged). is_none (j.1)) judged) ++ 10 ∷ [] ++ l)) differences_are

pub opening_appended : (old a b d e key line : Bytes) (calls : List StoreCall) → a ≡ old ++ codes "preprocessor_key " → b ≡ a ++ key → d ≡ b ++ 10 ∷ [] → e ≡ d ++ line
    → key ≡ key_of calls → line ≡ not_asked_line calls → e ≡ (old ++ opening_lines calls) ++ []
opening_appended old a b d e key line calls a_is b_is d_is e_is key_is line_is =
    e_is ∙ ap (λ l. l ++ line) (d_is ∙ ap (λ l. l ++ 10 ∷ []) (b_is ∙ ap (λ l. l ++ key) a_is))
    ∙ four old (codes "preprocessor_key ") key (10 ∷ []) line
    ∙ ap (λ l. old ++ (codes "preprocessor_key " ++ l ++ 10 ∷ [] ++ line)) key_is
    ∙ ap (λ l. old ++ (codes "preprocessor_key " ++ key_of calls ++ 10 ∷ [] ++ l)) line_is
    ∙ sym (append-nil (old ++ opening_lines calls))
