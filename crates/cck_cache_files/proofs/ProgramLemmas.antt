-- The lines of a list of programs, and the last part of a path.
use Rattle.std.proofs.Common.{◌≡◌, ◌<◌, ◌≤◌, ◌+◌, ◌-◌, ◌%◌, ◌^◌, ℕ, zero, suc, List, [], ◌∷◌, ◌++◌, Option, None, Some, Bool, true, false, not, IsTrue, ◌↔◌, length, get_or, take, drop, refl, sym, ap, ◌∙◌, subst, inl, inr, ⊎_elim, arith, append_assoc, length-append, codes}
use mathlib.Core.Bool.{false≢true}
use denote.Ref.{Bor}
use Rattle.std.specs.Option.{MatchOption}
use Rattle.std.specs.Bool.{MatchBool}
use Rattle.std.specs.Str.Pattern.{FindsChar, FindsTextPrefix, RFindsChar}
use Rattle.std.specs.Fmt.{decimal}
use Rattle.std.proofs.lemmas.Bool.{cases_lt}
use Rattle.std.proofs.lemmas.Fmt.{decimal_by_steps, decimal_injective}
use Rattle.std.proofs.Math.Seq.{get_or-append_seam}
use Rattle.std.proofs.lemmas.List.{append_cancel_left, get_or-append_right, get_or_append_left, take-append-drop}
use Rattle.std.proofs.lemmas.Str.Pattern.{IsSplitOnceResult, NoCharPasses-char, contains_char, drop_at_char, split_parts}
use Rattle.cck_cache_files.specs.Programs.{AreLines, HasLines, IsLastPart, IsLine, Lacks, StartsLine, lines_before, list_path}

-- ---- bytes

-- the one byte of a text
at_only : (b k : ℕ) → k < 1 → get_or (b ∷ []) k 0 ≡ b
at_only b zero l = refl
at_only b (suc k) l = absurd (omega arith)

-- a text has each of its bytes
has_byte : (c : ℕ) (text front rest : List ℕ) → Lacks c text → text ≡ front ++ c ∷ rest → ⊥
has_byte c text front rest lacks e =
    lacks (length front) (omega (arith, ap length e, length-append front (c ∷ rest))) (ap (λ t. get_or t (length front) 0) e ∙ get_or-append_seam front c rest 0)

-- ---- lines

-- a text begins with one line
pub one_line : (a b x y : List ℕ) → IsLine a → IsLine b → a ++ 10 ∷ x ≡ b ++ 10 ∷ y → (a ≡ b) × (x ≡ y)
one_line [] [] x y la lb e = (refl, cc)
one_line [] (d ∷ b) x y la lb e = let same : d ≡ 10 = cc in absurd (lb 0 (omega arith) same)
one_line (c ∷ a) [] x y la lb e = let same : c ≡ 10 = cc in absurd (la 0 (omega arith) same)
one_line (c ∷ a) (d ∷ b) x y la lb e =
    let both : (a ≡ b) × (x ≡ y) = one_line a b x y (λ k l. la (suc k) (omega arith)) (λ k l. lb (suc k) (omega arith)) cc in
    let head : c ≡ d = cc in
    (λ i. head i ∷ both.0 i, both.1)

-- the first line
pub starts_line : (text : List ℕ) (r : Option (Bor (List ℕ) × Bor (List ℕ))) → IsSplitOnceResult 10 text r
    → MatchOption r ((line rest : List ℕ) → StartsLine text line rest → ⊥) (λ parts. StartsLine text parts.0.now parts.1.now)
starts_line text None h = λ line rest starts. has_byte 10 text line rest (split_parts 10 text None h (omega arith)) starts.text_is
starts_line text (Some parts) h = let both = split_parts 10 text (Some parts) h (omega arith) in record { line_is = both.1; text_is = both.0 }

-- a text without a line feed
pub line_by_contains : (text : List ℕ) (r : Bool) → MatchBool r ((i : ℕ) × (j : ℕ) × FindsChar 10 text (Some (i, j)) × (i ≤ j) × (j ≤ length text)) (FindsChar 10 text None)
    → IsTrue (not r) ↔ IsLine text
line_by_contains text true h =
    let found = (contains_char 10 text true h (omega arith)).0 refl in
    (λ f. absurd (false≢true f), λ line. absurd (line found.0 found.1 found.2))
line_by_contains text false h =
    let all = (contains_char 10 text false h (omega arith)).1 in
    (λ _ k l e. false≢true (all k l e), λ _. refl)

-- what follows the first lines of a list
pub after_first : (first text rest end : List ℕ) (lines : List (List ℕ)) → (n : ℕ) × FindsTextPrefix first text (Some n) × (rest ≡ drop n text) × (length rest + n ≡ length text)
    → HasLines first text lines end → rest ≡ lines_before lines end
after_first first text rest end lines found has =
    append_cancel_left first rest (lines_before lines end) (ap (λ t. first ++ t) found.2 ∙ sym found.1.1 ∙ has.text_is)

-- what follows the next one
pub after_line : (text line rest first end : List ℕ) (lines : List (List ℕ)) → StartsLine text line rest → AreLines (first ∷ lines) → text ≡ lines_before (first ∷ lines) end
    → rest ≡ lines_before lines end
after_line text line rest first end lines starts are e = (one_line line first rest (lines_before lines end) starts.line_is are.0 (sym starts.text_is ∙ e)).1

-- lines start with the first one
pub lines_start : (text first end : List ℕ) (lines : List (List ℕ)) → AreLines (first ∷ lines) → text ≡ lines_before (first ∷ lines) end → StartsLine text first (lines_before lines end)
lines_start text first end lines are e = record { line_is = are.0; text_is = e }

-- ---- paths

-- a name without a slash
pub no_slash_by_contains : (name : List ℕ) → MatchBool false ((i : ℕ) × (j : ℕ) × FindsChar 47 name (Some (i, j)) × (i ≤ j) × (j ≤ length name)) (FindsChar 47 name None) → Lacks 47 name
no_slash_by_contains name h = λ k l e. false≢true ((contains_char 47 name false h (omega arith)).1 k l e)

pub list_path_joined : (store name size : List ℕ) → store ++ (codes "/compilers/" ++ (name ++ 45 ∷ size)) ≡ store ++ codes "/compilers/" ++ name ++ codes "-" ++ size
list_path_joined store name size = simp append_assoc

-- a path that is divided at its last slash
pub parts_last : (path front name : List ℕ) → (i : ℕ) × (j : ℕ) × RFindsChar 47 path (Some (i, j)) × (front ≡ take i path) × (name ≡ drop j path) × (i ≤ j) × (length front ≡ i) × (length name + j ≡ length path)
    → Lacks 47 name × (path ≡ front ++ 47 ∷ name)
parts_last path front name h = (
  λ k l e. NoCharPasses-char 47 (drop h.1 path) k h.2.0 (omega arith) (subst (λ t. k < length t) h.4 l) (ap (λ t. get_or t k 0) (sym h.4) ∙ e),
  sym (take-append-drop h.0 path) ∙ ap (λ t. take h.0 path ++ t) (drop_at_char 47 path h.0 h.1 h.2.1 (omega arith))
      ∙ ap (λ t. t ++ 47 ∷ drop h.1 path) (sym h.3) ∙ ap (λ t. front ++ 47 ∷ t) (sym h.4),
)

pub last_part : (path front name : List ℕ) → (i : ℕ) × (j : ℕ) × RFindsChar 47 path (Some (i, j)) × (front ≡ take i path) × (name ≡ drop j path) × (i ≤ j) × (length front ≡ i) × (length name + j ≡ length path)
    → IsLastPart path name
last_part path front name h = let both = parts_last path front name h in record { no_slash = both.0; last = inr (front, both.1) }

pub whole_part : (path : List ℕ) → RFindsChar 47 path None → IsLastPart path path
whole_part path h = record { no_slash = λ k. NoCharPasses-char 47 path k h (omega arith); last = inl refl }

-- a digit is no hyphen
no_hyphen : (n : ℕ) → n < 2 ^ 64 → Lacks 45 (decimal n)
no_hyphen n small =
    decimal_by_steps (λ _ ds. Lacks 45 ds)
    (λ d below k l e. let same : 48 + d ≡ 45 = sym (at_only (48 + d) k l) ∙ e in omega (arith, same))
    (λ d ds above none k l e.
    ⊎_elim
    (λ inside. none k inside (sym (get_or_append_left ds ((48 + d % 10) ∷ []) 0 k inside) ∙ e))
    (λ past. let same : 48 + d % 10 ≡ 45 = sym (at_only (48 + d % 10) (k - length ds) (omega (arith, l, length-append ds ((48 + d % 10) ∷ [])))) ∙ sym (get_or-append_right ds ((48 + d % 10) ∷ []) (length ds) k 0 refl past) ∙ e in omega (arith, same))
    (cases_lt k (length ds)))
    n small

-- a text ends in one part after a byte that the part lacks
one_end : (c : ℕ) (a b x y : List ℕ) → Lacks c x → Lacks c y → a ++ c ∷ x ≡ b ++ c ∷ y → (a ≡ b) × (x ≡ y)
one_end c [] [] x y lx ly e = (refl, cc)
one_end c [] (d ∷ b) x y lx ly e = let rest : x ≡ b ++ c ∷ y = cc in absurd (has_byte c x b y lx rest)
one_end c (d ∷ a) [] x y lx ly e = let rest : y ≡ a ++ c ∷ x = cc in absurd (has_byte c y a x ly rest)
one_end c (d ∷ a) (f ∷ b) x y lx ly e =
    let both : (a ≡ b) × (x ≡ y) = one_end c a b x y lx ly cc in
    let head : d ≡ f = cc in
    (λ i. head i ∷ both.0 i, both.1)

pub list_of_path : (store m n : List ℕ) (i j : ℕ) → i < 2 ^ 64 → j < 2 ^ 64 → list_path store m i ≡ list_path store n j → (m ≡ n) × (i ≡ j)
list_of_path store m n i j si sj e =
    let joined = list_path_joined store m (decimal i) ∙ e ∙ sym (list_path_joined store n (decimal j)) in
    let below = append_cancel_left (codes "/compilers/") _ _ (append_cancel_left store _ _ joined) in
    let both = one_end 45 m n (decimal i) (decimal j) (no_hyphen i si) (no_hyphen j sj) below in
    (both.0, decimal_injective i j si sj both.1)
