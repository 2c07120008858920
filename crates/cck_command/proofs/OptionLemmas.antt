-- The value of the last line that has one, line by line.
use Rattle.std.proofs.Common.{◌≡◌, ℕ, ◌<◌, ◌+◌, List, [], ◌∷◌, ◌++◌, append_assoc, refl, ap, sym, ◌∙◌, drop, get_or, length, map, reverse, Option, Some, None}
use Rattle.std.proofs.lemmas.List.{append-nil, at_drop_more, reverse-append}
use Rattle.std.specs.List.{cons_option, filter_map}
use Rattle.std.specs.Option.{option_to_list, unwrap_or}
use Rattle.cck_script.specs.Lines.{Line}
use Rattle.cck_command.specs.Script.{last_or}
use Rattle.cck_script.specs.Lines.{first_or}
use Rattle.cck_script.specs.Seen.{line_of}
use Rattle.cck_script.specs.declared.command.Command.{Command}

first_append : {A : Type 0} (other : A) (says : Line → Option A) (xs ys : List Line) → first_or other says (xs ++ ys) ≡ first_or (first_or other says ys) says xs
first_append other says [] ys = refl
first_append other says (x ∷ xs) ys = ap (unwrap_or (says x)) (first_append other says xs ys)

-- what is left of some commands, one step on
pub left_more : (items : List Command) (i : ℕ) (item : Command) → i < length items → item ≡ get_or items i item
    → map line_of (drop i items) ≡ line_of item ∷ map line_of (drop (i + 1) items)
left_more items i item lt at = at_drop_more (map line_of) items i item lt ∙ ap (λ c. line_of c ∷ map line_of (drop (i + 1) items)) (sym at)

-- the value of a line counts, unless a later line has one
pub last_more : {A : Type 0} (all other next : A) (says : Line → Option A) (items : List Command) (i : ℕ) (item : Command) → i < length items → item ≡ get_or items i item
    → all ≡ last_or other says (map line_of (drop i items)) → next ≡ unwrap_or (says (line_of item)) other → all ≡ last_or next says (map line_of (drop (i + 1) items))
last_more all other next says items i item lt at h e =
    h ∙ ap (last_or other says) (left_more items i item lt at)
    ∙ ap (first_or other says) (reverse-append (line_of item ∷ []) (map line_of (drop (i + 1) items)))
    ∙ first_append other says (reverse (map line_of (drop (i + 1) items))) (line_of item ∷ [])
    ∙ ap (λ o. last_or o says (map line_of (drop (i + 1) items))) (sym e)

filter_one : {A : Type 0} (front : List A) (o : Option A) (rest : List A) → front ++ cons_option o rest ≡ (front ++ option_to_list o) ++ rest
filter_one front None rest = ap (λ f. f ++ rest) (sym (append-nil front))
filter_one front (Some x) rest = sym (append_assoc front (x ∷ []) rest)

-- what is said so far, and what is said by the lines that are left
pub later_of_command : {A : Type 0} (all so_far next : List A) (says : Line → Option A) (items : List Command) (i : ℕ) (item : Command) → i < length items → item ≡ get_or items i item
    → all ≡ so_far ++ filter_map says (map line_of (drop i items)) → next ≡ so_far ++ option_to_list (says (line_of item))
    → all ≡ next ++ filter_map says (map line_of (drop (i + 1) items))
later_of_command all so_far next says items i item lt at h e =
    h ∙ ap (λ ls. so_far ++ filter_map says ls) (left_more items i item lt at)
    ∙ filter_one so_far (says (line_of item)) (filter_map says (map line_of (drop (i + 1) items)))
    ∙ ap (λ n. n ++ filter_map says (map line_of (drop (i + 1) items))) (sym e)
