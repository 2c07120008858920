-- directives at the front of a line
use Rattle.std.specs.Prelude.{ℕ, Bool, true, ◌||◌, List, [], Option, Some, None, codes, if◌then◌else◌}
use Rattle.std.specs.Option.{option_map_or}
use Rattle.std.specs.Str.{bytes_eq}
use Rattle.cck_cache_text.specs.Identifier.{after_blanks, rest_of_word, stripped, word_of}
use Rattle.cck_digest.specs.TimeMacros.{has}
use Rattle.cck_cache_text.specs.Splices.{before_blanks}

-- what is between a `#` at the front of a line and the end of this text, without blanks around it
abbrev pub directive_words : List ℕ → List ℕ
directive_words before = option_map_or (λ rest. before_blanks (after_blanks rest)) (stripped 35 (after_blanks before)) []

-- a text ends in `ifdef` or `ifndef` as a directive
abbrev pub asks_for_definition : List ℕ → Bool
asks_for_definition before = bytes_eq (directive_words before) (codes "ifdef") || bytes_eq (directive_words before) (codes "ifndef")

-- the name of the directive at the front of a line in which no comment ends
abbrev pub directive : List ℕ → List ℕ
directive before = if has before (codes "*/") then [] else option_map_or (λ rest. word_of (after_blanks rest)) (stripped 35 (after_blanks before)) []

-- what follows the name of a directive at the front of a line, if it is `if` or `elif`
abbrev pub condition_of : List ℕ → Option (List ℕ)
condition_of before =
    let words = option_map_or after_blanks (stripped 35 (after_blanks before)) [] in
    if bytes_eq (word_of words) (codes "if") || bytes_eq (word_of words) (codes "elif") then Some (rest_of_word words) else None

-- a line may be a directive, which begins with `#`, `%:` or `??=`, after comments
abbrev pub may_be_directive : List ℕ → Bool
may_be_directive before = has before (codes "#") || has before (codes "%:") || has before (codes "??=") || has before (codes "*/")

-- What is after this text on its line is in no condition and in no macro: the line is no directive, or one that ends a condition.
abbrev pub is_harmless : List ℕ → Bool
is_harmless before =
    if may_be_directive before then (bytes_eq (directive before) (codes "else") || bytes_eq (directive before) (codes "endif")) else true
