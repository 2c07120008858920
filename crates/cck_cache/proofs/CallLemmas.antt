-- the lines for a shell
use Rattle.std.proofs.Common.{◌≡◌, ℕ, List, [], ◌∷◌, ◌++◌, ap, sym, ◌∙◌, append_assoc}
use Rattle.std.proofs.lemmas.Grind.{flat_map-append}
use Rattle.std.proofs.lemmas.List.{append-nil}
use Rattle.cck_cache_options.specs.Quote.{command, quoted_and_space}

-- the words, then one more, a line feed, and another line
pub line_and_more : (words : List (List ℕ)) (word other : List ℕ) (a b c d e : List ℕ) → a ≡ command words → b ≡ a ++ quoted_and_space word → c ≡ b ++ 10 ∷ [] → d ≡ c ++ other → e ≡ d ++ 10 ∷ []
    → e ≡ command (words ++ word ∷ []) ++ 10 ∷ other ++ 10 ∷ []
line_and_more words word other a b c d e first second third fourth fifth =
    let all : command words ++ quoted_and_space word ≡ command (words ++ word ∷ []) = sym (flat_map-append quoted_and_space words (word ∷ []) ∙ ap (λ t. command words ++ t) (append-nil (quoted_and_space word))) in
    let line : c ≡ command (words ++ word ∷ []) ++ 10 ∷ [] = third ∙ ap (λ t. t ++ 10 ∷ []) (second ∙ ap (λ t. t ++ quoted_and_space word) first ∙ all) in
    fifth ∙ ap (λ t. t ++ 10 ∷ []) (fourth ∙ ap (λ t. t ++ other) line ∙ append_assoc (command (words ++ word ∷ [])) (10 ∷ []) other)
