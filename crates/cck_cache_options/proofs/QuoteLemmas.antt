-- a shell reads quoted arguments back
use Rattle.std.proofs.Common.{◌≡◌, ◌≢◌, ℕ, Bool, true, false, cond, List, [], ◌∷◌, ◌++◌, Some, refl, ap, sym, ◌∙◌, append_assoc, map, nat_eq}
use Rattle.std.specs.Prelude.{flat_map}
use Rattle.std.specs.List.{AllByRecursion}
use Rattle.std.specs.Option.{option_map}
use Rattle.std.proofs.lemmas.Bool.Decides.{Decides-eqb}
use Rattle.cck_cache_options.specs.Quote.{HasNoNul, ReadsBack, add_byte, command, preprocessor_arguments, preprocessor_command, quoted_and_space, quoted_byte, shell_words}
use Rattle.cck_cache_options.specs.Call.{KeyedArgument, is_preprocessed}
use Rattle.cck_cache_options.specs.Quote.Place.{between, quotes}

not_equal : (a b : ℕ) → a ≢ b → nat_eq a b ≡ false
not_equal a b other = by_test (nat_eq a b) refl
  where
    by_test : (t : Bool) → nat_eq a b ≡ t → t ≡ false
    by_test false e = refl
    by_test true e = absurd (other ((Decides-eqb a b).0 e))

byte_read : (b : ℕ) (tail word : List ℕ) (words : List (List ℕ)) → b ≢ 0 → shell_words quotes tail ≡ Some (word ∷ words)
    → shell_words quotes (quoted_byte b ++ tail) ≡ Some ((b ∷ word) ∷ words)
byte_read b tail word words other h = by_quote (nat_eq b 39) refl
  where
    by_quote : (t : Bool) → nat_eq b 39 ≡ t → shell_words quotes (cond t (39 ∷ 92 ∷ 39 ∷ 39 ∷ []) (b ∷ []) ++ tail) ≡ Some ((b ∷ word) ∷ words)
    by_quote true e = ap (option_map (add_byte 39)) h ∙ ap (λ n. Some ((n ∷ word) ∷ words)) (sym ((Decides-eqb b 39).0 e))
    by_quote false e =
        let z : nat_eq b 0 ≡ false = not_equal b 0 other in
        rw (e, z) (ap (option_map (add_byte b)) h)

quotes_read : (word text : List ℕ) (words : List (List ℕ)) → HasNoNul word → shell_words between text ≡ Some words
    → shell_words quotes (flat_map quoted_byte word ++ (39 ∷ 32 ∷ text)) ≡ Some (word ∷ words)
quotes_read [] text words all h = ap (option_map (λ ws. [] ∷ ws)) h
quotes_read (b ∷ word) text words all h =
    ap (shell_words quotes) (append_assoc (quoted_byte b) (flat_map quoted_byte word) (39 ∷ 32 ∷ text))
    ∙ byte_read b (flat_map quoted_byte word ++ (39 ∷ 32 ∷ text)) word words all.0 (quotes_read word text words all.1 h)

pub reads_back : ReadsBack
reads_back [] all = refl
reads_back (argument ∷ arguments) all =
    let body = flat_map quoted_byte argument in
    let text = command arguments in
    ap (shell_words quotes) (append_assoc (body ++ 39 ∷ []) (32 ∷ []) text ∙ append_assoc body (39 ∷ []) (32 ∷ text))
    ∙ quotes_read argument text arguments all.0 (reads_back arguments all.1)

chosen_command : (keyed : List KeyedArgument) → preprocessor_command keyed ≡ command (preprocessor_arguments keyed)
chosen_command [] = refl
chosen_command (first ∷ others) = by_class (is_preprocessed first.class) (chosen_command others)
  where
    by_class : (t : Bool) → preprocessor_command others ≡ command (preprocessor_arguments others)
        → cond t (quoted_and_space first.argument) [] ++ preprocessor_command others ≡ command (cond t (first.argument ∷ []) [] ++ preprocessor_arguments others)
    by_class true again = ap (λ l. quoted_and_space first.argument ++ l) again
    by_class false again = again

chosen_no_nul : (keyed : List KeyedArgument) → AllByRecursion HasNoNul (map (λ k. k.argument) keyed) → AllByRecursion HasNoNul (preprocessor_arguments keyed)
chosen_no_nul [] all = tt
chosen_no_nul (first ∷ others) all = by_class (is_preprocessed first.class) (chosen_no_nul others all.1)
  where
    by_class : (t : Bool) → AllByRecursion HasNoNul (preprocessor_arguments others) → AllByRecursion HasNoNul (cond t (first.argument ∷ []) [] ++ preprocessor_arguments others)
    by_class true again = (all.0, again)
    by_class false again = again

pub preprocessor_reads : (keyed : List KeyedArgument) → AllByRecursion HasNoNul (map (λ k. k.argument) keyed)
    → shell_words between (preprocessor_command keyed) ≡ Some (preprocessor_arguments keyed)
preprocessor_reads keyed all = ap (shell_words between) (chosen_command keyed) ∙ reads_back (preprocessor_arguments keyed) (chosen_no_nul keyed all)
