use Rattle.std.proofs.Common.{◌≡◌, ◌≤◌, ℕ, List, [], ◌∷◌, Result, Ok, Err, Some, map, string_bytes, length, drop, get_or, refl, arith, ap, ◌∙◌, sym, ◌-◌, Bool, true, false, not, codes}
use Rattle.std.specs.Cmp.Lexicographic.{same_text}
use Rattle.std.proofs.lemmas.List.{take_all, length-drop}
use Rattle.std.specs.Result.{result_ok}
use Rattle.cck_util.specs.Language.{NamesLanguage, language_name}
use Rattle.cck_util.specs.declared.language.Language.{Language}
use Rattle.cck_util.specs.declared.language.UnknownLanguage.{UnknownLanguage}
use Rattle.cck_command.proofs.request.KeyRequest.from_words.Goals as goal

three : {X : Type 0} (xs : List X) (a b c : X) → 3 ≤ length xs → a ≡ get_or xs 0 a → b ≡ get_or xs 1 b → c ≡ get_or xs 2 c → xs ≡ a ∷ b ∷ c ∷ drop 3 xs
three [] a b c h p q r = absurd (omega arith)
three (x ∷ []) a b c h p q r = absurd (omega arith)
three (x ∷ y ∷ []) a b c h p q r = absurd (omega arith)
three (x ∷ y ∷ z ∷ xs) a b c h p q r = cc

named : (name : List ℕ) (found : Result Language UnknownLanguage) (language : Language) → NamesLanguage name found → result_ok found ≡ Some language → name ≡ language_name language
named name (Ok other) language names e = let same : other ≡ language = cc in sym names ∙ ap language_name same
named name (Err error) language names e = cc

joined : {X : Type 0} (a a' b b' c c' : X) (rest rest' : List X) → a ≡ a' → b ≡ b' → c ≡ c' → rest ≡ rest' → a ∷ b ∷ c ∷ rest ≡ a' ∷ b' ∷ c' ∷ rest'
joined a a' b b' c c' rest rest' p q r s = cc

not_false : (b : Bool) → false ≡ not b → true ≡ b
not_false true e = refl
not_false false e = cc

pub returns-clause-some : goal.returns-clause-some
returns-clause-some c =
    let words = c.args.words.now in
    let split = three words c.command-item.result c.compiler_digest-item.result c.name-item.result c.in-len3-up.len_at_least c.command-item.is c.compiler_digest-item.is c.name-item.is in
    let name = sym c.as_str-2.ensures.value ∙ named _ c.parse.result _ c.parse.ensures.value (sym c.ok.ensures.value ∙ c.in_ok-language.was) in
    let size = length-drop 3 words in
    let rest = sym (take_all (length words - 3) (drop 3 words) (omega arith)) in
    ap (map string_bytes) split ∙ joined _ _ _ _ _ _ _ _ (sym c.as_str.ensures.value ∙ same_text _ (codes "key") (not_false _ c.if-ne.ensures)) (sym c.as_str-3.ensures.value) name (ap (map string_bytes) rest)
