use Rattle.std.proofs.Common.{◌≢◌, ◌<◌, ℕ, get_or}
use Rattle.cck_util.specs.Language.{language_name}
use Rattle.cck_util.specs.declared.language.Language.TheVariants.{Assembler}
use Rattle.cck_util.proofs.language.LanguageFromStr.from_str.Given as goal

-- no language so far has the name
abbrev pub invariant-loop-language : goal.invariant-loop-language
invariant-loop-language l = (k : ℕ) → k < l.language-index → language_name (get_or l.language-items k Assembler) ≢ l.name
