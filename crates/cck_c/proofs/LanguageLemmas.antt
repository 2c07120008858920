-- the names of languages are UTF-8
use Rattle.std.proofs.Common.{◌≡◌, ℕ, List, true, refl, subst}
use Rattle.std.specs.Str.{IsUtf8, chars, is_utf8}
use lib.Utf8.{encode}
use Rattle.std.proofs.lemmas.Str.{IsUtf8-from_is_utf8}
use Rattle.cck_util.specs.Language.{language_name}
use Rattle.cck_util.specs.declared.language.Language.{Language}
use Rattle.cck_util.specs.declared.language.Language.TheVariants.{Assembler}
use Rattle.cck_c.specs.Key.{NamesNone}

-- the second line stands for all languages but the first
name_passes : (language : Language) → is_utf8 (language_name language) ≡ true
unfolding is_utf8 chars encode
name_passes Assembler = refl
name_passes _ = refl

-- bytes that are not UTF-8 are no language's name
pub no_name : (name : List ℕ) → ¬ (IsUtf8 name) → NamesNone name
no_name name not language named = not (subst IsUtf8 named (IsUtf8-from_is_utf8 (language_name language) (name_passes language)))
