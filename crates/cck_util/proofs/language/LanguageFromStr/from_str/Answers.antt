use Rattle.std.proofs.Common.{arith, below_more}
use Rattle.std.specs.Cmp.Lexicographic.{other_text}
use denote.Enum.Declared.{tag_of}
use Rattle.cck_util.specs.contracts.language.Language.{the_type}
use Rattle.cck_util.specs.declared.language.Language.TheVariants.{Assembler}
use Rattle.cck_util.proofs.language.LanguageFromStr.from_str.Goals as goal

pub loop-language-preserved : goal.loop-language-preserved
loop-language-preserved c =
    let other = other_text c.as_str.result.now c.args.name.now c.if-eq.ensures in
    below_more _ _ c.loop-language.invariant (rw c.as_str.ensures at other)

-- each language is in the list, at its position among the variants
pub returns : goal.returns
returns c =
    let seen = c.loop-language.invariant in
    elim [
      | Assembler ↦ seen 0 (omega arith)
      | language ↦ seen (tag_of the_type language) (omega arith)
    ]
