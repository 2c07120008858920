use Rattle.std.proofs.Common.{map, subst}
use Rattle.cck_strip.specs.Search.{Finds}
use Rattle.cck_strip.proofs.text.sites_cut_out.Goals as goal

pub returns-in-FirstBytes : goal.returns-in-FirstBytes
returns-in-FirstBytes c = c.cut_out.ensures

pub returns-in-Byte : goal.returns-in-Byte
returns-in-Byte c = c.cut_out-in-Byte.ensures

pub returns-in-Word : goal.returns-in-Word
returns-in-Word c = c.cut_out-in-Word.ensures

pub cut_out-requires : goal.cut_out-requires
cut_out-requires c = record {
  text_is = c.requires.text_is;
  finds = subst (λ s. Finds s (map (λ b. b.items) c.args.sites.now.basedirs.now)) c.in-FirstBytes.is c.requires.finds;
}

pub cut_out-requires-in-Byte : goal.cut_out-requires-in-Byte
cut_out-requires-in-Byte c = record {
  text_is = c.requires.text_is;
  finds = subst (λ s. Finds s (map (λ b. b.items) c.args.sites.now.basedirs.now)) c.in-Byte.is c.requires.finds;
}

pub cut_out-requires-in-Word : goal.cut_out-requires-in-Word
cut_out-requires-in-Word c = record {
  text_is = c.requires.text_is;
  finds = subst (λ s. Finds s (map (λ b. b.items) c.args.sites.now.basedirs.now)) c.in-Word.is c.requires.finds;
}
