use Rattle.std.proofs.Common.{map, subst}
use Rattle.cck_strip.specs.Search.{Finds}
use Rattle.cck_strip.proofs.into.sites_cut_into.Goals as goal

pub cut_into-requires : goal.cut_into-requires
cut_into-requires c = record {
  text_is = c.requires.text_is;
  finds = subst (λ s. Finds s (map (λ b. b.items) c.args.sites.now.basedirs.now)) c.in-FirstBytes.is c.requires.finds;
  room = c.requires.room;
}

pub returns-in-FirstBytes : goal.returns-in-FirstBytes
returns-in-FirstBytes c = c.cut_into.ensures

pub cut_into-requires-in-Byte : goal.cut_into-requires-in-Byte
cut_into-requires-in-Byte c = record {
  text_is = c.requires.text_is;
  finds = subst (λ s. Finds s (map (λ b. b.items) c.args.sites.now.basedirs.now)) c.in-Byte.is c.requires.finds;
  room = c.requires.room;
}

pub returns-in-Byte : goal.returns-in-Byte
returns-in-Byte c = c.cut_into-in-Byte.ensures

pub cut_into-requires-in-Word : goal.cut_into-requires-in-Word
cut_into-requires-in-Word c = record {
  text_is = c.requires.text_is;
  finds = subst (λ s. Finds s (map (λ b. b.items) c.args.sites.now.basedirs.now)) c.in-Word.is c.requires.finds;
  room = c.requires.room;
}

pub returns-in-Word : goal.returns-in-Word
returns-in-Word c = c.cut_into-in-Word.ensures
