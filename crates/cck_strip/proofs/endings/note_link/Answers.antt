use Rattle.cck_strip.proofs.EndingLemmas.{HasLinks-note}
use Rattle.cck_strip.proofs.endings.note_link.Goals as goal

pub returns-then-is_none : goal.returns-then-is_none
returns-then-is_none c =
    let longer = c.requires.longer in
    record { links = HasLinks-note _ _ _ _ (longer.0) _ _ c.requires.links c.requires.id_within c.requires.read (longer.1) c.link_of.ensures.within c.link_of.ensures.is }
