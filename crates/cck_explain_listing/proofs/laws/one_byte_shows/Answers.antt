use Rattle.cck_explain_listing.proofs.ChecksumLemmas.{one_byte_shows}
use Rattle.cck_explain_listing.proofs.laws.one_byte_shows.Goals as goal

pub returns : goal.returns
returns c = one_byte_shows
