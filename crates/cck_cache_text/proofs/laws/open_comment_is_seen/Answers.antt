use Rattle.cck_cache_text.proofs.CommentLemmas.{comment_is_seen}
use Rattle.cck_cache_text.proofs.laws.open_comment_is_seen.Goals as goal

pub returns : goal.returns
returns c = comment_is_seen
