use Rattle.std.proofs.Common.{◌∙◌, ap, length}
use Rattle.std.specs.Option.{unwrap_or}
use Rattle.cck_cache_rules.proofs.SizeLemmas.{count_from_position}
use Rattle.cck_cache_rules.proofs.size.digit_count.Goals as goal

pub returns : goal.returns
returns c = c.unwrap_or.ensures ∙ ap (λ found. unwrap_or found (length c.args.text.now)) c.first_other.ensures ∙ count_from_position c.args.text.now
