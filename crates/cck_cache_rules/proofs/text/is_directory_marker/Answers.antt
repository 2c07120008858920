use Rattle.std.proofs.Common.{Some, None, codes}
use Rattle.std.proofs.lemmas.Bool.{false≢true}
use Rattle.std.proofs.lemmas.Bool.Decides.{Decides-eqb}
use Rattle.std.proofs.lemmas.Slice.Eq.{strip_prefix_is}
use Rattle.cck_cache_rules.proofs.ListLemmas.{ends_decided, starts_decided}
use Rattle.cck_cache_rules.proofs.TextLemmas.{marker_decided, no_marker}
use Rattle.cck_cache_rules.proofs.text.is_directory_marker.Goals as goal

pub returns-then-ends_with : goal.returns-then-ends_with
returns-then-ends_with c =
    let begins = strip_prefix_is Decides-eqb c.args.after.now c.args.directory.now (Some c.in-Some.end) c.in-Some.ensures.cases in
    marker_decided _ _ _ _ begins c.starts_with.result
    ((ends_decided c.args.before.now (codes "\n# 1 \"") c.ends_with.result c.ends_with.ensures.value).0 c.if-ends_with.true)
    (starts_decided c.in-Some.end.now (codes "//\"\n") c.starts_with.result c.starts_with.ensures.value)

pub returns-in-None : goal.returns-in-None
returns-in-None c =
    let other = strip_prefix_is Decides-eqb c.args.after.now c.args.directory.now None c.in-None.ensures.cases in
    (λ q. absurd (false≢true q), λ marker. absurd (no_marker c.args.before.now c.args.after.now c.args.directory.now other marker))
