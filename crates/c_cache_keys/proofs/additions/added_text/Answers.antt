use Rattle.std.proofs.Common.{subst}
use Rattle.std.specs.Prelude.{MatchOption}
use Rattle.std.specs.FinMap.{empty, insert}
use Rattle.cck_entry.specs.Entry.{EntryText}
use Rattle.cck_entry.specs.Lent.{result_lent}
use Rattle.c_cache_keys.proofs.AdditionTexts.{added_by}
use Rattle.c_cache_keys.specs.Additions.{IsNoEntry}
use Rattle.c_cache_keys.specs.SnapshotLaws.{HasOneResult}
use Rattle.c_cache_keys.proofs.additions.added_text.Goals as goal

pub returns : goal.returns
returns c =
    let one = subst (λ v. MatchOption v (HasOneResult c.args.one.now → ⊥) (λ lent. EntryText (insert empty (result_lent lent).0 (result_lent lent).1) c.args.one.now)) c.in-Some.is c.in_ok-lent.ensures in
    let held = subst (λ v. MatchOption v (IsNoEntry c.args.held.now) (λ entry. EntryText entry c.args.held.now)) c.in-Some-2.is c.in_ok-entry.ensures in
    added_by c.args.held.now c.args.one.now c.in_ok-text_of.field-0.items _ _ _ _ held one c.in-Ok.ensures.ok c.in_ok-text_of.ensures
