use Rattle.std.proofs.Common.{[], sym, subst, List, ℕ}
use Rattle.cck_include.specs.Searches.{AreSearched}
use Rattle.cck_include.proofs.Cuts.{slice_from}
use Rattle.cck_include.proofs.ItemLemmas.{gives_both}
use Rattle.cck_include.proofs.SkipLemmas.{passed_bytes, known_after, same_marks}
use Rattle.cck_include.proofs.search.Searches.skip_plain.Goals as goal

pub returns-clause-known : goal.returns-clause-known
returns-clause-known c =
    let size = c.plain_size-size.result in
    subst (λ (text : List ℕ). AreSearched c.plain_size-size.new.self text) (sym (slice_from c.args.text.now size))
    (known_after c.plain_size-size.new.self c.args.text.now size c.plain_size-size.ensures.known c.plain_size-size.ensures.within)

pub returns-then-size-eq0-clause-passed : goal.returns-then-size-eq0-clause-passed
returns-then-size-eq0-clause-passed c = λ marks left. same_marks _ _ c.args.text.now marks (c.may_be_marked.ensures c.if-may_be_marked.false) left

pub returns-clause-passed : goal.returns-clause-passed
returns-clause-passed c =
    gives_both _ _ _ [] [] (λ marks left. same_marks _ _ c.args.text.now marks (c.may_be_marked.ensures c.if-may_be_marked.false) left)
    (passed_bytes c.args.text.now c.plain_size-size.result c.plain_size-size.ensures.within c.if-size-eq0.false c.plain_size-size.ensures.plain)
