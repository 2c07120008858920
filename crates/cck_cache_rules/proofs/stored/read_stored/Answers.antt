use Rattle.std.proofs.Common.{sym, ◌∙◌}
use Rattle.std.specs.Option.{option_map}
use Rattle.std.proofs.lemmas.Result.{IfOk-weaker}
use Rattle.cck_cache_rules.specs.Reading.{lent_lists}
use Rattle.cck_cache_rules.proofs.ReadingLemmas.{differ, equal}
use Rattle.cck_cache_rules.proofs.StoredLemmas.{not_cut, other_checksum, whole_file}
use Rattle.cck_cache_rules.proofs.stored.read_stored.Goals as goal

pub returns-in_default : goal.returns-in_default
returns-in_default c = not_cut c.args.kind.now c.args.bytes.now c.in_default.ensures

pub returns-then-ne : goal.returns-then-ne
returns-then-ne c =
    let written = c.in-Some.written.now in
    let apart = differ c.as_flattened.result.now written c.if-ne.ensures in
    other_checksum c.args.kind.now c.args.bytes.now written c.in-Some.frames.now c.in-Some.ensures.0 c.in-Some.ensures.1
    (λ same. apart (c.as_flattened.ensures.value ∙ (c.checksum-sums.ensures ∙ same)))

pub returns : goal.returns
returns c =
    let written = c.in-Some.written.now in
    let same = equal c.as_flattened.result.now written c.if-ne.ensures in
    IfOk-weaker c.read_frames.result _ _
    (λ found read. whole_file c.args.kind.now c.args.bytes.now written c.in-Some.frames.now (option_map lent_lists found) c.in-Some.ensures.0 c.in-Some.ensures.1
    (sym c.checksum-sums.ensures ∙ (sym c.as_flattened.ensures.value ∙ same)) read)
    c.read_frames.ensures
