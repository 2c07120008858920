use Rattle.std.proofs.Common.{Option, subst}
use Rattle.cck_cache_rules.specs.declared.object_file.ObjectFile.{ObjectFile}
use Rattle.cck_path.specs.Bytes.{lists_of}
use Rattle.cck_cache.specs.Record.{ObjectShowsBase}
use Rattle.cck_cache.proofs.RecordLemmas.{some_shows}
use Rattle.cck_cache.proofs.record.keep.Goals as goal

pub returns-in-Some : goal.returns-in-Some
returns-in-Some g c =
    let bases = lists_of c.args.bases.now in
    let is = rw c.in-Some.is at c.refusal_by_base.ensures in
    (is.0, some_shows bases c.in_ok-object.object (subst (λ (o : Option ObjectFile). ObjectShowsBase bases o) c.as_ref.ensures.value is.1))
