use Rattle.std.proofs.Common.{refl}
use Rattle.std.proofs.lemmas.Result.{IfOk-weaker}
use Rattle.cck_path.specs.Bytes.{lists_of}
use Rattle.cck_cache.specs.Input.{IsCalm}
use Rattle.cck_cache.specs.Record.{IsEntryOf, IsEntryVerdict}
use Rattle.cck_cache.specs.declared.record.EntryVerdict.{EntryVerdict}
use Rattle.cck_cache.proofs.record.entry_of.Goals as goal

pub returns : goal.returns
returns g c =
    let environment = c.args.environment.now in
    let compilation = c.args.compilation.now in
    let text = c.args.text.now in
    let files = c.args.files.now in
    let asked = c.snapshot_request-asked.result in
    IfOk-weaker c.entry_over.result
    (λ (verdict : EntryVerdict). IsCalm files → IsEntryVerdict environment asked compilation text files.files verdict)
    (λ (verdict : EntryVerdict). IsCalm files → IsEntryOf environment c.args.request.now compilation (lists_of c.args.bases.now) text files.files verdict)
    (λ verdict found calm. record { asked = asked; is_request = c.snapshot_request-asked.ensures c.args.request.now refl c.in_ok-hasher.ensures; found = found calm }) c.entry_over.ensures
