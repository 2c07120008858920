use Rattle.std.proofs.Common.{refl}
use Rattle.cck_files.specs.Calls.{Rose}
use Rattle.c_cache_keys.proofs.RecordingLemmas.{records, errs, starved}
use Rattle.c_cache_keys.proofs.recordings.record_text.Goals as goal

pub returns-in-Err-clause-errors : goal.returns-in-Err-clause-errors
returns-in-Err-clause-errors g c =
    starved g.H.HashState.hash (g.F.Files.file_map c.args.snapshot.now) c.args.request.now
    (Rose (g.F.Files.faults c.args.snapshot.now) (g.F.Files.faults c.args.snapshot.now)) c.args.text.now _ c.in-Err.ensures.errors

pub returns-in-Err-computed_key-clause-errors : goal.returns-in-Err-computed_key-clause-errors
returns-in-Err-computed_key-clause-errors g c =
    errs g.H.HashState.hash (g.F.Files.file_map c.args.snapshot.now) c.args.request.now
    (Rose (g.F.Files.faults c.args.snapshot.now) (g.F.Files.faults c.generate_hash_key-found.new.files)) c.args.text.now
    c.in-Ok.hasher c.in-Ok.ensures.same _ _ c.new-store.ensures _ c.generate_hash_key-found.ensures.step _ c.in-Err-computed_key.ensures.errors

pub returns-in-Ok-into_entry-clause-recorded : goal.returns-in-Ok-into_entry-clause-recorded
returns-in-Ok-into_entry-clause-recorded g c =
    records g.H.HashState.hash (g.F.Files.file_map c.args.snapshot.now) c.args.request.now
    (Rose (g.F.Files.faults c.args.snapshot.now) (g.F.Files.faults c.generate_hash_key-found.new.files)) c.args.text.now
    c.in-Ok.hasher c.in-Ok.ensures.same _ _ c.new-store.ensures _ c.generate_hash_key-found.ensures.step
    (record { key = c.in-Ok-computed_key.key; put = c.in-Ok-into_entry.put }) c.in-Ok-computed_key.ensures.key c.in-Ok-into_entry.ensures

pub returns-clause-errors : goal.returns-clause-errors
returns-clause-errors g c =
    starved g.H.HashState.hash (g.F.Files.file_map c.args.snapshot.now) c.args.request.now
    (Rose (g.F.Files.faults c.args.snapshot.now) (g.F.Files.faults c.generate_hash_key-found.new.files)) c.args.text.now _ refl
