use Rattle.std.proofs.Common.{◌∙◌, Ok, Err, Some, None, ap, option_map, refl, sym}
use Rattle.std.proofs.lemmas.Result.{err_from_is_err_and}
use Rattle.std.specs.String.{string_bytes}
use Rattle.cck_files.specs.Calls.{Rose}
use Rattle.cck_entry.specs.Matching.{matches}
use Rattle.cck_util.specs.declared.store.StoreError.TheVariants as store
use Rattle.cck_files.proofs.CallsLemmas.{keeps_itself}
use Rattle.cck_hasher.proofs.Asked.{given, given_error}
use Rattle.cck_hasher.specs.Conditions.{given_of, setting_under}
use Rattle.cck_hasher.specs.Step.{lacked, nothing, store_failed, store_lacked}
use Rattle.cck_hasher.proofs.hasher.asking.ask.Goals as goal

pub returns-in-Ok-None-clause-asks : goal.returns-in-Ok-None-clause-asks
returns-in-Ok-None-clause-asks g c = record { from_store = Ok None; got = rw c.in-Ok-None.field-0-is at c.in-Ok-None.ensures; gives = nothing refl }

pub returns-in-Err-Fault-clause-asks : goal.returns-in-Err-Fault-clause-asks
returns-in-Err-Fault-clause-asks g c = record { from_store = Err store.Fault; got = rw c.in-Err-Fault.field-0-is at c.in-Err-Fault.ensures; gives = store_failed refl }

pub returns-in-Err-Memory-clause-asks : goal.returns-in-Err-Memory-clause-asks
returns-in-Err-Memory-clause-asks g c = record { from_store = Err store.Memory; got = rw c.in-Err-Memory.field-0-is at c.in-Err-Memory.ensures; gives = store_lacked refl }

pub returns-in-Err-clause-asks : goal.returns-in-Err-clause-asks
returns-in-Err-clause-asks g c =
    let test = matches (setting_under g.H.HashState.hash (given_of c.args.conditions.now)) (g.F.Files.file_map c.args.files.now) in
    let F = Rose (g.F.Files.faults c.args.files.now) (g.F.Files.faults c.args.files.now) in
    record {
      from_store = Ok (Some c.in-Ok-Some.bytes.items);
      got = rw c.in-Ok-Some.field-0-is at c.in-Ok-Some.ensures;
      gives = rw c.entry_error.ensures (given_error test F c.in-Ok-Some.bytes.items c.in-Err.error (rw c.deref.ensures.value at c.in-Err.ensures.reads));
    }

pub returns-in-Err-lookup_result_digest-clause-asks : goal.returns-in-Err-lookup_result_digest-clause-asks
returns-in-Err-lookup_result_digest-clause-asks g c = record {
  from_store = Ok (Some c.in-Ok-Some.bytes.items);
  got = rw c.in-Ok-Some.field-0-is at c.in-Ok-Some.ensures;
  gives = lacked c.in-Ok-Some.bytes.items refl;
}

pub returns-in_err-from_str-in-Some-clause-asks : goal.returns-in_err-from_str-in-Some-clause-asks
returns-in_err-from_str-in-Some-clause-asks g c =
    let p = err_from_is_err_and c.from_residual.result c.from_residual.ensures.1 in
    rw (p.1, p.2) (record {
      from_store = Ok (Some c.in-Ok-Some.bytes.items);
      got = rw c.in-Ok-Some.field-0-is at c.in-Ok-Some.ensures;
      gives = lacked c.in-Ok-Some.bytes.items refl;
    })

pub returns-in-Some-clause-asks : goal.returns-in-Some-clause-asks
returns-in-Some-clause-asks g c =
    let test = matches (setting_under g.H.HashState.hash (given_of c.args.conditions.now)) (g.F.Files.file_map c.args.files.now) in
    let F = Rose (g.F.Files.faults c.args.files.now) (g.F.Files.faults c.lookup_result_digest.new.files) in
    record {
      from_store = Ok (Some c.in-Ok-Some.bytes.items);
      got = rw c.in-Ok-Some.field-0-is at c.in-Ok-Some.ensures;
      gives = given test F c.in-Ok-Some.bytes.items _ _ (Some (string_bytes c.in_ok-from_str-in-Some.field-0))
          (ap (option_map (λ k. k.now)) c.in-Some.is ∙ ap Some (sym c.in_ok-from_str-in-Some.ensures.ok))
          (rw c.deref.ensures.value at c.in-Ok.ensures.reads) c.in-Ok-lookup_result_digest.ensures.outcome;
    }

pub returns-clause-asks : goal.returns-clause-asks
returns-clause-asks g c =
    let test = matches (setting_under g.H.HashState.hash (given_of c.args.conditions.now)) (g.F.Files.file_map c.args.files.now) in
    let F = Rose (g.F.Files.faults c.args.files.now) (g.F.Files.faults c.lookup_result_digest.new.files) in
    record {
      from_store = Ok (Some c.in-Ok-Some.bytes.items);
      got = rw c.in-Ok-Some.field-0-is at c.in-Ok-Some.ensures;
      gives = given test F c.in-Ok-Some.bytes.items _ _ None (ap (option_map (λ k. k.now)) c.in-None.is)
          (rw c.deref.ensures.value at c.in-Ok.ensures.reads) c.in-Ok-lookup_result_digest.ensures.outcome;
    }

pub returns-in-Ok-None-clause-keeps : goal.returns-in-Ok-None-clause-keeps
returns-in-Ok-None-clause-keeps g c = keeps_itself c.args.files.now

pub returns-in-Err-Fault-clause-keeps : goal.returns-in-Err-Fault-clause-keeps
returns-in-Err-Fault-clause-keeps g c = keeps_itself c.args.files.now

pub returns-in-Err-Memory-clause-keeps : goal.returns-in-Err-Memory-clause-keeps
returns-in-Err-Memory-clause-keeps g c = keeps_itself c.args.files.now

pub returns-in-Err-clause-keeps : goal.returns-in-Err-clause-keeps
returns-in-Err-clause-keeps g c = keeps_itself c.args.files.now

pub returns-in-Err-lookup_result_digest-clause-keeps : goal.returns-in-Err-lookup_result_digest-clause-keeps
returns-in-Err-lookup_result_digest-clause-keeps g c = c.in-Err-lookup_result_digest.ensures.keeps

pub returns-in_err-from_str-in-Some-clause-keeps : goal.returns-in_err-from_str-in-Some-clause-keeps
returns-in_err-from_str-in-Some-clause-keeps g c = c.in-Ok-lookup_result_digest.ensures.keeps

pub returns-in-Some-clause-keeps : goal.returns-in-Some-clause-keeps
returns-in-Some-clause-keeps g c = c.in-Ok-lookup_result_digest.ensures.keeps

pub returns-clause-keeps : goal.returns-clause-keeps
returns-clause-keeps g c = c.in-Ok-lookup_result_digest.ensures.keeps
