use Rattle.std.proofs.Common.{[], ℕ, List, None, Some, string_bytes, ap, subst}
use Rattle.std.specs.Option.{option_map}
use Rattle.cck_files.specs.Calls.{Rose}
use Rattle.cck_path.specs.Bytes.{Bytes}
use Rattle.cck_cache_files.specs.PathTests.{IsFirstFailing}
use Rattle.cck_cache_rules.specs.PathTest.{Test, tests_of}
use Rattle.cck_entry.specs.Entry.{EntryText}
use Rattle.c_cache_keys.specs.Snapshot.{IsLookedUp}
use Rattle.sha2.specs.Sha256.{sha256}
use Rattle.cck_cache.specs.Input.{NoFault}
use Rattle.cck_cache.specs.Naming.{IsName}
use Rattle.cck_cache.proofs.InputLemmas.{calm_stays, without_fault}
use Rattle.cck_cache.proofs.LookLemmas.{recorded_by}
use Rattle.cck_cache.proofs.RequestLemmas.{key_of_part}
use Rattle.cck_cache.proofs.look.matching_name.Goals as goal

pub returns : goal.returns
returns g c calm is_request own =
    let environment = c.args.environment.now in
    let request = c.args.request.now in
    let asked = c.args.asked.now in
    let key = c.args.key.now in
    let bytes = c.args.file.now.entry.items in
    let input = c.args.files.now in
    let entry = c.in-Some.entry in
    let before = c.add_entry_files.new.files in
    let statuses = c.in_ok-unchanged.unchanged.files in
    let object = c.in-Some-found.object.now in
    let tests = tests_of c.args.file.now.tests.items in
    let name = string_bytes c.in_ok-name.name in
    let grown = c.in_ok-add_entry_files.ensures in
    let is_entry : EntryText entry bytes = subst (λ (b : Bytes). EntryText entry b) c.deref-2.ensures.value (rw c.in-Some.is at c.in_ok-entry.ensures) in
    let looked = without_fault (λ (m n : ℕ). IsLookedUp sha256 before.files asked (Rose m n) statuses entry (option_map (λ k. k.now) c.in_ok-found.found)) before c.look_up.new.snapshot c.in_ok-found.ensures.keeps
    (calm_stays input before grown.calm calm) c.in_ok-found.ensures.found in
    let found : IsLookedUp sha256 before.files asked NoFault statuses entry (Some object) = rw c.in-Some-found.is at looked in
    record {
      held = subst (λ (t : List Test). IsFirstFailing t None) (ap tests_of c.deref.ensures.value) (rw c.in-None.is at c.in_ok-first_failing.ensures);
      entry = entry;
      is_entry = is_entry;
      object = object;
      matched = record {
        files = before.files;
        grown = grown.put;
        kept = grown.kept calm.quiet;
        statuses = statuses;
        are_recorded = recorded_by environment.reads_all c.args.file.now.statuses.items c.trusted_statuses.result.now statuses
            c.trusted_statuses.ensures.none c.trusted_statuses.ensures.all c.in_ok-unchanged.ensures.recorded;
        read = λ reads. c.in_ok-unchanged.ensures.none (c.trusted_statuses.ensures.none reads);
        found = found (string_bytes key.text) bytes (key_of_part environment request environment.now [] asked input.files before.files key is_request own (grown.kept calm.quiet)) is_entry;
      };
      is_name = subst (λ (i : Bytes). IsName request i entry tests object name) c.as_str-input.ensures.value
          (subst (λ (t : List Test). IsName request c.as_str-input.result.now entry t object name) (ap tests_of c.deref-3.ensures.value) c.in_ok-name.ensures);
    }
