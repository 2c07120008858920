use Rattle.std.proofs.Common.{◌+◌, add-one, arith, ap, refl, ◌∙◌}
use Rattle.cck_path.specs.Bytes.{lists_of}
use Rattle.jiff.specs.Words.{plain_zone}
use Rattle.c_cache_keys.proofs.Ran.{after_more, all_returned, all_run, returned_more, rest_more, untouched}
use Rattle.c_cache_keys.proofs.Runs.{transparent}
use Rattle.c_cache_keys.proofs.Stored.{run_returns_stored}
use Rattle.cck_hasher.specs.World.{world_of}
use Rattle.c_cache_keys.proofs.calls.run_calls.Goals as goal

pub returns-in_err-call_results-clause-keeps : goal.returns-in_err-call_results-clause-keeps
returns-in_err-call_results-clause-keeps g c = untouched g.F.Files.file_map g.F.Files.faults g.F.Files.is_quiet c.args.calls.now

pub loop-call-init : goal.loop-call-init
loop-call-init g c = record {
  results_returned = rw c.in_ok-call_results.ensures.items refl;
  rest = refl;
  after = untouched g.F.Files.file_map g.F.Files.faults g.F.Files.is_quiet c.args.calls.now;
  count = c.in_ok-call_results.ensures.len;
  room = omega (c.in_ok-call_results.ensures.capacity, arith);
}

pub loop-call-preserved : goal.loop-call-preserved
loop-call-preserved g c =
    let F = g.F.Files in
    let w = world_of g.H.HashState.hash g.I.CCompilerImpl.compiler (plain_zone c.args.zone.now) c.args.config (lists_of c.args.basedirs.now) in
    record {
      results_returned = rw (add-one, c.in_ok-push.ensures.items)
          (returned_more g.I.CCompilerImpl.value F.file_map F.faults w g.S.PreprocessorStore.store c.loop-call.call-index c.args.calls.now c.loop-call.calls _ c.call-item.result _ _ _ _ _
          c.loop-call-test.true c.loop-call.invariant.rest c.loop-call.invariant.results_returned (record {
            step = rw (c.deref.ensures.value, c.deref-in-loop-call.ensures.value) at c.generate_hash_key-call_result.ensures.step;
            reason = rw (c.deref.ensures.value, c.deref-in-loop-call.ensures.value) at c.generate_hash_key-call_result.ensures.reason;
            toolchain = c.generate_hash_key-call_result.ensures.toolchain;
          }));
      rest = rw add-one (rest_more c.loop-call.call-index c.args.calls.now c.loop-call.calls _ c.loop-call.auto.calls c.loop-call.invariant.rest);
      after = after_more F.file_map F.faults F.is_quiet c.loop-call.call-index c.args.calls.now c.loop-call.calls c.call-item.result c.generate_hash_key-call_result.new.files c.loop-call-test.true
          c.loop-call.invariant.rest c.generate_hash_key-call_result.ensures.keeps c.loop-call.invariant.after;
      count = c.in_ok-push.ensures.len ∙ ap (λ n. n + 1) c.loop-call.invariant.count;
      room = omega (c.in_ok-push.ensures.capacity, c.loop-call.invariant.room, arith);
    }

pub returns-clause-results_returned : goal.returns-clause-results_returned
returns-clause-results_returned g c =
    all_returned g.I.CCompilerImpl.value g.F.Files.file_map g.F.Files.faults _ g.S.PreprocessorStore.store c.loop-call.call-index c.args.calls.now c.loop-call.calls _ _ _
    c.loop-call-test.false c.loop-call.auto.calls c.loop-call.invariant.results_returned

pub returns-clause-run : goal.returns-clause-run
returns-clause-run g c =
    all_run g.I.CCompilerImpl.value g.F.Files.file_map g.F.Files.faults _ g.S.PreprocessorStore.store c.loop-call.call-index c.args.calls.now c.loop-call.calls _ _ _
    c.loop-call-test.false c.loop-call.auto.calls c.loop-call.invariant.results_returned

pub returns-clause-headline : goal.returns-clause-headline
returns-clause-headline g c = λ none premises.
    transparent _ g.S.PreprocessorStore.store g.met.H.HashState.length_hash g.met.S.PreprocessorStore.laws _ _ _ _ none (returns-clause-run g c) premises

pub returns-clause-returned : goal.returns-clause-returned
returns-clause-returned g c = run_returns_stored _ g.S.PreprocessorStore.store _ _ _ _ (returns-clause-run g c)
