use Rattle.std.proofs.Common.{inr, Some, None, refl}
use Rattle.cck_cache.specs.Record.{IsInputVerdict}
use Rattle.cck_cache.specs.declared.record.InputVerdict.TheVariants.{Key}
use Rattle.cck_cache.proofs.RecordLemmas.{recorded_over}
use Rattle.cck_cache.proofs.record.entry_over.Goals as goal

pub returns-in-Some : goal.returns-in-Some
returns-in-Some g c calm =
    let asked = c.args.asked.now in
    let files = c.args.files.now in
    let found : IsInputVerdict c.args.environment.now asked files.files c.args.compilation.now.key.now (Key c.in-Key.own) = rw c.in-Key.is at c.in_ok-own.ensures.judged in
    record {
      judged = found.0;
      is_own = found.1;
      recorded = recorded_over asked c.args.text.now files c.judge_input.new.files c.record_text.new.snapshot c.in_ok-recording.recording (Some c.in-Some.entry)
          calm c.in_ok-own.ensures.keeps c.in_ok-recording.ensures.keeps c.in-Some.is c.in_ok-recording.ensures.recorded;
    }

pub returns-in-None : goal.returns-in-None
returns-in-None g c calm =
    let recording = c.in_ok-recording.recording in
    inr (
      refl,
      (
        recording.key,
        recorded_over c.args.asked.now c.args.text.now c.args.files.now c.judge_input.new.files c.record_text.new.snapshot recording None
            calm c.in_ok-own.ensures.keeps c.in_ok-recording.ensures.keeps c.in-None.is c.in_ok-recording.ensures.recorded,
      ),
    )
