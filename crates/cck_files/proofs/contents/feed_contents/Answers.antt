use Rattle.std.proofs.Common.{[], arith, refl, IsOkAnd}
use Rattle.std.specs.Result.{result_unwrap_or}
use Rattle.cck_digest.proofs.StreamLemmas.{after_error}
use Rattle.cck_files.proofs.CallsLemmas.{keeps_all, keeps_itself}
use Rattle.cck_files.specs.Calls.{IsRead, none, one_more}
use Rattle.cck_files.specs.FileMap.{contents_at}
use Rattle.cck_path.specs.Path.{components}
use Rattle.cck_files.proofs.ReadLemmas.{IsFed-nothing, fed_begun, fed_begun_more, fed_more}
use Rattle.cck_files.proofs.contents.feed_contents.Goals as goal

pub loop-count-init : goal.loop-count-init
loop-count-init g c =
    record { keeps = keeps_itself c.args.files.now; calls = none refl; room = c.requires; fed = IsFed-nothing g.S.Sink.takes c.args.sink.now (result_unwrap_or (contents_at (g.F.Files.file_map c.args.files.now) (components c.args.path.now)) []) }

pub loop-count-preserved : goal.loop-count-preserved
loop-count-preserved g c =
    let found = contents_at (g.F.Files.file_map c.args.files.now) (components c.args.path.now) in
    let read : IsOkAnd found (λ contents. IsRead contents c.loop-count.offset c.in_ok-count.count c.read_at.new.buffer) =
    rw (← c.loop-count.invariant.keeps.same_map) c.in_ok-count.ensures.outcome in
    record {
      keeps = keeps_all _ _ _ c.loop-count.invariant.keeps c.in_ok-count.ensures.keeps;
      calls = one_more c.loop-count.files (components c.args.path.now) c.loop-count.invariant.calls refl c.in_ok-count.ensures.call;
      room = omega arith;
      fed = fed_more _ _ _ _ _ c.in_ok-count.count c.read_at.new.buffer found c.loop-count.invariant.fed read (omega arith) (omega arith) c.in_ok-take.ensures.taken;
    }

pub returns-in_err-count-clause-begun : goal.returns-in_err-count-clause-begun
returns-in_err-count-clause-begun g c = after_error c.from_residual.result _ (fed_begun _ _ _ _ _ c.loop-count.invariant.fed)

pub returns-in_err-take-clause-begun : goal.returns-in_err-take-clause-begun
returns-in_err-take-clause-begun g c =
    let found = contents_at (g.F.Files.file_map c.args.files.now) (components c.args.path.now) in
    let read : IsOkAnd found (λ contents. IsRead contents c.loop-count.offset c.in_ok-count.count c.read_at.new.buffer) =
    rw (← c.loop-count.invariant.keeps.same_map) c.in_ok-count.ensures.outcome in
    after_error c.from_residual-in_err-take.result _
    (fed_begun_more _ _ _ _ _ c.in_ok-count.count c.read_at.new.buffer found c.loop-count.invariant.fed read c.in_err-take.ensures.begun)

pub returns-in_err-count-clause-calls : goal.returns-in_err-count-clause-calls
returns-in_err-count-clause-calls g c = one_more c.loop-count.files (components c.args.path.now) c.loop-count.invariant.calls refl c.in_err-count.ensures.call

pub returns-then-count-eq0-clause-calls : goal.returns-then-count-eq0-clause-calls
returns-then-count-eq0-clause-calls g c = one_more c.loop-count.files (components c.args.path.now) c.loop-count.invariant.calls refl c.in_ok-count.ensures.call

pub returns-in_err-take-clause-calls : goal.returns-in_err-take-clause-calls
returns-in_err-take-clause-calls g c = one_more c.loop-count.files (components c.args.path.now) c.loop-count.invariant.calls refl c.in_ok-count.ensures.call

pub returns-in_err-count-clause-keeps : goal.returns-in_err-count-clause-keeps
returns-in_err-count-clause-keeps g c = keeps_all _ _ _ c.loop-count.invariant.keeps c.in_err-count.ensures.keeps

pub returns-then-count-eq0-clause-keeps : goal.returns-then-count-eq0-clause-keeps
returns-then-count-eq0-clause-keeps g c = keeps_all _ _ _ c.loop-count.invariant.keeps c.in_ok-count.ensures.keeps

pub returns-in_err-take-clause-keeps : goal.returns-in_err-take-clause-keeps
returns-in_err-take-clause-keeps g c = keeps_all _ _ _ c.loop-count.invariant.keeps c.in_ok-count.ensures.keeps
