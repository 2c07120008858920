use Rattle.std.proofs.Common.{◌<◌, arith, length}
use Rattle.cck_digest.proofs.StreamLemmas.{HasTaken-end, HasTaken-nothing, HasTaken-push, after_error, begun_with_piece, read_is_piece}
use Rattle.cck_digest.proofs.stream.read_through.Goals as goal

pub loop-init : goal.loop-init
loop-init g c = record { open_still = c.requires.ready; read = HasTaken-nothing _ _ _ }

pub loop-preserved : goal.loop-preserved
loop-preserved g c = record {
  open_still = c.in_ok-take_open.ensures.taken.1;
  read = HasTaken-push _ _ _ _ _ _ _ _ c.loop.invariant.read c.in_ok-take_open.ensures.taken.0
      (read_is_piece c.in-Ok.count c.read.new.buf (omega arith) (omega (arith, c.in-Ok.ensures.bound)) (omega (arith, c.read.auto.buf, c.loop.auto.buffer, c.requires.room)))
      c.in-Ok.ensures.bytes.0;
}

pub returns-then-count-eq0-clause-taken : goal.returns-then-count-eq0-clause-taken
returns-then-count-eq0-clause-taken g c =
    let bytes = c.in-Ok.ensures.bytes in
    let room : 0 < length c.read.new.buf = omega (arith, c.read.auto.buf, c.loop.auto.buffer, c.requires.room) in
    HasTaken-end _ _ _ _ _ _ c.in-Ok.count c.read.new.buf c.loop.invariant.read c.if-count-eq0.true bytes.0 (bytes.1 c.if-count-eq0.true room)

pub returns-in_err-take_open-clause-begun : goal.returns-in_err-take_open-clause-begun
returns-in_err-take_open-clause-begun g c = after_error c.from_residual.result _
    (begun_with_piece _ _ _ _ _ _ _ _ c.loop.invariant.read c.in-Ok.ensures.bytes.0 c.in_err-take_open.ensures.begun)
