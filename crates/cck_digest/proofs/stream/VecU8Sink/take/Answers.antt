use Rattle.cck_digest.proofs.StreamLemmas.{vector_failed}
use Rattle.cck_digest.proofs.stream.VecU8Sink.take.Goals as goal

pub returns-clause-begun : goal.returns-clause-begun
returns-clause-begun c = vector_failed c.extend_from_slice.result c.args.self.now c.extend_from_slice.new.self c.args.piece.now c.extend_from_slice.ensures.items
