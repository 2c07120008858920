use Rattle.cck_digest.specs.Stream.{HasTaken}
use Rattle.cck_digest.proofs.stream.read_through.Given as goal

-- the pieces so far were taken, and the sink is open
abbrev pub invariant-loop : goal.invariant-loop
invariant-loop g l = record {
  open_still : g.S.OpenSink.is_open l.sink;
  read : HasTaken g.S.OpenSink.takes l.initial.sink l.sink (g.R.Read.remaining l.initial.reader) (g.R.Read.remaining l.reader);
}
