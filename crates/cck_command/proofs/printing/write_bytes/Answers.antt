use Rattle.std.proofs.Common.{ℕ, ◌+◌, ◌-◌, ◌≤◌, List, length, take, drop, sym, ap, subst, arith, take-add, Option}
use Rattle.std.proofs.lemmas.List.{take_all, length-drop}
use Rattle.std.proofs.KnownBytes.{Appends-trans, Appends-kept}
use Rattle.std.specs.Io.KnownBytes.{Appends}
use Rattle.cck_command.proofs.printing.write_bytes.Goals as goal
use Rattle.cck_command.proofs.printing.write_bytes.Goals.{in-Ok, in-Err+else-ne}

abbrev IsWritten : Option (List ℕ) → Option (List ℕ) → List ℕ → ℕ → Type 0
IsWritten old new bytes written = record { within : written ≤ length bytes; written : Appends old new (take written bytes) }

-- one write took the first bytes of the rest
written_more : (old mid new : Option (List ℕ)) (bytes : List ℕ) (written taken : ℕ) → IsWritten old mid bytes written
    → taken ≤ length (take (length bytes - written) (drop written bytes)) → Appends mid new (take taken (take (length bytes - written) (drop written bytes)))
    → IsWritten old new bytes (written + taken)
written_more old mid new bytes written taken before bound more =
    let rest = take_all (length bytes - written) (drop written bytes) (omega (arith, length-drop written bytes)) in
    record {
      within = omega (arith, before.within, bound, ap length rest, length-drop written bytes);
      written = subst (Appends old new) (sym (take-add written taken bytes))
          (Appends-trans old mid new _ _ before.written (subst (λ l. Appends mid new (take taken l)) rest more));
    }

pub loop-preserved : goal.loop-preserved
loop-preserved g c = elim c.match-write.branch [
  | in-Ok w ↦ subst (IsWritten (g.W.Write.contents c.args.writer.now) (g.W.Write.contents c.write.new.self) c.args.bytes.now) (sym w.written-is)
      (written_more (g.W.Write.contents c.args.writer.now) (g.W.Write.contents c.loop.writer) (g.W.Write.contents c.write.new.self) c.args.bytes.now c.loop.written w.in-Ok.taken
      c.loop.invariant w.in-Ok.ensures.bound w.in-Ok.ensures.bytes)
  | in-Err+else-ne w ↦ subst (IsWritten (g.W.Write.contents c.args.writer.now) (g.W.Write.contents c.write.new.self) c.args.bytes.now) (sym w.written-is)
      (record { within = c.loop.invariant.within; written = Appends-kept _ _ _ _ c.loop.invariant.written w.in-Err.ensures.bytes })
]
