use Rattle.std.proofs.Common.{ℕ, List, Option, length, sym, subst, arith}
use Rattle.std.proofs.lemmas.List.{take_all}
use Rattle.std.proofs.KnownBytes.{Appends-kept}
use Rattle.std.specs.Io.KnownBytes.{Appends, Keeps}
use Rattle.cck_command.specs.Printing.{AppendsBeginning}
use Rattle.cck_command.proofs.printing.print.Goals as goal

-- all of the bytes are a prefix of them, and a flush keeps what is written
all_kept : (old mid new : Option (List ℕ)) (bytes : List ℕ) → Appends old mid bytes → Keeps mid new → AppendsBeginning old new bytes
all_kept old mid new bytes whole kept =
    (length bytes, subst (Appends old new) (sym (take_all (length bytes) bytes (omega arith))) (Appends-kept old mid new bytes whole kept))

pub returns-in-Ok-clause-begun : goal.returns-in-Ok-clause-begun
returns-in-Ok-clause-begun g c = all_kept _ _ _ c.args.bytes.now c.in_ok-write_bytes.ensures.whole c.in-Ok.ensures.bytes

pub returns-in-Err-clause-begun : goal.returns-in-Err-clause-begun
returns-in-Err-clause-begun g c = all_kept _ _ _ c.args.bytes.now c.in_ok-write_bytes.ensures.whole c.in-Err.ensures.bytes
