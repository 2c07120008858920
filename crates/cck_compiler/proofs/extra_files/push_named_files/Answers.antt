use Rattle.std.proofs.Common.{◌∙◌, ap, ap₂, sym}
use Rattle.std.specs.Str.{bytes_eq}
use Rattle.cck_path.specs.Bytes.{lists_of}
use Rattle.cck_compiler.proofs.ExtraFiles.{named_here, named_later}
use Rattle.cck_compiler.proofs.extra_files.push_named_files.Goals as goal
use Rattle.cck_compiler.proofs.extra_files.push_named_files.Goals.{then-eq+in_ok-push_parts, else-eq}

pub loop-name-preserved : goal.loop-name-preserved
loop-name-preserved c =
    let vars = c.args.vars.now in
    let i = c.loop-name.name-index in
    let test = ap₂ bytes_eq (sym c.as_slice.ensures.value) (sym c.as_slice-in-loop-name.ensures) in
    elim c.if-eq.branch [
      | then-eq+in_ok-push_parts w ↦ ap (λ all. lists_of all.items) w.all-is
          ∙ named_here vars i c.loop-name-item.result c.loop-name-test.true c.loop-name-item.is (test ∙ sym w.if-eq.ensures) (lists_of c.args.all.now.items) (lists_of c.loop-name.all.items)
          (lists_of w.push_parts.new.all.items) w.deref.result.now c.loop-name.invariant w.in_ok-push_parts.ensures w.deref.ensures.value
      | else-eq w ↦ ap (λ all. lists_of all.items) w.all-is
          ∙ named_later vars i c.loop-name-item.result c.loop-name-test.true c.loop-name-item.is (test ∙ sym w.if-eq.ensures) (lists_of c.args.all.now.items) (lists_of c.loop-name.all.items) c.loop-name.invariant
    ]
