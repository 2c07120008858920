use Rattle.std.proofs.Common.{◌≡◌, ◌++◌, List, map, sym, ap, ◌∙◌, String}
use Rattle.std.specs.String.{string_bytes}
use Rattle.std.specs.declared.alloc.Global.{Global}
use Rattle.cck_compiler.specs.Seen.{output_of}
use Rattle.cck_compiler.specs.declared.arguments.ArtifactDescriptor.{ArtifactDescriptor}
use Rattle.cck_compiler.proofs.CopyLemmas.{copied_more}
use Rattle.cck_compiler.proofs.copies.copy_outputs.Goals as goal

pub loop-name-preserved : goal.loop-name-preserved
loop-name-preserved c =
    let copied = map output_of c.loop-name.copies.entries in
    let so_far = ap (λ (left : List (String Global × ArtifactDescriptor)). copied ++ map output_of left) (sym c.in-Some.ensures.steps) ∙ c.loop-name.invariant.copied in
    let name : string_bytes c.in_ok-name.name ≡ string_bytes c.in-Some.name.now = c.in_ok-name.ensures.ok ∙ c.deref.ensures in
    record {
      copied = rw (c.in_ok-put_output.ensures)
          (copied_more c.args.outputs.now.entries c.loop-name.copies.entries (c.in-Some.name.now, c.in-Some.output.now) c.next.new.self c.in_ok-name.name c.in_ok-copy.field-0 c.loop-name.invariant.ordered so_far
          (λ i. record { name = name i; path = c.in_ok-copy.ensures.path i; optional = c.in_ok-copy.ensures.optional i }));
      ordered = c.loop-name.invariant.ordered;
    }
