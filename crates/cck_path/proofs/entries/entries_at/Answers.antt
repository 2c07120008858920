use Rattle.std.proofs.Common.{◌+◌, ◌++◌, ◌∙◌, ap, drop}
use Rattle.std.proofs.lemmas.List.{take_rest}
use Rattle.cck_path.specs.Blocks.{entries_of}
use Rattle.cck_path.proofs.FromLemmas.{drop_in}
use Rattle.cck_path.proofs.entries.entries_at.Goals as goal

pub returns : goal.returns
returns g c =
    let bs = c.args.blocks.now in
    let block = c.index-blocks-block.result in
    let next = c.args.block + 1 in
    (λ i. take_rest c.deref.result.now c.args.at i ++ entries_of (take_rest bs next i))
    ∙ ap (λ es. drop c.args.at es ++ entries_of (drop next bs)) (c.deref.ensures.value ∙ ap (λ b. b.items) c.index-blocks-block.is)
    ∙ drop_in bs c.args.block c.args.at block c.requires.block (c.requires.place block)
