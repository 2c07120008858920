use Rattle.std.proofs.Common.{rules}
use Rattle.std.proofs.lemmas.Fn.{always_returns_same}
use Rattle.cck_path.specs.Path.{components, path_cmp}
use Rattle.cck_path.specs.PathMap.{path_of}
use Rattle.cck_path.proofs.PlaceLemmas.{searched}
use Rattle.cck_path.proofs.blocks.search_block.Goals as goal

pub returns-clause-place : goal.returns-clause-place
returns-clause-place g c =
    let p = components c.args.path.now in
    let facts = c.binary_search_by.ensures in
    (searched c.args.entries.now c.requires p c.binary_search_by.result facts.bound (facts.position (λ e. path_cmp (path_of e) p) (always_returns_same _ _ _ (λ a r f called. search rules)))).0

pub returns-clause-gap : goal.returns-clause-gap
returns-clause-gap g c =
    let p = components c.args.path.now in
    let facts = c.binary_search_by.ensures in
    (searched c.args.entries.now c.requires p c.binary_search_by.result facts.bound (facts.position (λ e. path_cmp (path_of e) p) (always_returns_same _ _ _ (λ a r f called. search rules)))).1
