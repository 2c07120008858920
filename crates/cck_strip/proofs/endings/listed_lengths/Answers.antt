use Rattle.std.proofs.Common.{◌∙◌, map, nat_eq, ap, subst, sym}
use Rattle.std.specs.HashMap.{get}
use Rattle.cck_strip.specs.Endings.{turned}
use Rattle.cck_strip.specs.Trie.{IsTrie}
use Rattle.cck_strip.proofs.EndingLemmas.{listed_of}
use Rattle.cck_strip.proofs.endings.listed_lengths.Goals as goal

pub returns : goal.returns
returns c =
    let words = map (λ b. b.items) c.args.basedirs.now in
    let trie = subst (λ n. IsTrie n (turned words)) (sym c.deref-4.ensures.value)
    (subst (λ w. IsTrie c.in_ok-nodes.nodes.items w) (ap (map (λ b. b.items)) c.deref.ensures.value ∙ c.in_ok-words.ensures) c.in_ok-nodes.ensures.trie) in
    listed_of (λ lengths k. get nat_eq lengths k) _ _ _ _ trie c.in_ok-known.ensures
