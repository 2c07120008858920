use Rattle.std.proofs.Common.{◌∙◌, refl, rules, subst, sym, arith}
use Rattle.cck_strip.specs.Endings.{HasLinks}
use Rattle.cck_strip.proofs.EndingLemmas.{HasLinks-start, IsRead-start, written_back}
use Rattle.cck_strip.proofs.endings.all_links.Goals as goal

pub loop-read-init : goal.loop-read-init
loop-read-init c = record {
  links = rw (c.in_ok-links.ensures.items_if_clones_equal (λ y h. search rules)) (HasLinks-start _ _ refl);
  read = λ k d lt. IsRead-start _ _ (c.in_ok-cursors.ensures k d lt);
}

pub loop-read-preserved : goal.loop-read-preserved
loop-read-preserved c =
    let links = c.all_advanced.ensures.links in
    let before = c.loop-read.invariant.links in
    record {
      links = subst (HasLinks c.args.nodes.now)
          (sym (written_back c.loop-read.links.len c.all_advanced.new.links c.loop-read.links.items (links.size ∙ sym before.size) (omega (arith, c.loop-read.links.ok.0)))) links;
      read = c.in_ok-cursors-2.ensures.read;
    }
