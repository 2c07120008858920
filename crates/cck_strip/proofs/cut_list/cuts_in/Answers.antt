use Rattle.std.proofs.Common.{◌≡◌, ◌<◌, arith}
use Rattle.cck_strip.proofs.CutListLemmas.{walked_cut}
use Rattle.cck_strip.proofs.PieceLemmas.{within_same}
use Rattle.cck_strip.proofs.cut_list.cuts_in.Goals as goal

pub loop-at-preserved-then-length-gt0 : goal.loop-at-preserved-then-length-gt0
loop-at-preserved-then-length-gt0 g c =
    let site = g.S.Sites.site c.args.sites.now in
    let is : c.length_at-length.result ≡ site c.loop-at.at = c.length_at-length.ensures in
    let some : 0 < site c.loop-at.at = omega (arith, is, c.if-length-gt0.true) in
    record {
      walked = rw c.in_ok-push.ensures.items (walked_cut site c.loop-at.at c.length_at-length.result c.loop-at.cuts.items c.loop-at.invariant.walked is c.if-length-gt0.true);
      within = omega (arith, is, within_same _ _ _ c.requires (g.met.S.Sites.within c.args.sites.now) c.loop-at.at some);
    }
