use Rattle.std.proofs.Common.{◌≡◌, true, false, map, length, arith}
use Rattle.cck_cache_text.specs.Included.{IncludesHeader}
use Rattle.cck_cache_text.proofs.IncludedLemmas.{IncludesAt, by_all_lines, one_more_line}
use Rattle.cck_cache_text.proofs.SetLemmas.{adds_none_below}
use Rattle.cck_cache_text.proofs.included.add_lines.Goals as goal

pub loop-line-init : goal.loop-line-init
loop-line-init c = record {
  quoted = adds_none_below (IncludesAt (map (λ line. line.now) c.args.lines.now) true) c.args.included.now.quoted;
  bracketed = adds_none_below (IncludesAt (map (λ line. line.now) c.args.lines.now) false) c.args.included.now.bracketed;
}

pub loop-line-preserved : goal.loop-line-preserved
loop-line-preserved c =
    let items = c.args.lines.now in
    let i = c.loop-line.line-index in
    record {
      quoted = one_more_line (λ line name. IncludesHeader line name true) items c.args.included.now.quoted i _ c.loop-line.included.quoted c.add_quoted.new.names c.loop-line-test.true
          c.loop-line.invariant.quoted c.in_ok-add_quoted.ensures;
      bracketed = one_more_line (λ line name. IncludesHeader line name false) items c.args.included.now.bracketed i _ c.loop-line.included.bracketed c.add_bracketed.new.names c.loop-line-test.true
          c.loop-line.invariant.bracketed c.in_ok-add_bracketed.ensures;
    }

pub returns : goal.returns
returns c =
    let items = c.args.lines.now in
    let end : c.loop-line.line-index ≡ length items = omega (arith, c.loop-line-test.false, c.loop-line.auto.line-index-end) in
    record {
      quoted = by_all_lines (λ line name. IncludesHeader line name true) items c.args.included.now.quoted c.loop-line.line-index c.loop-line.included.quoted end c.loop-line.invariant.quoted;
      bracketed = by_all_lines (λ line name. IncludesHeader line name false) items c.args.included.now.bracketed c.loop-line.line-index c.loop-line.included.bracketed end
          c.loop-line.invariant.bracketed;
    }
