use Rattle.std.proofs.Common.{◌≡◌, sym, subst, ◌∙◌, List, ℕ, [], false, Option, None, Some, refl, arith}
use Rattle.std.specs.Option.{is_some}
use Rattle.std.proofs.lemmas.List.{length-drop}
use Rattle.cck_include.specs.Items.{marks_of}
use Rattle.cck_include.specs.Markers.{Unread}
use Rattle.cck_include.specs.Searches.{AreSearched}
use Rattle.cck_include.specs.declared.mark.Mark.{Mark}
use Rattle.cck_include.proofs.Cuts.{slice_from}
use Rattle.cck_include.proofs.ItemLemmas.{gives_both}
use Rattle.cck_include.proofs.SkipLemmas.{known_after, passed_item}
use Rattle.cck_include.proofs.mark.MarkersIterator.next.Goals as goal

no_mark : (mark : Option Mark) → is_some mark ≡ false → marks_of mark ≡ []
no_mark None none = refl
no_mark (Some mark) none = cc

pub invariant_of-self-then-is_some : goal.invariant_of-self-then-is_some
invariant_of-self-then-is_some c =
    let rest = c.skip_plain-starts_line.result.0.now in
    let searches = c.skip_plain-starts_line.new.self in
    let item = c.in_ok-item.item in
    subst (λ (text : List ℕ). AreSearched searches text) (sym (slice_from rest item.size)) (known_after searches rest item.size c.skip_plain-starts_line.ensures.known c.in_ok-item.ensures.begins.1)

pub loop-item-preserved : goal.loop-item-preserved
loop-item-preserved c =
    let rest = c.skip_plain-starts_line.result.0.now in
    let searches = c.skip_plain-starts_line.new.self in
    let item = c.in_ok-item.item in
    let begins = c.in_ok-item.ensures.begins in
    let old : Unread = record { starts_line = c.self.inside.starts_line; text = c.self.inside.rest.now } in
    let none = no_mark item.mark (sym c.is_some.ensures ∙ c.if-is_some.false) in
    record {
      nothing = passed_item old c.skip_plain-starts_line.result.1 item.starts_line rest [] item.size (gives_both old _ _ [] [] c.loop-item.invariant.nothing c.skip_plain-starts_line.ensures.passed) (rw none at begins.2);
      known = subst (λ (text : List ℕ). AreSearched searches text) (sym (slice_from rest item.size)) (known_after searches rest item.size c.skip_plain-starts_line.ensures.known begins.1);
      shorter = rw (slice_from rest item.size) (omega (arith, length-drop item.size rest, c.skip_plain-starts_line.ensures.shorter, c.loop-item.invariant.shorter));
    }
