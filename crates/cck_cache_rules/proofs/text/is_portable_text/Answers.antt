use Rattle.std.proofs.Common.{◌+◌, None, Some, drop, refl, subst, take}
use Rattle.std.proofs.lemmas.Bool.{false≢true}
use Rattle.std.proofs.lemmas.Bool.Decides.{not_from_Decides}
use Rattle.cck_cache_rules.specs.Text.{IsDirectoryMarker}
use Rattle.cck_cache_rules.proofs.TextLemmas.{found_in_rest, markers_more, portable_not, portable_past, portable_rest}
use Rattle.cck_cache_rules.proofs.text.is_portable_text.Goals as goal

pub returns-in_default : goal.returns-in_default
returns-in_default c =
    let none = found_in_rest c.args.text.now c.args.base.now c.args.directory.now c.loop-from.from c.new-finder.result None c.new-finder.ensures c.in_default.ensures in
    (λ q. portable_rest _ _ _ c.loop-from.from c.loop-from-test.true none c.loop-from.invariant, λ portable. refl)

pub returns-then-not-is_directory_marker : goal.returns-then-not-is_directory_marker
returns-then-not-is_directory_marker c =
    let text = c.args.text.now in
    let directory = c.args.directory.now in
    let place = c.loop-from.from + c.in-Some.distance in
    let found = found_in_rest text c.args.base.now directory c.loop-from.from c.new-finder.result (Some c.in-Some.distance) c.new-finder.ensures c.in-Some.ensures in
    let other = not_from_Decides _ c.is_directory_marker.ensures c.if-not-is_directory_marker.true in
    let here : ¬ IsDirectoryMarker (take place text) (drop place text) directory =
    subst (λ b. ¬ IsDirectoryMarker (take place text) b directory) c.split_at.ensures.back
    (subst (λ f. ¬ IsDirectoryMarker f c.split_at.result.1.now directory) c.split_at.ensures.front other)
    in
    (λ q. absurd (false≢true q), λ portable. absurd (portable_not text c.args.base.now directory c.loop-from.from c.loop-from-test.true c.in-Some.distance found here portable))

pub loop-from-preserved : goal.loop-from-preserved
loop-from-preserved c =
    let text = c.args.text.now in
    let directory = c.args.directory.now in
    let place = c.loop-from.from + c.in-Some.distance in
    let found = found_in_rest text c.args.base.now directory c.loop-from.from c.new-finder.result (Some c.in-Some.distance) c.new-finder.ensures c.in-Some.ensures in
    let marker = c.is_directory_marker.ensures.0 c.if-not-is_directory_marker.false in
    let here : IsDirectoryMarker (take place text) (drop place text) directory =
    subst (λ b. IsDirectoryMarker (take place text) b directory) c.split_at.ensures.back
    (subst (λ f. IsDirectoryMarker f c.split_at.result.1.now directory) c.split_at.ensures.front marker)
    in
    markers_more text c.args.base.now directory c.loop-from.from c.loop-from-test.true c.in-Some.distance found c.loop-from.invariant here

pub returns : goal.returns
returns c = (λ q. portable_past _ _ _ c.loop-from.from c.loop-from-test.false c.loop-from.invariant, λ portable. refl)
