use Rattle.std.proofs.Common.{◌≡◌, ℕ, List, All, ◌++◌, length, map, sym, subst, ap, ap₂, ◌∙◌, append_assoc, length-append, arith}
use Rattle.std.proofs.lemmas.List.{take-append-drop}
use Rattle.cck_include.specs.Items.{marks_of}
use Rattle.cck_include.specs.Markers.{Yields, Unread, mark_of, unread_text}
use Rattle.cck_explain_listing.specs.Place.{IsPlacedIn, placed_at, position_after}
use Rattle.cck_explain_listing.proofs.PlaceLemmas.{bounded, marks_next, places_next}
use Rattle.cck_explain_listing.proofs.place.placed_marks.Goals as goal

pub after-position-requires-clause-line : goal.after-position-requires-clause-line
after-position-requires-clause-line c =
    let place = c.loop-item.invariant.place in
    let bound = bounded c.args.text.now place.0 c.loop-item.rest.now c.loop-item.position place.1 place.2 in
    let size = ap length place.1 ∙ length-append place.0 c.loop-item.rest.now in
    omega (arith, bound.0, size, c.in-Some.ensures.begins.1, c.split_at.ensures.front_len)

pub after-position-requires-clause-column : goal.after-position-requires-clause-column
after-position-requires-clause-column c =
    let place = c.loop-item.invariant.place in
    let bound = bounded c.args.text.now place.0 c.loop-item.rest.now c.loop-item.position place.1 place.2 in
    let size = ap length place.1 ∙ length-append place.0 c.loop-item.rest.now in
    omega (arith, bound.1, size, c.in-Some.ensures.begins.1, c.split_at.ensures.front_len)

pub loop-item-preserved : goal.loop-item-preserved
loop-item-preserved c =
    let text = c.args.text.now in
    let item = c.in-Some.item in
    let rest = c.loop-item.rest.now in
    let held = c.loop-item.placed.items in
    let place = c.loop-item.invariant.place in
    let cut = c.split_at.result.0.now in
    let after = c.split_at.result.1.now in
    let middle : Unread = record { starts_line = c.loop-item.starts_line; text = rest } in
    let new : Unread = record { starts_line = item.starts_line; text = after } in
    let step : Yields middle (marks_of item.mark) new =
    subst (λ left. Yields middle (marks_of item.mark) (record { starts_line = item.starts_line; text = left })) (sym c.split_at.ensures.back) c.in-Some.ensures.begins.2 in
    let halves : rest ≡ cut ++ after = sym (take-append-drop item.size rest) ∙ ap₂ (λ a b. a ++ b) (sym c.split_at.ensures.front) (sym c.split_at.ensures.back) in
    let whole_is : text ≡ (place.0 ++ cut) ++ after = place.1 ∙ ap (λ l. place.0 ++ l) halves ∙ sym (append_assoc place.0 cut after) in
    let next : (front : List ℕ) × (text ≡ front ++ after) × (c.after-position.result ≡ position_after front) =
    (place.0 ++ cut, whole_is, c.after-position.ensures place.0 place.2) in
    let items : c.push_mark.new.placed.items ≡ held ++ placed_at c.loop-item.position item.mark = c.in_ok-push_mark.ensures in
    record {
      marks = subst (λ all. Yields (unread_text text) (map (λ p. mark_of p.mark) all) new) (sym items)
          (marks_next (unread_text text) middle new held c.loop-item.position item.mark c.loop-item.invariant.marks step);
      places = subst (λ all. All (IsPlacedIn text) all) (sym items)
          (places_next text place.0 rest c.loop-item.starts_line held c.loop-item.position item.mark place.1 place.2 c.in-Some.ensures.here c.loop-item.invariant.places);
      place = next;
    }
