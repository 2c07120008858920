use Rattle.std.proofs.Common.{◌≡◌, ◌∙◌, inl, inr, false, true, Bor, List, ℕ, ap, arith, map, subst, sym, take}
use Rattle.std.specs.List.{after_first, before_first, list_any, position_or_len}
use Rattle.std.proofs.lemmas.List.{length-map, take-map}
use Rattle.cck_cache_rules.specs.Reading.{AreRead, byte_lists}
use Rattle.cck_cache_text.specs.SearchList.{begins_list, duplicate_line, ends_list, is_file_line, listed_line, missing_line}
use Rattle.cck_cache_text.proofs.SearchLemmas.{none_pass, some_passes}
use Rattle.cck_cache_text.proofs.search_list.SearchList.read.Goals as goal

abbrev lines_of : List (Bor (List ℕ)) → List (List ℕ)
lines_of lines = map (λ l. l.now) lines

-- the lines before the first that ends a list
front_lines : (lines known : List (Bor (List ℕ))) (end : ℕ) → known ≡ lines → end ≡ position_or_len ends_list (lines_of lines) → lines_of (take end known) ≡ before_first ends_list (lines_of lines)
front_lines lines known end same place =
    ap (λ ls. lines_of (take end ls)) same ∙ (sym (take-map (λ l. l.now) end lines) ∙ ap (λ n. take n (lines_of lines)) place)

pub returns-then-end-len : goal.returns-then-end-len
returns-then-end-len c =
    let lines = lines_of c.in_ok-lines.lines.items in
    let place : c.place_of-end.result ≡ position_or_len ends_list lines = c.place_of-end.ensures.place ends_list (λ line found is. is) ∙ ap (λ ls. position_or_len ends_list (lines_of ls)) c.deref.ensures.value in
    rw (← c.in_ok-lines.ensures) (inl (none_pass ends_list lines (omega (arith, place, length-map c.in_ok-lines.lines.items (λ l. l.now), c.in_ok-lines.lines.ok.0))))

pub returns-then-place_of-front : goal.returns-then-place_of-front
returns-then-place_of-front c =
    let lines = lines_of c.in_ok-lines.lines.items in
    let place : c.place_of-end.result ≡ position_or_len ends_list lines = c.place_of-end.ensures.place ends_list (λ line found is. is) ∙ ap (λ ls. position_or_len ends_list (lines_of ls)) c.deref.ensures.value in
    let front = take c.place_of-end.result c.deref-2.result.now in
    let front_is = front_lines c.in_ok-lines.lines.items c.deref-2.result.now c.place_of-end.result c.deref-2.ensures.value place in
    let first : c.place_of.result ≡ position_or_len is_file_line (lines_of front) = c.place_of.ensures.place is_file_line (λ line found is. is) in
    let any : list_any is_file_line (lines_of front) ≡ true = some_passes is_file_line (lines_of front) (omega (arith, first, c.if-place_of-front.true, length-map front (λ l. l.now))) in
    rw (← c.in_ok-lines.ensures) (inr (subst (λ (ls : List (List ℕ)). list_any is_file_line ls ≡ true) front_is any))

pub returns : goal.returns
returns c =
    let lines = lines_of c.in_ok-lines.lines.items in
    let place : c.place_of-end.result ≡ position_or_len ends_list lines = c.place_of-end.ensures.place ends_list (λ line found is. is) ∙ ap (λ ls. position_or_len ends_list (lines_of ls)) c.deref.ensures.value in
    let any = some_passes ends_list lines (omega (arith, place, length-map c.in_ok-lines.lines.items (λ l. l.now), c.in_ok-lines.lines.ok.0)) in
    let front = take c.place_of-end.result c.deref-2.result.now in
    let front_is = front_lines c.in_ok-lines.lines.items c.deref-2.result.now c.place_of-end.result c.deref-2.ensures.value place in
    let first : c.place_of.result ≡ position_or_len is_file_line (lines_of front) = c.place_of.ensures.place is_file_line (λ line found is. is) in
    let none : list_any is_file_line (lines_of front) ≡ false = none_pass is_file_line (lines_of front) (omega (arith, first, c.if-place_of-front.false, length-map front (λ l. l.now))) in
    let listing = c.listing_in-listing.result.now in
    let listing_is : lines_of listing ≡ after_first begins_list (before_first ends_list lines) = c.listing_in-listing.ensures ∙ ap (after_first begins_list) front_is in
    let quotes : lines_of (take c.place_of-2.result listing) ≡ before_first begins_list (after_first begins_list (before_first ends_list lines)) =
    sym (take-map (λ l. l.now) c.place_of-2.result listing)
    ∙ (ap (λ n. take n (lines_of listing)) (c.place_of-2.ensures.place begins_list (λ line found is. is)) ∙ ap (before_first begins_list) listing_is)
    in
    let for_quotes = c.in_ok-directories_in-2.field-0 in
    rw (← c.in_ok-lines.ensures) (record {
      whole = any;
      no_file = subst (λ (ls : List (List ℕ)). list_any is_file_line ls ≡ false) front_is none;
      searched = subst (λ (ls : List (List ℕ)). AreRead listed_line ls (byte_lists c.in_ok-directories_in.field-0)) listing_is (c.in_ok-directories_in.ensures listed_line (λ line found reads. reads));
      for_quotes = byte_lists for_quotes;
      are_for_quotes = subst (λ (ls : List (List ℕ)). AreRead listed_line ls (byte_lists for_quotes)) quotes (c.in_ok-directories_in-2.ensures listed_line (λ line found reads. reads));
      quoted_is = omega (arith, c.len-2.ensures, for_quotes.ok.0, length-map for_quotes.items (λ d. d.items));
      left_out = subst (λ (ls : List (List ℕ)). AreRead missing_line ls (byte_lists c.in_ok-directories_in-3.field-0)) front_is (c.in_ok-directories_in-3.ensures missing_line (λ line found reads. reads));
      same = subst (λ (ls : List (List ℕ)). AreRead duplicate_line ls (byte_lists c.in_ok-directories_in-4.field-0)) front_is (c.in_ok-directories_in-4.ensures duplicate_line (λ line found reads. reads));
    })
