use Rattle.std.proofs.Common.{◌≡◌, ◌+◌, ◌<◌, ◌≤◌, ◌-◌, ◌++◌, ◌||◌, ◌∙◌, ℕ, List, Bool, true, false, not, append_assoc, length, drop, take, length-take, refl, sym, ap, arith}
use Rattle.std.proofs.lemmas.List.{drop-drop, take-append-drop}
use Rattle.cck_strip.specs.Pieces.{stripped_from}
use Rattle.cck_strip.proofs.PieceLemmas.{Remains-none, Remains-stripped, cut_before, whole_at_end, within_same}
use Rattle.cck_strip.proofs.into.cut_into.Goals as goal

-- lists that are alike from a place on are alike from each later place on
alike_later : (xs ys : List ℕ) (n m : ℕ) → n ≤ m → drop n xs ≡ drop n ys → drop m xs ≡ drop m ys
alike_later xs ys n m le alike =
    let left : drop (m - n) (drop n xs) ≡ drop m xs = drop-drop (m - n) n xs ∙ ap (λ k. drop k xs) (omega arith) in
    let right : drop (m - n) (drop n ys) ≡ drop m ys = drop-drop (m - n) n ys ∙ ap (λ k. drop k ys) (omega arith) in
    sym left ∙ (ap (drop (m - n)) alike ∙ right)

-- two parts that make up a list
from_parts : (new old kept : List ℕ) (n : ℕ) → take n new ≡ kept → drop n new ≡ drop n old → new ≡ kept ++ drop n old
from_parts new old kept n first last = sym (take-append-drop n new) ∙ cc

-- after a piece and the site where it ends fewer bytes are written than were passed
shorter_still : (was_cut : Bool) (written copied size site : ℕ) → written ≤ copied → (was_cut ≡ true → written < copied) → (not was_cut ≡ true → 0 < site)
    → written + size < copied + size + site
shorter_still true written copied size site le shorter first = let h = shorter refl in omega arith
shorter_still false written copied size site le shorter first = let h = first refl in omega arith

or_true : (b c : Bool) → c ≡ (b || true) → c ≡ false → ⊥
or_true true c e f = cc (e, f)
or_true false c e f = cc (e, f)

pub loop-piece-preserved : goal.loop-piece-preserved
loop-piece-preserved g c =
    let before = c.loop-piece.invariant in
    let next = c.in-Some.ensures.outcome in
    let write = c.write_piece-written in
    let place = write.ensures.place in
    let next_is = next.next_is in
    let within = before.within in
    let written = take c.loop-piece.written c.loop-piece.buffer in
    let rest = stripped_from (g.S.Sites.site c.args.sites.now) c.args.text.now c.next_piece.new.progress.copied in
    record {
      passed = c.next_piece.ensures.passed_still;
      whole = rw write.ensures.piece (append_assoc written c.in-Some.piece.now rest ∙ (ap (λ l. written ++ l) next.is ∙ before.whole));
      within = omega arith;
      uncut = λ e. absurd (or_true c.loop-piece.progress.is_cut c.next_piece.new.progress.is_cut c.in-Some.ensures.is_cut e);
      shorter = λ e. let h = shorter_still c.loop-piece.progress.is_cut _ _ (length c.in-Some.piece.now) _ before.within before.shorter next.first in omega arith;
      rest = write.ensures.rest ∙ alike_later _ _ c.loop-piece.written _ (omega arith) before.rest;
      size = write.auto.buffer ∙ before.size;
    }

pub returns-then-not-progress : goal.returns-then-not-progress
returns-then-not-progress g c =
    let within = within_same _ _ _ c.requires.text_is (g.met.S.Sites.within c.args.sites.now) in
    let end = c.in_default.ensures.outcome in
    let uncut = cut_before c.next_piece.new.progress.is_cut c.loop-piece.progress.is_cut false c.in_default.ensures.is_cut c.if-not-progress.true in
    let start = c.loop-piece.invariant.uncut uncut in (
      sym (Remains-stripped _ _ _ _ within (Remains-none _ _ within (λ k. end.uncut uncut k (let zero = start.0 in omega arith)))),
      rw (start.1) at c.loop-piece.invariant.rest,
    )

pub returns : goal.returns
returns g c =
    let within = within_same _ _ _ c.requires.text_is (g.met.S.Sites.within c.args.sites.now) in
    let end = c.in_default.ensures.outcome in
    let cut = cut_before c.next_piece.new.progress.is_cut c.loop-piece.progress.is_cut true c.in_default.ensures.is_cut c.if-not-progress.false in
    let kept = whole_at_end _ _ _ _ within (end.cut cut) c.loop-piece.invariant.whole in
    let shorter = c.loop-piece.invariant.shorter cut in
    let at_end = end.cut cut in
    let room = c.requires.room in
    let size = c.loop-piece.invariant.size in (
      omega (arith, length-take c.loop-piece.written c.loop-piece.buffer, ap length kept),
      omega arith,
      from_parts _ _ _ c.loop-piece.written kept c.loop-piece.invariant.rest,
    )
