use Rattle.std.proofs.Common.{◌≡◌, ◌∙◌, ◌||◌, ◌≤◌, ℕ, List, Bool, false, true, length, not, refl, sym, ap, arith}
use Rattle.std.proofs.lemmas.List.{take_rest}
use Rattle.cck_strip.specs.Pieces.{IsEnd, IsPassed}
use Rattle.cck_strip.proofs.PieceLemmas.{IsNextPlace-same, IsPassed-more, IsPassed-place, IsNextPiece-last, IsNextPiece-part, IsNextPiece-site, none_from, within_same}
use Rattle.cck_strip.proofs.cuts.next_piece.Goals as goal
use Rattle.cck_strip.proofs.cuts.next_piece.Goals.{then-not-is_cut-via-then-not-is_cut, then-not-is_cut-via-else-not-is_cut+then-copied-text}

pub loop-place-init : goal.loop-place-init
loop-place-init g c = record { passed = c.requires.passed; same = refl }

pub loop-place-preserved : goal.loop-place-preserved
loop-place-preserved g c =
    let value = c.length_at-length.ensures in
    let none : c.length_at-length.result ≡ 0 = omega arith in
    let here : g.S.Sites.site c.args.sites.now c.in-Some.place ≡ 0 = sym value ∙ none in
    let next = IsNextPlace-same (g.S.Sites.site c.args.sites.now) _ c.args.text.now c.loop-place.from c.in-Some.place c.requires.text_is c.in-Some.ensures in
    let place = IsPassed-place (g.S.Sites.site c.args.sites.now) (length c.args.text.now) _ c.loop-place.from c.in-Some.place c.loop-place.invariant.passed next in
    record {
      passed = IsPassed-more (g.S.Sites.site c.args.sites.now) (length c.args.text.now) _ c.in-Some.place place next.within here;
      same = c.loop-place.invariant.same;
    }

pub returns-then-length-gt0-clause-outcome : goal.returns-then-length-gt0-clause-outcome
returns-then-length-gt0-clause-outcome g c =
    let value = c.length_at-length.ensures in
    let within = within_same (g.S.Sites.site c.args.sites.now) _ c.args.text.now c.requires.text_is (g.met.S.Sites.within c.args.sites.now) in
    let next = IsNextPlace-same (g.S.Sites.site c.args.sites.now) _ c.args.text.now c.loop-place.from c.in-Some.place c.requires.text_is c.in-Some.ensures in
    let place = IsPassed-place (g.S.Sites.site c.args.sites.now) (length c.args.text.now) _ c.loop-place.from c.in-Some.place c.loop-place.invariant.passed next in
    rw value (IsNextPiece-site (g.S.Sites.site c.args.sites.now) c.args.text.now _ _ c.in-Some.place within place (rw (← value) c.if-length-gt0.true))

pub returns-then-place-copied-ge-COPIED_STRETCH-clause-outcome : goal.returns-then-place-copied-ge-COPIED_STRETCH-clause-outcome
returns-then-place-copied-ge-COPIED_STRETCH-clause-outcome g c =
    let value = c.length_at-length.ensures in
    let within = within_same (g.S.Sites.site c.args.sites.now) _ c.args.text.now c.requires.text_is (g.met.S.Sites.within c.args.sites.now) in
    let next = IsNextPlace-same (g.S.Sites.site c.args.sites.now) _ c.args.text.now c.loop-place.from c.in-Some.place c.requires.text_is c.in-Some.ensures in
    let place = IsPassed-place (g.S.Sites.site c.args.sites.now) (length c.args.text.now) _ c.loop-place.from c.in-Some.place c.loop-place.invariant.passed next in
    let later : c.args.progress.now.is_cut ≡ true = c.if-is_cut.true in
    IsNextPiece-part (g.S.Sites.site c.args.sites.now) c.args.text.now _ _ c.in-Some.place within place (sym value ∙ omega arith) (omega arith) (ap not later)

-- what is left where no piece is: nothing was cut, or the text ends
no_piece : (site : ℕ → ℕ) (text : List ℕ) (was_cut is_cut : Bool) (copied from : ℕ) → IsPassed site (length text) copied from → ((k : ℕ) → from ≤ k → site k ≡ 0)
    → is_cut ≡ was_cut → (is_cut ≡ true → copied ≡ length text) → IsEnd site text was_cut copied
no_piece site text was_cut is_cut copied from passed none same ends = record {
  uncut = λ e. none_from site (length text) copied from passed none;
  cut = λ e. ends (same ∙ e);
}

pub returns-then-not-is_cut-clause-passed_still : goal.returns-then-not-is_cut-clause-passed_still
returns-then-not-is_cut-clause-passed_still g c = rw c.loop-place.invariant.same c.requires.passed

pub returns-then-not-is_cut-clause-outcome : goal.returns-then-not-is_cut-clause-outcome
returns-then-not-is_cut-clause-outcome g c =
    no_piece (g.S.Sites.site c.args.sites.now) c.args.text.now _ c.args.progress.now.is_cut _ _ c.loop-place.invariant.passed c.in_default.ensures
    refl (elim c.then-not-is_cut.branch [
      | then-not-is_cut-via-then-not-is_cut w ↦ λ e. absurd (cc (e, w.if-not-is_cut.true))
      | then-not-is_cut-via-else-not-is_cut+then-copied-text w ↦ λ e. w.if-copied-text.true
    ])

or_false : (b : Bool) → b ≡ (b || false)
or_false true = refl
or_false false = refl

pub returns-then-not-is_cut-clause-is_cut : goal.returns-then-not-is_cut-clause-is_cut
returns-then-not-is_cut-clause-is_cut g c = ap (λ p. p.is_cut) c.loop-place.invariant.same ∙ or_false c.args.progress.now.is_cut

pub returns-clause-outcome : goal.returns-clause-outcome
returns-clause-outcome g c =
    let within = within_same (g.S.Sites.site c.args.sites.now) _ c.args.text.now c.requires.text_is (g.met.S.Sites.within c.args.sites.now) in
    let later : c.args.progress.now.is_cut ≡ true = c.if-not-is_cut.false in
    rw take_rest (IsNextPiece-last (g.S.Sites.site c.args.sites.now) c.args.text.now _ _ _ within c.loop-place.invariant.passed c.in_default.ensures c.if-copied-text.false (ap not later))
