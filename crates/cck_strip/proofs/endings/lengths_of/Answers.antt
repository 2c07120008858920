use Rattle.std.proofs.Common.{◌≡◌, ◌+◌, ◌-◌, ◌<◌, ◌∙◌, inl, inr, Option, None, Some, drop, length, nat_eq, true, unwrap_or, ap, subst, sym, arith}
use Rattle.std.specs.HashMap.{get}
use Rattle.std.specs.Map.{lookup}
use Rattle.std.proofs.lemmas.Bool.{cases_eq}
use Rattle.std.proofs.lemmas.List.{drop_all, drop_more}
use Rattle.cck_strip.specs.Endings.{IsLongest}
use Rattle.cck_strip.specs.Text.{is_boundary, longest_prefix}
use Rattle.cck_strip.specs.declared.node.NodeId.{NodeId}
use Rattle.cck_strip.proofs.EndingLemmas.{IsLongest-empty, length_of_text, longest_empty}
use Rattle.cck_strip.proofs.endings.lengths_of.Goals as goal

none : (id : NodeId) → ◌≡◌ {A = Option NodeId} None (Some id) → ⊥
none id e = cc

pub loop-at-init : goal.loop-at-init
loop-at-init c = record {
  within = omega arith;
  state_within = λ id e. absurd (none id e);
  longest = λ words t. subst (IsLongest c.args.nodes.now words None) (sym (drop_all (length c.args.text.now) c.args.text.now (omega arith))) (IsLongest-empty _ _);
  fresh = λ k lt. ap (lookup (nat_eq k)) c.new-lengths.ensures.empty;
  listed = λ words t k le ge b.
      ap (λ es. unwrap_or (lookup (nat_eq k) es) 0) c.new-lengths.ensures.empty ∙ (longest_empty words ∙ ap (longest_prefix words) (sym (drop_all k c.args.text.now le)));
}

pub loop-at-preserved : goal.loop-at-preserved
loop-at-preserved c =
    let text = c.args.text.now in
    let now = c.loop-at.invariant in
    let some = c.loop-at-test.true in
    let fits = now.within in
    let before : c.loop-at.at ≡ c.loop-at.at - 1 + 1 = omega arith in
    let within : c.loop-at.at - 1 < length text = omega arith in
    let noted = c.in_ok-note_length.ensures in
    record {
      within = omega arith;
      state_within = c.in-Some.ensures.within;
      longest = λ words t.
          subst (IsLongest c.args.nodes.now words c.in-Some.next) (sym (drop_more text (c.loop-at.at - 1) 0 within))
          (c.in-Some.ensures.longest words (drop (c.loop-at.at - 1 + 1) text) t
          (subst (λ n. IsLongest c.args.nodes.now words c.loop-at.state (drop n text)) before (now.longest words t)));
      fresh = λ k lt. noted.others k (λ e. omega arith) ∙ now.fresh k (omega arith);
      listed = λ words t k le ge b. elim (cases_eq k (c.loop-at.at - 1)) [
        | inl e ↦
            subst (λ j. unwrap_or (get nat_eq c.note_length.new.lengths j) 0 ≡ longest_prefix words (drop j text)) (sym e)
            (noted.here (subst (λ j. is_boundary text j ≡ true) e b)
            ∙ length_of_text _ _ _ _ _ _ t c.requires.links
            (subst (IsLongest c.args.nodes.now words c.in-Some.next) (sym (drop_more text (c.loop-at.at - 1) 0 within))
            (c.in-Some.ensures.longest words (drop (c.loop-at.at - 1 + 1) text) t
            (subst (λ n. IsLongest c.args.nodes.now words c.loop-at.state (drop n text)) before (now.longest words t))))
            (sym c.length_of.ensures ∙ c.in-Some-length_of.is))
        | inr ne ↦ ap (λ o. unwrap_or o 0) (noted.others k ne) ∙ now.listed words t k (omega arith) ge b
      ];
    }
