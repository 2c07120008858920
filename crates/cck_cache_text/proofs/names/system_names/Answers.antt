use Rattle.std.proofs.Common.{◌≡◌, ◌∙◌, ℕ, inl, inr, Bor, List, ap, map, subst, sym}
use Rattle.std.specs.List.{each_same}
use Rattle.cck_cache_text.specs.Names.{IsEnteredBy, is_system_name}
use Rattle.cck_cache_text.specs.SearchList.{text_lines}
use Rattle.cck_cache_text.specs.Sets.{Adds, has_key}
use Rattle.cck_cache_text.proofs.SetLemmas.{has-copy}
use Rattle.cck_cache_text.proofs.names.system_names.Goals as goal

pub returns : goal.returns
returns c marks are q =
    let text = c.args.text.now in
    let old = c.in_ok-systems.systems in
    let lines : map (λ (line : Bor (List ℕ)). line.now) c.deref.result.now ≡ text_lines text =
    ap (map (λ (line : Bor (List ℕ)). line.now)) c.deref.ensures.value ∙ (c.in_ok-text_lines.ensures ∙ ap text_lines c.bytes.ensures)
    in
    let adds : Adds (IsEnteredBy (text_lines text)) old c.add_entered.new.systems = subst (λ (ls : List (List ℕ)). Adds (IsEnteredBy ls) old c.add_entered.new.systems) lines c.in_ok-add_entered.ensures in
    let first : has_key old q ≡ is_system_name marks q =
    has-copy _ (λ v w copy. each_same v.items w.items copy.0) c.named.result.now.systems old c.in_ok-systems.ensures.cases q ∙ (c.named.ensures marks are).systems q in (
      λ h. elim ((adds q).0 h) [
        | inl entered ↦ inr entered
        | inr known ↦ inl (sym first ∙ known)
      ],
      λ p. (adds q).1 (elim p [
        | inl known ↦ inr (first ∙ known)
        | inr entered ↦ inl entered
      ]),
    )
