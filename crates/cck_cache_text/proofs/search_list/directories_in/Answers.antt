use Rattle.std.proofs.Common.{map, Bor, List, ℕ, ◌∷◌, [], ◌++◌, Some, None, ap, subst, sym, ◌∙◌}
use Rattle.std.proofs.lemmas.List.{append-nil, map-append, take_all}
use Rattle.cck_cache_rules.specs.Reading.{AreRead}
use Rattle.cck_cache_text.proofs.SearchLemmas.{more_read, none_read}
use Rattle.cck_cache_text.proofs.search_list.directories_in.Goals as goal
use Rattle.cck_cache_text.proofs.search_list.directories_in.Goals.{in-Some+in_ok-to_vec+in_ok-push, in_default}

pub loop-line-init : goal.loop-line-init
loop-line-init g c write reads = none_read write _ (ap (map (λ d. d.items)) c.new-found.ensures.items)

pub loop-line-preserved : goal.loop-line-preserved
loop-line-preserved g c write reads =
    let lines = c.args.lines.now in
    let i = c.loop-line.line-index in
    let d : Bor (List ℕ) = record { ref_ptr = (0, 0); now = [] } in
    let known = map (λ d. d.items) c.loop-line.found.items in
    let before = c.loop-line.invariant write reads in
    elim c.match-directory_of.branch [
      | in-Some+in_ok-to_vec+in_ok-push w ↦ more_read write lines i d known _ (Some w.in-Some.directory.now) c.loop-line-test.true before (reads _ _ w.in-Some.ensures)
          (ap (λ f. map (λ d. d.items) f.items) w.found-is ∙ (ap (map (λ d. d.items)) w.in_ok-push.ensures.items ∙ (map-append (λ d. d.items) c.loop-line.found.items (w.in_ok-to_vec.field-0 ∷ []) ∙ ap (λ d. known ++ d ∷ []) (w.in_ok-to_vec.ensures.items_if_clones_equal (λ x y e. e)))))
      | in_default w ↦ more_read write lines i d known _ None c.loop-line-test.true before (reads _ _ w.in_default.ensures)
          (ap (λ f. map (λ d. d.items) f.items) w.found-is ∙ sym (append-nil known))
    ]

pub returns : goal.returns
returns g c write reads =
    let lines = c.args.lines.now in
    let all = take_all c.loop-line.line-index lines c.loop-line-test.false in
    subst (λ (ls : List (Bor (List ℕ))). AreRead write (map (λ l. l.now) ls) (map (λ d. d.items) c.loop-line.found.items)) all (c.loop-line.invariant write reads)
