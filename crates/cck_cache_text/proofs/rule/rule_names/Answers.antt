use Rattle.std.proofs.Common.{[], ◌∷◌, ◌++◌, Some, refl, sym, ap, ◌∙◌, append_assoc}
use Rattle.std.specs.List.{flat_map}
use Rattle.std.proofs.lemmas.Bool.{and_from}
use Rattle.std.proofs.lemmas.List.{append-nil, flat_map_more}
use Rattle.std.proofs.lemmas.List.Folds.{list_all-append}
use Rattle.cck_cache_text.specs.Rule.{is_piece, names_of, piece_text}
use Rattle.cck_cache_text.proofs.RuleLemmas.{only_pieces}
use Rattle.cck_cache_text.proofs.rule.rule_names.Goals as goal

pub loop-piece-preserved : goal.loop-piece-preserved
loop-piece-preserved c =
    let done = c.loop-piece.invariant.0 in
    let piece = c.in-Some-first_piece.piece in
    let after = c.in-Some-first_piece.after.now in
    let found = c.in-Some-first_piece.ensures in (
      done ++ piece ∷ [],
      list_all-append is_piece done (piece ∷ []) ∙ and_from _ _ c.loop-piece.invariant.1 (and_from _ _ found.0 refl),
      c.loop-piece.invariant.2
          ∙ ap Some (ap (λ l. flat_map piece_text done ++ l) found.1
          ∙ (sym (append_assoc (flat_map piece_text done) (piece_text piece) after) ∙ ap (λ l. l ++ after) (flat_map_more piece_text [] done piece))),
      λ more. c.in_ok-add.ensures more ∙ (c.loop-piece.invariant.3 (piece ∷ more) ∙ ap names_of (sym (append_assoc done (piece ∷ []) more))),
    )

pub returns-then-not-ends_rule : goal.returns-then-not-ends_rule
returns-then-not-ends_rule c names rule =
    let only = only_pieces c.args.rule.now c.loop-piece.rest.now c.loop-piece.invariant.0 names c.loop-piece.invariant.1 c.loop-piece.invariant.2 c.in_default-first_piece.ensures rule in
    let ends = only.1 in
    cc

pub returns : goal.returns
returns c =
    let text = c.args.rule.now in
    let rest = c.loop-piece.rest.now in
    let done = c.loop-piece.invariant.0 in
    let all = c.loop-piece.invariant.1 in
    let is = c.loop-piece.invariant.2 in
    let are = c.in_ok-end.ensures.ended ∙ (c.loop-piece.invariant.3 [] ∙ ap names_of (append-nil done)) in (
      record { pieces = done; rest = rest; are_pieces = all; is = is; ends = sym c.ends_rule.ensures ∙ c.if-not-ends_rule.false; are_names = are },
      λ names rule. (only_pieces text rest done names all is c.in_default-first_piece.ensures rule).0 ∙ sym are,
    )
