use Rattle.std.proofs.Common.{◌∙◌, ◌++◌, sym, ap, append-nil}
use Rattle.cck_explain_listing.specs.CutListing.{text_cut_lines}
use Rattle.cck_explain_listing.proofs.CutLineLemmas.{is_none, no_lines}
use Rattle.cck_explain_listing.proofs.cut_line.push_text_cuts.Goals as goal

pub returns-then-is_empty : goal.returns-then-is_empty
returns-then-is_empty c =
    let none = is_none (λ v. v.items) c.args.basedirs.now (sym c.is_empty.ensures ∙ c.if-is_empty.true) in
    sym (append-nil c.args.lines.now.items)
    ∙ ap (λ l. c.args.lines.now.items ++ l) (sym (ap (λ b. text_cut_lines b c.args.name.now c.args.text.now) none ∙ no_lines c.args.name.now c.args.text.now))
