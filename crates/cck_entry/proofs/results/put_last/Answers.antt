use Rattle.std.proofs.Common.{◌∙◌, sym}
use Rattle.std.specs.String.{string_bytes, string_cmp_total}
use Rattle.std.specs.Ordering.{is_lt}
use Rattle.std.proofs.lemmas.List.{map_push}
use Rattle.cck_path.specs.TextOrder.{text_cmp}
use Rattle.cck_path.proofs.LastLemmas.{insert_last, list_all-map}
use Rattle.cck_entry.specs.Results.{result_in}
use Rattle.cck_entry.proofs.results.put_last.Goals as goal

pub returns-clause-ok : goal.returns-clause-ok
returns-clause-ok c =
    let es = c.args.results.now.entries in
    let below = sym (list_all-map (λ r. is_lt (text_cmp r.0 (string_bytes c.args.key))) result_in es) ∙ c.requires in
    rw (c.in_ok-insert.ensures.entries, insert_last string_cmp_total es c.args.key c.args.includes below) (map_push result_in es (c.args.key, c.args.includes))
