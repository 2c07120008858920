use Rattle.std.proofs.Common.{◌≡◌, ◌∙◌, ◌||◌, List, ℕ, ap}
use Rattle.std.specs.List.{each_same}
use Rattle.std.specs.Str.{bytes_eq}
use Rattle.cck_cache_text.specs.Names.{is_named}
use Rattle.cck_cache_text.specs.Sets.{has_key}
use Rattle.cck_cache_text.proofs.SetLemmas.{has-copy, has-insert}
use Rattle.cck_cache_files.proofs.CopyLemmas.{one_name}
use Rattle.cck_cache_files.proofs.copies.names_of.Goals as goal

pub returns : goal.returns
returns c marks are =
    let old = c.in_ok-names.names in
    let new = c.insert.new.self in
    let copy = c.in_ok-to_vec.ensures.items_if_clones_equal (λ x y e. e) in
    let named : (name : List ℕ) → has_key old name ≡ is_named marks name =
    λ name. has-copy _ (λ v w same. each_same v.items w.items same.0) c.names.result.now old c.in_ok-names.ensures.cases name ∙ c.names.ensures marks are name in
    one_name old new c.args.input.now (is_named marks)
    (λ name. has-insert old new c.in_ok-to_vec.field-0 c.in_ok-insert.ensures.keys name ∙ ap (λ n. bytes_eq name n || has_key old name) copy) named
