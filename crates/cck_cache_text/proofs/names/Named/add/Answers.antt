use Rattle.std.proofs.Common.{◌&&◌, ◌||◌, sym, ap, ◌∙◌}
use Rattle.std.specs.Str.{bytes_eq}
use Rattle.cck_cache_text.specs.Sets.{has_key}
use Rattle.cck_cache_text.proofs.NameLemmas.{new_added, no_file_added, seen_added}
use Rattle.cck_cache_text.proofs.SetLemmas.{contains-has, has-insert}
use Rattle.cck_cache_text.proofs.names.Named.add.Goals as goal
use Rattle.cck_cache_text.proofs.names.Named.add.Goals.{then-is_no_file-via-then-is_no_file, then-is_no_file-via-else-is_no_file+then-contains}

pub returns-then-is_no_file : goal.returns-then-is_no_file
returns-then-is_no_file c marks are =
    let name = c.args.name.now in
    let names = c.args.self.now.names in
    elim c.then-is_no_file.branch [
      | then-is_no_file-via-then-is_no_file w ↦ no_file_added marks name c.args.is_system c.args.self.now (sym c.is_no_file.ensures ∙ w.if-is_no_file.true) are
      | then-is_no_file-via-else-is_no_file+then-contains w ↦ seen_added marks name c.args.is_system c.args.self.now (sym (contains-has names name) ∙ sym w.if-contains.ensures) are
    ]

pub returns-in_ok-insert-3 : goal.returns-in_ok-insert-3
returns-in_ok-insert-3 c marks are =
    let name = c.args.name.now in
    let old = c.args.self.now in
    let copy = c.in_ok-to_vec.ensures.items_if_clones_equal (λ x y e. e) in
    let directory = c.in_ok-to_vec-2.ensures.items_if_clones_equal (λ x y e. e) ∙ c.directory_of.ensures in
    let system = c.in_ok-to_vec-3.ensures.items_if_clones_equal (λ x y e. e) in
    new_added marks name c.args.is_system old _ (sym c.is_no_file.ensures ∙ c.if-is_no_file.false) (sym (contains-has old.names name) ∙ sym c.if-contains.ensures) are
    (λ q. has-insert old.names c.insert.new.self c.in_ok-to_vec.field-0 c.in_ok-insert.ensures.keys q ∙ ap (λ n. bytes_eq q n || has_key old.names q) copy)
    (λ d. has-insert old.directories c.insert-2.new.self c.in_ok-to_vec-2.field-0 c.in_ok-insert-2.ensures.keys d ∙ ap (λ n. bytes_eq d n || has_key old.directories d) directory)
    (λ q. has-insert old.systems c.insert-then-is_system.new.self c.in_ok-to_vec-3.field-0 c.in_ok-insert-3.ensures.keys q
    ∙ (ap (λ n. bytes_eq q n || has_key old.systems q) system ∙ ap (λ s. (s && bytes_eq q name) || has_key old.systems q) (sym c.if-is_system.true)))

pub returns-else-is_system : goal.returns-else-is_system
returns-else-is_system c marks are =
    let name = c.args.name.now in
    let old = c.args.self.now in
    let copy = c.in_ok-to_vec.ensures.items_if_clones_equal (λ x y e. e) in
    let directory = c.in_ok-to_vec-2.ensures.items_if_clones_equal (λ x y e. e) ∙ c.directory_of.ensures in
    new_added marks name c.args.is_system old _ (sym c.is_no_file.ensures ∙ c.if-is_no_file.false) (sym (contains-has old.names name) ∙ sym c.if-contains.ensures) are
    (λ q. has-insert old.names c.insert.new.self c.in_ok-to_vec.field-0 c.in_ok-insert.ensures.keys q ∙ ap (λ n. bytes_eq q n || has_key old.names q) copy)
    (λ d. has-insert old.directories c.insert-2.new.self c.in_ok-to_vec-2.field-0 c.in_ok-insert-2.ensures.keys d ∙ ap (λ n. bytes_eq d n || has_key old.directories d) directory)
    (λ q. ap (λ s. (s && bytes_eq q name) || has_key old.systems q) (sym c.if-is_system.false))
