use Rattle.std.proofs.Common.{Contains, List, ℕ, map, subst}
use Rattle.std.specs.Global.{Vec}
use Rattle.cck_cache_text.specs.Absent.{IsForImplicit}
use Rattle.cck_cache_text.specs.SearchList.{search_fields}
use Rattle.cck_cache_text.specs.Sets.{Adds, has_key}
use Rattle.cck_cache_text.proofs.AbsentLemmas.{InFirst, all_found, for_implicit, none_found}
use Rattle.cck_cache_text.proofs.SetLemmas.{set_added}
use Rattle.cck_cache_text.proofs.absent.absent_names.Goals as goal

pub returns-then-branch : goal.returns-then-branch
returns-then-branch c marks are =
    let named = c.named-named.result.now in
    let included = c.in_ok-included in
    let first = c.add_copies.new.paths in
    let start = c.add_in.new.paths in
    let implicit : Adds (IsForImplicit (has_key named.names) (search_fields c.args.search.now).directories) first start =
    for_implicit (has_key named.names) c.args.search.now.directories.items first start
    (subst (λ (ds : List (Vec ℕ)). Adds (InFirst (has_key named.names) ds) first start) c.deref-2.ensures.value c.in_ok-add_in.ensures) in
    all_found c.args.text.now (map (λ a. a.items) c.args.arguments.now) included.included.quoted (rw c.bytes.ensures at included.ensures).quoted marks named (c.named-named.ensures marks are) (search_fields c.args.search.now) first start
    (set_added (Contains (search_fields c.args.search.now).missing) c.new-paths.result first c.new-paths.ensures.empty (rw c.deref.ensures.value at c.in_ok-add_copies.ensures)) implicit c.add_names.new.paths (rw (c.if-branch.true, c.deref-3.ensures.value) at c.in_ok-add_names.ensures)

pub returns : goal.returns
returns c marks are =
    let named = c.named-named.result.now in
    let included = c.in_ok-included in
    let first = c.add_copies.new.paths in
    let start = c.add_in.new.paths in
    let implicit : Adds (IsForImplicit (has_key named.names) (search_fields c.args.search.now).directories) first start =
    for_implicit (has_key named.names) c.args.search.now.directories.items first start
    (subst (λ (ds : List (Vec ℕ)). Adds (InFirst (has_key named.names) ds) first start) c.deref-2.ensures.value c.in_ok-add_in.ensures) in
    none_found c.args.text.now (map (λ a. a.items) c.args.arguments.now) included.included.quoted (rw c.bytes.ensures at included.ensures).quoted marks named (c.named-named.ensures marks are) (search_fields c.args.search.now) first start
    (set_added (Contains (search_fields c.args.search.now).missing) c.new-paths.result first c.new-paths.ensures.empty (rw c.deref.ensures.value at c.in_ok-add_copies.ensures)) implicit c.add_names.new.paths (rw (c.if-branch.false, c.deref-3.ensures.value) at c.in_ok-add_names.ensures)
