use Rattle.std.proofs.Common.{rules, ◌≡◌, [], string_bytes}
use Rattle.std.proofs.lemmas.Result.{IfOk-weaker}
use Rattle.std.specs.Prelude.{String}
use Rattle.std.specs.declared.alloc.Global.{Global}
use Rattle.cck_cache.specs.Naming.{IsName, IsNameIn}
use Rattle.cck_cache_rules.specs.PathTest.{tests_of}
use Rattle.cck_cache.proofs.NamingLemmas.{entry_read}
use Rattle.cck_cache.proofs.naming.name_in.Goals as goal

pub returns : goal.returns
returns c =
    let request = c.args.request.now in
    let input = c.args.input.now in
    let key = c.args.key.now in
    let bytes = c.args.bytes.now in
    let tests = tests_of c.args.tests.now in
    let entry = c.in_ok-entry.entry in
    let some : bytes ≡ [] → ⊥ = search rules in
    let is_entry = entry_read entry bytes c.in_ok-entry.ensures.reads some in
    IfOk-weaker c.name_of.result (λ (name : String Global). IsName request input entry tests key (string_bytes name)) (λ (name : String Global). IsNameIn request input bytes tests key (string_bytes name))
    (λ name is. record { entry = entry; is_entry = is_entry; is_name = is }) c.name_of.ensures
