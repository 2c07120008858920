use Rattle.std.proofs.Common.{rules, ◌≡◌}
use Rattle.std.specs.String.{string_bytes}
use Rattle.cck_util.proofs.MapEntries.{kept_in_map}
use Rattle.cck_util.proofs.map_store.MapStore.keep.Goals as goal

pub returns-in-Ok-clause-kept : goal.returns-in-Ok-clause-kept
returns-in-Ok-clause-kept c =
    let same : string_bytes c.in_ok-key.key ≡ c.args.key.now = search rules in
    let items : c.in_ok-bytes.bytes.items ≡ c.args.bytes.now = search rules in
    rw (← c.self.view_is)
    (kept_in_map c.self.inside.pairs.entries c.insert.new.self.entries c.in_ok-key.key c.in_ok-bytes.bytes c.args.key.now c.args.bytes.now
    c.self.inside.failures c.self.inside.forget c.self.inside.armed c.in-Ok.ensures.entries same items)
