use Rattle.std.proofs.Common.{String, refl}
use Rattle.std.proofs.lemmas.Option.{IfSome_then}
use Rattle.std.specs.declared.alloc.Global.{Global}
use Rattle.cck_cache_rules.specs.Files.{entry_fields}
use Rattle.cck_cache_rules.specs.PathTest.{tests_of}
use Rattle.cck_cache.specs.Look.{IsNamedMatch}
use Rattle.cck_cache.proofs.look.name_by_entry.Goals as goal

pub returns : goal.returns
returns g c from =
    let lookup = c.args.lookup.now in
    let key = lookup.key.now in
    let file = c.args.file.now in
    let copied = c.in_ok-files.ensures.same in
    IfSome_then c.in_ok-found.found (rw copied at (c.in_ok-found.ensures (rw copied from.calm) from.is_request (rw copied from.is_key)))
    (λ (name : String Global) match. (entry_fields file, c.requires, (key, refl, from.is_key, match)))
