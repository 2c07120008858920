use Rattle.std.proofs.Common.{Bor, List, ℕ, string_bytes, subst}
use Rattle.std.specs.Option.{option_map}
use Rattle.cck_cache_files.specs.declared.store_directory.Kind.TheVariants as kind
use Rattle.cck_cache_store.specs.Given.{IsGiven}
use Rattle.cck_cache_store.specs.declared.given.Given.TheVariants as given
use Rattle.cck_path.specs.Bytes.{Bytes}
use Rattle.cck_cache.specs.Look.{IsObjectIn}
use Rattle.cck_cache.proofs.LookLemmas.{object_given}
use Rattle.cck_cache.proofs.look.given_object.Goals as goal

pub returns-clause-given : goal.returns-clause-given
returns-clause-given g c =
    let lookup = c.args.lookup.now in
    let outputs = lookup.wanted.now.outputs in
    let name = string_bytes c.args.name in
    let key = option_map (λ (k : Bor (List ℕ)). k.now) lookup.verify_key in
    let bytes = c.in-File.bytes in
    let file = c.in_ok-value.value in
    let found = c.in_ok-found.found in
    let is : IsGiven (g.S.Peer.has c.args.peer.now kind.Object name) key kind.Object name (given.File bytes) =
    subst (λ (n : Bytes). IsGiven (g.S.Peer.has c.args.peer.now kind.Object n) key kind.Object n (given.File bytes)) c.as_str.ensures.value (rw c.in-File.is at c.in_ok-bytes.ensures)
    in
    object_given (g.S.Peer.has c.args.peer.now) key outputs name bytes file found is
    (subst (λ (b : Bytes). IsObjectIn outputs name b file found) c.deref.ensures.value c.in_ok-found.ensures.read)
