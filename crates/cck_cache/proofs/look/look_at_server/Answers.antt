use Rattle.std.proofs.Common.{Bor, List, ℕ, Option, None, Some, IfSome, String, string_bytes, subst}
use Rattle.std.specs.Option.{option_map}
use Rattle.std.specs.declared.alloc.Global.{Global}
use Rattle.cck_cache_files.specs.declared.store_directory.Kind.TheVariants as kind
use Rattle.cck_cache_rules.specs.Contents.{ReadsFor, key_of_entry}
use Rattle.cck_cache_rules.specs.Files.{IsEntryFile, entry_fields, entry_file}
use Rattle.cck_cache_store.specs.Given.{IsGiven}
use Rattle.cck_cache_store.specs.declared.given.Given.TheVariants as given
use Rattle.cck_path.specs.Bytes.{Bytes}
use Rattle.cck_cache.specs.Look.{IsNameOf}
use Rattle.cck_cache.proofs.LookLemmas.{entry_given, looked_kept}
use Rattle.cck_cache.proofs.look.look_at_server.Goals as goal

pub returns-clause-looked : goal.returns-clause-looked
returns-clause-looked g c from =
    let lookup = c.args.lookup.now in
    let name = c.in-Some.name in
    looked_kept lookup None name c.in_ok-looked.looked tt
    (subst (λ (o : Option (String Global)). IfSome o (IsNameOf lookup)) c.in-Some.is (c.in_ok-name.ensures from)) c.in_ok-looked.ensures.kept

pub returns-clause-given : goal.returns-clause-given
returns-clause-given g c =
    let lookup = c.args.lookup.now in
    let name = string_bytes lookup.key.now.text in
    let key = option_map (λ (k : Bor (List ℕ)). k.now) lookup.verify_key in
    let bytes = c.in-File.bytes in
    let fields = entry_fields c.in-Entry.file in
    let is : IsGiven (g.S.Peer.has c.args.peer.now kind.Entry name) key kind.Entry name (given.File bytes) =
    subst (λ (n : Bytes). IsGiven (g.S.Peer.has c.args.peer.now kind.Entry n) key kind.Entry n (given.File bytes)) c.as_str-key.ensures.value (rw c.in-File.is at c.in_ok-bytes.ensures)
    in
    let read : ReadsFor IsEntryFile key_of_entry entry_file name bytes.items (Some fields) =
    subst (λ (n : Bytes). ReadsFor IsEntryFile key_of_entry entry_file n bytes.items (Some fields)) c.as_str-key.ensures.value
    (subst (λ (b : Bytes). ReadsFor IsEntryFile key_of_entry entry_file c.as_str-key.result.now b (Some fields)) c.deref.ensures.value (rw c.in-Entry.is at c.in_ok-file.ensures.read))
    in
    entry_given (g.S.Peer.has c.args.peer.now) key name bytes fields c.in_ok-looked.looked is read
