use Rattle.std.proofs.Common.{◌≡◌, ◌∙◌, ℕ, Option, IfSome, Vec, ap, inr, length, subst, sym}
use Rattle.std.specs.declared.alloc.Global.{Global}
use Rattle.cck_cache_rules.specs.Value.{compressed_value}
use Rattle.cck_cache_store.proofs.given.given_file.Goals as goal

pub returns-in-Some-2 : goal.returns-in-Some-2
returns-in-Some-2 g c =
    let value = c.in-Some.value in
    let bytes = c.in-Some-tested_value.bytes.now in
    let file = c.in-Some-2.file in
    let frame = c.in-Compressed.frame.now in
    let size = c.in-Compressed.size in
    let has = subst (λ (o : Option (Vec ℕ Global)). IfSome o (λ (v : Vec ℕ Global). g.S.Peer.has c.args.peer.now c.args.kind c.args.name.now v.items)) c.in-Some.is c.in_ok-value.ensures in
    let tested = rw (c.deref.ensures.value, c.in-Some-tested_value.is) at c.tested_value.ensures in
    let framed : bytes ≡ compressed_value size frame = rw c.in-Compressed.is at c.payload_of.ensures in
    let whole : length file.items ≡ size =
    subst (λ (o : Option (Vec ℕ Global)). IfSome o (λ (b : Vec ℕ Global). length b.items ≡ size)) c.in-Some-2.is c.in_ok-file-in-Compressed.ensures in
    (value.items, bytes, has, tested, inr (frame, framed ∙ ap (λ (n : ℕ). compressed_value n frame) (sym whole)))
