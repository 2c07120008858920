use Rattle.std.proofs.Common.{rules, ◌≡◌, length, refl, sym, ap, subst}
use Rattle.cck_entry.proofs.KnownLemmas.{kept_found, known_more}
use Rattle.cck_entry.specs.Known.{AreFound}
use Rattle.cck_path.specs.Path.{components}
use Rattle.cck_entry.proofs.known.KnownFiles.add.Goals as goal

pub returns-in-Err-clause-known : goal.returns-in-Err-clause-known
returns-in-Err-clause-known c = λ s files there none right. (right.0, subst (AreFound c.args.self.now.files.items) (sym c.in-Err.ensures.kept) right.1)

pub returns-in_err-to_vec-clause-known : goal.returns-in_err-to_vec-clause-known
returns-in_err-to_vec-clause-known c = λ s files there none right.
    (right.0, kept_found c.args.self.now.files.items c.args.self.now.places _ (components c.args.path.now) c.len-place.result c.in-Ok.ensures.set none right.1)

pub returns-in_err-push-clause-known : goal.returns-in_err-push-clause-known
returns-in_err-push-clause-known c = λ s files there none right.
    rw c.in_err-push.ensures.items
    (right.0, kept_found c.args.self.now.files.items c.args.self.now.places _ (components c.args.path.now) c.len-place.result c.in-Ok.ensures.set none right.1)

pub returns-then-self-place-clause-known : goal.returns-then-self-place-clause-known
returns-then-self-place-clause-known c = λ s files there none right.
    let count : c.len-place.result ≡ length c.args.self.now.files.items = search rules in
    known_more s files c.args.self.now.files.items _ _ c.args.self.now.places _ (components c.args.path.now) c.len-place.result
    c.in_ok-push.ensures.items (ap components (c.in_ok-to_vec.ensures.items_if_clones_equal (λ x y e. e))) refl count c.in-Ok.ensures.set there none right

pub returns-else-self-place-clause-known : goal.returns-else-self-place-clause-known
returns-else-self-place-clause-known c = λ s files there none right.
    let count : c.len-place.result ≡ length c.args.self.now.files.items = search rules in
    known_more s files c.args.self.now.files.items _ _ c.args.self.now.places _ (components c.args.path.now) c.len-place.result
    c.in_ok-push.ensures.items (ap components (c.in_ok-to_vec.ensures.items_if_clones_equal (λ x y e. e))) refl count c.in-Ok.ensures.set there none right
