use Rattle.std.proofs.Common.{refl}
use Rattle.cck_cache.proofs.look.look_for.Goals as goal

pub returns-in-Object : goal.returns-in-Object
returns-in-Object g c calm is_request own =
    let is = rw c.in-Object.is at (c.in_ok-looked.ensures (record { calm = calm; is_request = is_request; is_key = own })) in
    (refl, is.0, is.1, is.2, is.3)

pub returns : goal.returns
returns g c calm is_request own =
    let is = rw c.in-Missed.is at (c.in_ok-looked.ensures (record { calm = calm; is_request = is_request; is_key = own })) in
    (refl, is)
