-- What written variables ask for.
use Rattle.std.proofs.Common.{◌≡◌, true, false, [], ◌∷◌, codes, refl}
use Rattle.cck_hasher.specs.Keys.{is_direct}

switched_off : is_direct ((codes "SCCACHE_DIRECT", codes "OFF") ∷ []) ≡ false
unfolding is_direct
switched_off = refl

switched_off_by_0 : is_direct ((codes "A", codes "1") ∷ (codes "SCCACHE_DIRECT", codes "0") ∷ []) ≡ false
unfolding is_direct
switched_off_by_0 = refl

-- the first of two counts
first_counts : is_direct ((codes "SCCACHE_DIRECT", codes "true") ∷ (codes "SCCACHE_DIRECT", codes "off") ∷ []) ≡ true
unfolding is_direct
first_counts = refl

on_without_variables : is_direct [] ≡ true
unfolding is_direct
on_without_variables = refl
