-- Examples of arguments that ask for architectures.
use Rattle.std.proofs.Common.{◌≡◌, true, false, [], ◌∷◌, codes, refl}
use Rattle.cck_compiler.specs.Arguments.{Arguments, archs, is_multiarch}

module _ (a : Arguments) where
  two_architectures : a.arch_args ≡ codes "-arch" ∷ codes "x" ∷ codes "-arch" ∷ codes "y" ∷ codes "-arch" ∷ codes "x" ∷ [] → archs a ≡ codes "x" ∷ codes "y" ∷ []
  unfolding archs
  two_architectures is = rw is refl

  are_multiarch : a.arch_args ≡ codes "-arch" ∷ codes "x" ∷ codes "-arch" ∷ codes "y" ∷ codes "-arch" ∷ codes "x" ∷ [] → is_multiarch a ≡ true
  unfolding archs is_multiarch
  are_multiarch is = rw is refl

  one_architecture : a.arch_args ≡ codes "-arch" ∷ codes "x" ∷ codes "-arch" ∷ codes "x" ∷ [] → is_multiarch a ≡ false
  unfolding archs is_multiarch
  one_architecture is = rw is refl
