-- The equality test decides whether two errors of entries are the same.
use Rattle.std.proofs.Common.{◌≡◌, refl, ap}
use Rattle.std.proofs.lemmas.Bool.Decides.{Decides-eqb, Decides-like}
use Rattle.std.specs.Prelude.{Decides}
use denote.Enum.Declared.{tag_of}
use Rattle.cck_digest.proofs.EqualityLemmas.{apart, util_decides}
use Rattle.cck_digest.specs.contracts.entry_error.Error.{the_type}
use Rattle.cck_digest.specs.contracts.entry_error.ErrorPartialEq.TheImpl as same
use Rattle.cck_digest.specs.declared.entry_error.Error.{Error}
use Rattle.cck_digest.specs.declared.entry_error.Error.TheVariants.{Io, Deserialization, UnknownFormat, Memory}

pub error_decides : (a b : Error) → Decides (same.ghosts.eq a b) (a ≡ b)
error_decides (Io a) (Io b) = Decides-like _ (λ e. ap Io e) (λ e. cc) (util_decides a b)
error_decides Deserialization Deserialization = (λ _. refl, λ _. refl)
error_decides (UnknownFormat a) (UnknownFormat b) = Decides-like _ (λ e. ap UnknownFormat e) (λ e. cc) (Decides-eqb a b)
error_decides Memory Memory = (λ _. refl, λ _. refl)
error_decides a b = apart (tag_of the_type) a b refl refl
