-- The equality tests of the errors decide whether two errors are equal.
use Rattle.std.proofs.Common.{◌≡◌, ℕ, ◌==◌, Bool, false, refl, sym, ap, ◌∙◌}
use Rattle.std.proofs.lemmas.Bool.{true≢false}
use Rattle.std.proofs.lemmas.Bool.Decides.{Decides-eqb, Decides-like}
use Rattle.std.specs.Prelude.{Decides}
use denote.Enum.Bare.{same_true, true_same}
use denote.Enum.Declared.{tag_of}
use Rattle.cck_digest.specs.contracts.error.FileError.{the_type as file_error}
use Rattle.cck_digest.specs.contracts.error.FileErrorPartialEq.TheImpl as same_file
use Rattle.cck_digest.specs.contracts.error.UtilError.{the_type as util_error}
use Rattle.cck_digest.specs.contracts.error.UtilErrorPartialEq.TheImpl as same_util
use Rattle.cck_digest.specs.declared.error.FileError.{FileError}
use Rattle.cck_digest.specs.declared.error.UtilError.{UtilError}
use Rattle.cck_digest.specs.declared.error.UtilError.TheVariants.{Memory, Read, File, TooDeep, TooLong, Write, IncompleteEscape, InvalidEscape, IncompleteHex, InvalidHex}

-- values with different numbers are not equal
pub apart : {X : Type 0} (number : X → ℕ) (a b : X) {t : Bool} → t ≡ false → (number a == number b) ≡ false → Decides t (a ≡ b)
apart number a b is other =
    (λ e. absurd (true≢false (sym e ∙ is)), λ e. absurd (true≢false (sym ((Decides-eqb (number a) (number b)).1 (ap number e)) ∙ other)))

pub file_decides : (a b : FileError) → Decides (same_file.ghosts.eq a b) (a ≡ b)
file_decides a b = (same_true file_error tt a b, true_same file_error a b)

pub util_decides : (a b : UtilError) → Decides (same_util.ghosts.eq a b) (a ≡ b)
util_decides Memory Memory = (λ _. refl, λ _. refl)
util_decides Read Read = (λ _. refl, λ _. refl)
util_decides (File a) (File b) = Decides-like _ (λ e. ap File e) (λ e. cc) (file_decides a b)
util_decides TooDeep TooDeep = (λ _. refl, λ _. refl)
util_decides TooLong TooLong = (λ _. refl, λ _. refl)
util_decides Write Write = (λ _. refl, λ _. refl)
util_decides IncompleteEscape IncompleteEscape = (λ _. refl, λ _. refl)
util_decides InvalidEscape InvalidEscape = (λ _. refl, λ _. refl)
util_decides IncompleteHex IncompleteHex = (λ _. refl, λ _. refl)
util_decides InvalidHex InvalidHex = (λ _. refl, λ _. refl)
util_decides a b = apart (tag_of util_error) a b refl refl
