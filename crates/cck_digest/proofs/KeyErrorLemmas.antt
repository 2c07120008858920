-- The equality tests decide whether two errors of calls for keys are the same.
use Rattle.std.proofs.Common.{◌≡◌, refl, ap}
use Rattle.std.proofs.lemmas.Bool.Decides.{Decides-like}
use Rattle.std.specs.Prelude.{Decides}
use denote.Enum.Bare.{same_true, true_same}
use denote.Enum.Declared.{tag_of}
use Rattle.cck_digest.proofs.EqualityLemmas.{apart, util_decides}
use Rattle.cck_digest.proofs.EntryErrorLemmas.{error_decides}
use Rattle.cck_digest.specs.contracts.key_error.KeyError.{the_type as key_error}
use Rattle.cck_digest.specs.contracts.key_error.KeyErrorPartialEq.TheImpl as same_key
use Rattle.cck_digest.specs.contracts.preprocess_error.PreprocessError.{the_type as preprocess_error}
use Rattle.cck_digest.specs.contracts.preprocess_error.PreprocessErrorPartialEq.TheImpl as same_text
use Rattle.cck_digest.specs.declared.key_error.KeyError.{KeyError}
use Rattle.cck_digest.specs.declared.key_error.KeyError.TheVariants.{Memory, Extra, Input, Store, Entry, Preprocess, Marker}
use Rattle.cck_digest.specs.declared.preprocess_error.PreprocessError.{PreprocessError}

pub text_decides : (a b : PreprocessError) → Decides (same_text.ghosts.eq a b) (a ≡ b)
text_decides a b = (same_true preprocess_error tt a b, true_same preprocess_error a b)

pub key_decides : (a b : KeyError) → Decides (same_key.ghosts.eq a b) (a ≡ b)
key_decides Memory Memory = (λ _. refl, λ _. refl)
key_decides (Extra a) (Extra b) = Decides-like _ (λ e. ap Extra e) (λ e. cc) (util_decides a b)
key_decides (Input a) (Input b) = Decides-like _ (λ e. ap Input e) (λ e. cc) (util_decides a b)
key_decides Store Store = (λ _. refl, λ _. refl)
key_decides (Entry a) (Entry b) = Decides-like _ (λ e. ap Entry e) (λ e. cc) (error_decides a b)
key_decides (Preprocess a) (Preprocess b) = Decides-like _ (λ e. ap Preprocess e) (λ e. cc) (text_decides a b)
key_decides Marker Marker = (λ _. refl, λ _. refl)
key_decides a b = apart (tag_of key_error) a b refl refl
